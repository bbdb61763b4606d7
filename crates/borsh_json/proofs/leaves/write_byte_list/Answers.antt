use Rattle.borsh_json.specs.{Forms.{form_of}, Places.{lengths_of}, Table.{byte_list}}
use Rattle.borsh_json.proofs.{LeafLaws.{defined, put_hex}, ListLaws.{bytes_say, list_node}}
use Rattle.borsh_json.proofs.leaves.write_byte_list.Goals as goal

pub returns : goal.returns
returns c = λ F ns x parts o h.
    let n = c.args.node.now in
    let es = c.elements_of.result.now in
    let f = form_of n.definition.now in
    let kind = byte_list (lengths_of f) h.0 in
    let d = list_node F x n.bytes.now es parts kind n.definition.now 0 (defined F ns x f kind o.0 (λ e. cc) h.2) tt (λ e b. b.1) o.1 c.elements_of.ensures in
    (d.0, put_hex F x n.bytes.now es c.args.out.now c.put_bytes.new.out c.put_bytes.result c.put_bytes.ensures (λ j i. bytes_say F x n.bytes.now es (lengths_of f) d.1 h.0 j h.2 i))
