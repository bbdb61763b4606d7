use Rattle.std.proofs.Common.{[], subst, sym}
use Rattle.json.specs.Json.{string}
use Rattle.borsh_json.specs.{Forms.{form_of}, Places.{lengths_of}, Represents.{SaysFirst}, Table.{utf8}}
use Rattle.borsh_json.proofs.{LeafLaws.{defined, put_string}, ListLaws.{list_node, no_text, tells_count, text_says}}
use Rattle.borsh_json.proofs.leaves.write_text.Goals as goal

pub returns-in_ok-put-in-Ok : goal.returns-in_ok-put-in-Ok
returns-in_ok-put-in-Ok c = λ F ns x parts o h.
    let n = c.args.node.now in
    let es = c.elements_of.result.now in
    let l = lengths_of (form_of n.definition.now) in
    let d = list_node F x n.bytes.now es parts (utf8 l) n.definition.now 0 (defined F ns x (form_of n.definition.now) (utf8 l) o.0 (λ e. cc) h) tt (λ e b. b.1) o.1 c.elements_of.ensures in
    let t = c.in-Ok.ensures.cases in
    (d.0, put_string F x n.bytes.now c.args.out.now c.put.new.self c.in-Ok.text.now c.in_ok-put-in-Ok.ensures (subst (λ s. SaysFirst F x (string s) n.bytes.now []) (sym t.0) (text_says F x n.bytes.now es l d.1 h t.1)))

pub returns-in-Err : goal.returns-in-Err
returns-in-Err c = λ F ns x parts o h.
    let n = c.args.node.now in
    let es = c.elements_of.result.now in
    let l = lengths_of (form_of n.definition.now) in
    let d = list_node F x n.bytes.now es parts (utf8 l) n.definition.now 0 (defined F ns x (form_of n.definition.now) (utf8 l) o.0 (λ e. cc) h) tt (λ e b. b.1) o.1 c.elements_of.ensures in
    (d.0, ((l, h), no_text F x n.bytes.now es l d.1 h (tells_count (form_of n.definition.now) o.2) c.in-Err.ensures.cases.0))
