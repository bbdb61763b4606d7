use Rattle.borsh_json.specs.Forms.{form_of}
use Rattle.borsh_json.proofs.LeafLaws.{bare, bare_opened, found_kind}
use Rattle.borsh_json.proofs.leaves.write_primitive.Goals as goal

pub returns : goal.returns
returns c = λ k p F ns x parts o i.
    let f = form_of c.args.node.now.definition.now in
    let h = found_kind F ns x f c.args.kind k p i in
    let b = bare_opened F ns x f k c.args.node.now.bytes.now parts o (bare c.args.kind k p) h in
    (b.0, c.put_primitive.ensures F x k p h b.1)
