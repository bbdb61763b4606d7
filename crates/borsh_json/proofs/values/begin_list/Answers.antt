use Rattle.std.proofs.Common.{ap, sym, subst, ◌∙◌, unwrap_or}
use Rattle.borsh_walks.specs.Container.{Shape}
use Rattle.borsh_values.specs.Nodes.{IsCountOf}
use Rattle.borsh_json.specs.Forms.{form_of}
use Rattle.borsh_json.proofs.BegunLaws.{list_begun}
use Rattle.borsh_walks.proofs.Forms.{shape_is}
use Rattle.borsh_json.proofs.values.begin_list.Goals as goal

pub returns : goal.returns
returns c F ns at x parts i o k =
    let n = c.args.node.now in
    let d = n.definition.now in
    let counts = subst (λ (s : Shape). IsCountOf s n.bytes.now c.count_of.result) (sym (shape_is d)) c.count_of.ensures in
    list_begun F ns x (form_of d) n.bytes.now parts o c.args.elements c.unwrap_or-count.result c.count_of.result c.args.out.now c.begin.new.out c.begin.result k counts (λ m e. c.unwrap_or-count.ensures ∙ ap (λ o. unwrap_or o 0) e) c.begin.ensures
