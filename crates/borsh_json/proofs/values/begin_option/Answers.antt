use Rattle.std.proofs.{Common.{sym, subst}, lemmas.Result.{err_from_is_err_and}}
use Rattle.borsh_walks.specs.Container.{Shape}
use Rattle.borsh_values.specs.Nodes.{IsVariantOf}
use Rattle.borsh_json.specs.Forms.{form_of}
use Rattle.borsh_json.proofs.ChoiceLaws.{none_said, none_written, some_begun}
use Rattle.borsh_walks.proofs.Forms.{shape_is}
use Rattle.borsh_json.proofs.values.begin_option.Goals as goal

pub returns-in_err-write_null : goal.returns-in_err-write_null
returns-in_err-write_null c F ns at x parts i o k =
    let own = c.args.node.now.bytes.now in
    let d = c.args.node.now.definition.now in
    let v = subst (λ (s : Shape). IsVariantOf s own c.variant_of.result) (sym (shape_is d)) c.variant_of.ensures in
    let e = c.in_err-write_null in
    let p = err_from_is_err_and c.from_residual.result c.from_residual.ensures.1 in
    rw (p.1, p.2) ((e.ensures F x own (none_said F ns x (form_of d) own parts o c.args.part k c.variant_of.result v c.unwrap_or-index.result _ c.unwrap_or-index.ensures c.if-index-eq0.true)))

pub returns-then-index-eq0 : goal.returns-then-index-eq0
returns-then-index-eq0 c F ns at x parts i o k =
    let own = c.args.node.now.bytes.now in
    let d = c.args.node.now.definition.now in
    let v = subst (λ (s : Shape). IsVariantOf s own c.variant_of.result) (sym (shape_is d)) c.variant_of.ensures in
    let q = c.unwrap_or-index in
    let s = none_said F ns x (form_of d) own parts o c.args.part k c.variant_of.result v q.result _ q.ensures c.if-index-eq0.true in
    none_written F ns x (form_of d) own parts o c.args.part k c.variant_of.result v q.result _ q.ensures c.if-index-eq0.true c.args.out.now c.write_null.new.out (c.in_ok-write_null.ensures F x own s)

pub returns : goal.returns
returns c F ns at x parts i o k =
    let own = c.args.node.now.bytes.now in
    let d = c.args.node.now.definition.now in
    let v = subst (λ (s : Shape). IsVariantOf s own c.variant_of.result) (sym (shape_is d)) c.variant_of.ensures in
    some_begun F ns x (form_of d) own parts o c.args.part k c.variant_of.result v c.unwrap_or-index.result _ c.unwrap_or-index.ensures c.args.out.now c.begin.new.out c.begin.result c.if-index-eq0.false c.begin.ensures
