use Rattle.std.proofs.Common.{subst}
use Rattle.borsh_json.specs.{Found.{forms_of}, Table.{MayBeNull}}
use Rattle.borsh_json.proofs.{FoundLaws.{on_true, on_false}, RepresentsLaws.{option_one}}
use Rattle.borsh_json.proofs.kinds.nullable_part.Goals as goal

pub returns-in_err-part : goal.returns-in_err-part
returns-in_err-part c = λ x h. rw c.from_residual.ensures (λ p n. c.in_err-part.ensures x h p n.0)

pub returns-then-may_be_null : goal.returns-then-may_be_null
returns-then-may_be_null c = λ x h p n.
    let F = forms_of c.args.definitions.now in
    let o = c.in_ok-part.ensures x h in
    let m = on_true _ c.may_be_null.result c.if-may_be_null.true (c.may_be_null.ensures o.0 o.1) in
    n.1 (subst (λ p. MayBeNull F 128 p) (option_one F o.2 n.0) m)

pub returns-else-may_be_null : goal.returns-else-may_be_null
returns-else-may_be_null c = λ x h.
    let o = c.in_ok-part.ensures x h in
    let m = on_false _ c.may_be_null.result c.if-may_be_null.false (c.may_be_null.ensures o.0 o.1) in
    (o.0, o.1, (o.2, m))
