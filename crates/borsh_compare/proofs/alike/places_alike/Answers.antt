use Rattle.std.proofs.Common.{◌≡◌, Some, ap, subst}
use Rattle.std.specs.Borrow.{Bor}
use Rattle.borsh_plan.specs.declared.plan.Plan.{Plan}
use Rattle.borsh_plan.specs.Plan.{names_of}
use Rattle.borsh_json.specs.Places.{IsKindAt}
use Rattle.borsh_compare.specs.Alike.{forms_of}
use Rattle.borsh_compare.proofs.Found.{found_alike, none_alike, zero_alike}
use Rattle.borsh_compare.proofs.Parts.{ok_map}
use Rattle.borsh_compare.proofs.alike.places_alike.Goals as goal

pub returns-then-is_zero_size : goal.returns-then-is_zero_size
returns-then-is_zero_size c = λ e. zero_alike c.args.old.now.plan.now c.args.new.now.plan.now c.args.pairs.now.list.items c.args.at.old c.args.at.new c.is_zero_size.result c.is_zero_size-then-is_zero_size.result c.is_zero_size.ensures c.is_zero_size-then-is_zero_size.ensures c.if-is_zero_size.true e

pub returns-in_default : goal.returns-in_default
returns-in_default c = λ e. none_alike c.args.old.now.plan.now c.args.at.old c.is_zero_size.result c.is_zero_size.ensures c.kind.result c.kind.ensures.kind c.args.new.now.plan.now c.args.pairs.now.list.items c.args.at.new c.if-is_zero_size.false c.in_default.is

pub returns : goal.returns
returns c =
    let old = c.args.old.now.plan.now in
    let new = c.args.new.now.plan.now in
    let d = c.in-Some.before in
    let e = c.in-Some-kind.after in
    let k = subst (λ o. IsKindAt (forms_of old) (names_of old) c.args.at.old o) c.in-Some.is c.kind.ensures.kind in
    let l = subst (λ o. IsKindAt (forms_of new) (names_of new) c.args.at.new o) c.in-Some-kind.is c.kind-2.ensures.kind in
    ok_map _ _ c.kinds_alike.result (λ b f h. found_alike old new c.args.pairs.now.list.items c.args.at.old c.args.at.new c.is_zero_size.result c.is_zero_size-2.result d.0 e.0 d.1 e.1 c.is_zero_size.ensures c.is_zero_size-2.ensures c.if-is_zero_size.false c.if-is_zero_size-2.false k l c.plan.result.now c.plan-2.result.now (ap (λ (r : Bor Plan). r.now) c.plan.ensures) (ap (λ (r : Bor Plan). r.now) c.plan-2.ensures) (f h)) c.kinds_alike.ensures
