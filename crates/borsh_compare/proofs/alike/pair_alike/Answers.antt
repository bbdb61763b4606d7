use Rattle.std.proofs.Common.{◌∙◌, sym, subst}
use Rattle.borsh_compare.specs.declared.pairs.Pair.{Pair}
use Rattle.borsh_compare.specs.Alike.{GoAlikeAt}
use Rattle.borsh_compare.proofs.Found.{go_alike}
use Rattle.borsh_walks.proofs.Propositions.{same_some}
use Rattle.borsh_compare.proofs.Parts.{ok_map}
use Rattle.borsh_compare.proofs.alike.pair_alike.Goals as goal

pub returns-in_default : goal.returns-in_default
returns-in_default c = λ e p h. (let q = sym c.in_default.is ∙ c.get.ensures ∙ h in absurd cc)

pub returns : goal.returns
returns c =
    let old = c.args.old.now.plan.now in
    let new = c.args.new.now.plan.now in
    let items = c.args.pairs.now.list.items in
    ok_map _ _ c.places_alike.result (λ b f h p there.
    let s = same_some (sym c.get.ensures ∙ c.in-Some.is) there in
    subst (λ (p : Pair). GoAlikeAt old new items p.old p.new) s
    (go_alike old new items c.in-Some.pair.old c.in-Some.pair.new c.behind.result c.behind-2.result c.is_zero_size-is_old_empty.result c.is_zero_size-is_new_empty.result c.is_zero_size-is_old_empty.ensures c.is_zero_size-is_new_empty.ensures (c.is_same.ensures c.if-not-is_same.false) c.behind.ensures c.behind-2.ensures (f h))) c.places_alike.ensures
