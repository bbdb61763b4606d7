use Rattle.std.proofs.Common.{sym, subst, None, false, Option}
use Rattle.borsh_source.specs.Meaning.{HaveNone}
use Rattle.borsh_source.proofs.FieldLists.{none_at, none_more}
use Rattle.borsh_source.proofs.Lists.{item_at, take_next}
use Rattle.borsh_source.proofs.items.has_discriminant.Goals as goal
use Rattle.std.proofs.Common.{◌≡◌, Bool, true, Some, refl}
use Rattle.std.specs.Prelude.{is_some}

no_one : {A : Type 0} (o : Option A) (b : Bool) → b ≡ is_some o → b ≡ false → o ≡ None
no_one None b e h = refl
no_one (Some x) b e h = cc

pub loop-variant-preserved : goal.loop-variant-preserved
loop-variant-preserved c =
    let at = item_at c.args.variants.now c.loop-variant.variant-index c.variant-item.result c.loop-variant-test.true c.variant-item.is in
    subst (λ l. HaveNone l) (sym (take_next c.args.variants.now c.loop-variant.variant-index at)) (none_more _ _ c.loop-variant.invariant (no_one _ _ c.is_some.ensures c.if-is_some.false))

some_not : {A : Type 0} (o : Option A) (b : Bool) → b ≡ is_some o → b ≡ true → o ≡ None → ⊥
some_not None b e h q = cc
some_not (Some x) b e h q = cc

pub returns-then-is_some-clause-some : goal.returns-then-is_some-clause-some
returns-then-is_some-clause-some c =
    let at = item_at c.args.variants.now c.loop-variant.variant-index c.variant-item.result c.loop-variant-test.true c.variant-item.is in
    λ t h. some_not _ _ c.is_some.ensures c.if-is_some.true (none_at c.args.variants.now c.loop-variant.variant-index c.variant-item.result at h)
