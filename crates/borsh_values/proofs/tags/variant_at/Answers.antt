use Rattle.std.proofs.Common.{◌≡◌, length, take, refl, sym, subst, arith, ◌∷◌, true, false, inl, inr, []}
use Rattle.std.specs.Prelude.{string_bytes}
use Rattle.borsh_walks.specs.Container.{IsListedVariant, tag}
use Rattle.borsh_values.proofs.TagLaws.{unnamed, got, got_none, listed_append, listed_one}
use Rattle.borsh_values.proofs.tags.variant_at.Goals as goal

no_true : false ≡ true → ⊥
no_true e = cc

pub loop-discriminant-preserved : goal.loop-discriminant-preserved
loop-discriminant-preserved c =
    let items = c.args.variants.now.items in
    let vs = unnamed items in
    let n = c.loop-discriminant.index in
    let f = c.in-Some.field-0.now in
    let v = got items _ n f c.deref.ensures.value c.in-Some.ensures.lookup.3.0 c.in-Some.ensures.lookup.1 in
    record {
      within = omega (arith, v.within);
      none = λ k p a b. elim (listed_append (take n vs) ((f.0, string_bytes f.2) ∷ []) (subst (λ l. IsListedVariant k p l) v.next a)) [
        | inl i ↦ c.loop-discriminant.invariant.none k p i b
        | inr i ↦ no_true (c.if-is_tag.ensures.1 (listed_one (λ j. tag (length c.args.bytes.now) j ≡ c.args.bytes.now) i b))
      ];
    }

pub returns-then-is_tag : goal.returns-then-is_tag
returns-then-is_tag c =
    let items = c.args.variants.now.items in
    let n = c.loop-discriminant.index in
    let f = c.in-Some.field-0.now in
    let v = got items _ n f c.deref.ensures.value c.in-Some.ensures.lookup.3.0 c.in-Some.ensures.lookup.1 in
    (f.0, string_bytes f.2, v.listed, c.if-is_tag.ensures.0 refl)

pub returns : goal.returns
returns c =
    let items = c.args.variants.now.items in
    let vs = unnamed items in
    let l = c.in_default.ensures.lookup in
    let whole = got_none items _ c.loop-discriminant.index c.deref.ensures.value l.3 in
    λ k p a b. c.loop-discriminant.invariant.none k p (subst (λ l. IsListedVariant k p l) (sym whole) a) b
