use Rattle.std.proofs.Common.{◌≡◌, ◌+◌, ℕ, ℤ, List, [], length, length-take-le, take, refl, sym, ◌∙◌, subst, arith, ◌∷◌, ◌++◌, true, false}
use Rattle.std.specs.Prelude.{string_bytes}
use Rattle.std.proofs.lemmas.List.{length-map}
use Rattle.borsh_walks.specs.Container.{tag}
use Rattle.borsh_values.specs.Tags.{FoundAs}
use Rattle.borsh_values.proofs.TagLaws.{unnamed, got, got_none, found_more, found_same}
use Rattle.borsh_values.proofs.tags.find_variant.Goals as goal
use Rattle.borsh_values.proofs.tags.find_variant.Goals.{then-is_tag, else-is_tag}

pub loop-discriminant-preserved : goal.loop-discriminant-preserved
loop-discriminant-preserved c =
    let items = c.args.variants.now.items in
    let bytes = c.args.bytes.now in
    let vs = unnamed items in
    let n = c.loop-discriminant.index in
    let f = c.in-Some.field-0.now in
    let v = got items _ n f c.deref.ensures.value c.in-Some.ensures.lookup.3.0 c.in-Some.ensures.lookup.1 in
    let Goal : Type 0 = FoundAs (take (n + 1) vs) bytes c.if-is_tag.found in
    record {
      within = omega (arith, v.within);
      found = elim c.if-is_tag.branch as (λ _. Goal) [
        | then-is_tag w ↦
            (let k = length-map {B = ℤ × List ℕ} items (λ v. (v.0, string_bytes v.2)) in
            let long : length (take n vs) ≡ n = length-take-le n vs (omega (arith, v.within, k)) in
            let is = w.if-is_tag.ensures.0 refl in
            let r = found_more (length bytes) (λ j. tag (length bytes) j ≡ bytes) (take n vs) f.0 (string_bytes f.2) (λ j q a b. b ∙ sym is) c.loop-discriminant.found n long c.loop-discriminant.invariant.found is in
            subst (λ l. FoundAs l bytes c.if-is_tag.found) (sym v.next) (subst (λ o. FoundAs (take n vs ++ (f.0, string_bytes f.2) ∷ []) bytes o) (sym (w.found-is ∙ w.add-found.ensures)) r))
        | else-is_tag w ↦
            (let r = found_same (length bytes) (λ j. tag (length bytes) j ≡ bytes) (take n vs) f.0 (string_bytes f.2) c.loop-discriminant.found c.loop-discriminant.invariant.found (λ q. no_true (w.if-is_tag.ensures.1 q)) in
            subst (λ l. FoundAs l bytes c.if-is_tag.found) (sym v.next) (subst (λ o. FoundAs (take n vs ++ (f.0, string_bytes f.2) ∷ []) bytes o) (sym w.found-is) r))
      ];
    }
  where
    no_true : false ≡ true → ⊥
    no_true e = cc

pub returns : goal.returns
returns c =
    let items = c.args.variants.now.items in
    let vs = unnamed items in
    let l = c.in_default.ensures.lookup in
    let whole = got_none items _ c.loop-discriminant.index c.deref.ensures.value l.3 in
    subst (λ l. FoundAs l c.args.bytes.now c.loop-discriminant.found) whole c.loop-discriminant.invariant.found
