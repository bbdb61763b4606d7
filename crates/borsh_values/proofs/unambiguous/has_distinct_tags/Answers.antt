use Rattle.std.proofs.Common.{◌≡◌, ◌∙◌, ◌+◌, ℕ, length, length-take-le, take, drop, List, [], Some, refl, sym, ap, subst, arith, ◌∷◌, ◌++◌, ℤ, true, false, inl, inr, take-append-drop}
use Rattle.std.specs.Prelude.{None, Option, is_some, string_bytes, unwrap_or}
use Rattle.std.specs.BTreeMap.{BTreeMap, get, is_at}
use Rattle.std.specs.{Map.lookup, Ordering.nat_cmp, Ordering.is_eq}
use Rattle.borsh_walks.specs.Container.{tag}
use Rattle.borsh_values.specs.declared.tags.Found.TheVariants.{Nothing, One, Several}
use Rattle.borsh_values.specs.declared.tags.Found.{Found}
use Rattle.std.proofs.lemmas.Bool.Decides.{nat_tests}
use Rattle.std.proofs.lemmas.Bool.{cases_eq}
use Rattle.std.proofs.lemmas.List.{length-map}
use Rattle.borsh_values.specs.Tags.{FoundBy, IsTagTable, at_key, key_of, more_found}
use Rattle.borsh_values.specs.Unambiguous.{DistinctTags, no_tags}
use Rattle.borsh_values.proofs.TagLaws.{unnamed, got, got_none, distinct_left, distinct_more, table_none, table_more, more_there}
use Rattle.borsh_values.proofs.unambiguous.has_distinct_tags.Goals as goal

none_at : (t : BTreeMap ℕ Found) (n : ℕ) → t.entries ≡ [] → get nat_cmp t n ≡ None
none_at t n e = ap (λ l. lookup (is_at (nat_cmp n)) l) e

none_of : (o : Option Found) → false ≡ is_some o → o ≡ None
none_of None e = refl
none_of (Some f) e = cc

again : (o : Option Found) (i : ℕ) → true ≡ is_some o → (o ≡ Some Nothing → ⊥) → more_found (unwrap_or o Nothing) i ≡ Several
again None i e f = cc
again (Some Nothing) i e f = absurd (f refl)
again (Some (One j)) i e f = refl
again (Some Several) i e f = refl

other_key : (m n : ℕ) → (m ≡ n → ⊥) → is_eq (nat_cmp n m) ≡ false
other_key m n f = grind (arith, nat_tests)

pub loop-discriminant-init : goal.loop-discriminant-init
loop-discriminant-init c =
    let t = c.new-keys.result in
    let none : (n : ℕ) → get nat_cmp t n ≡ None = λ n. none_at t n c.new-keys.ensures.empty in
    record { within = omega arith; table = table_none c.args.width (at_key t) (λ n. ap (λ o. unwrap_or o Nothing) (none n)); some = λ n e. (let z = none n in cc); distinct = no_tags }

pub loop-discriminant-preserved : goal.loop-discriminant-preserved
loop-discriminant-preserved c =
    let items = c.args.variants.now.items in
    let w = c.args.width in
    let vs = unnamed items in
    let n = c.loop-discriminant.index in
    let f = c.in-Some.field-0.now in
    let v = got items _ n f c.deref.ensures.value c.in-Some.ensures.lookup.3.0 c.in-Some.ensures.lookup.1 in
    let k = length-map {B = ℤ × List ℕ} items (λ v. (v.0, string_bytes v.2)) in
    let long : length (take n vs) ≡ n = length-take-le n vs (omega (arith, v.within, k)) in
    let key = c.tag_key-key.result in
    let i = c.loop-discriminant.invariant in
    let new = c.insert.new.self in
    let u = c.in_ok-insert.ensures.updates in
    let at : at_key c.loop-discriminant.keys key ≡ Nothing = ap (λ o. unwrap_or o Nothing) (sym c.in_ok-insert.ensures.old ∙ none_of c.in_ok-insert.field-0 c.if-is_some.ensures) in
    record {
      within = omega (arith, v.within);
      table = subst (λ l. IsTagTable w l (at_key new)) (sym v.next) (table_more i.table f.0 (string_bytes f.2) key c.tag_key-key.ensures n long
          (ap (λ o. unwrap_or o Nothing) u.1 ∙ sym (ap (λ f. more_found f n) at))
          (λ m g. ap (λ o. unwrap_or o Nothing) (u.2 m (other_key m key g))));
      some = λ m h. elim (cases_eq m key) [ inl q ↦ (let a = ap (λ m. get nat_cmp new m) q in let b = u.1 in cc) | inr g ↦ i.some m (sym (u.2 m (other_key m key g)) ∙ h) ];
      distinct = subst (λ l. DistinctTags w l) (sym v.next) (distinct_more w f.0 (string_bytes f.2) (take n vs) i.distinct (λ j q a b. subst (λ f. FoundBy w (λ j. key ≡ key_of (tag w j)) (take n vs) f) at (i.table.right key) j q a (c.tag_key-key.ensures.0 ∙ ap (λ l. key_of l) (sym b))));
    }

pub returns-then-is_some : goal.returns-then-is_some
returns-then-is_some c =
    let items = c.args.variants.now.items in
    let w = c.args.width in
    let vs = unnamed items in
    let n = c.loop-discriminant.index in
    let f = c.in-Some.field-0.now in
    let v = got items _ n f c.deref.ensures.value c.in-Some.ensures.lookup.3.0 c.in-Some.ensures.lookup.1 in
    let k = length-map {B = ℤ × List ℕ} items (λ v. (v.0, string_bytes v.2)) in
    let long : length (take n vs) ≡ n = length-take-le n vs (omega (arith, v.within, k)) in
    let key = c.tag_key-key.result in
    let i = c.loop-discriminant.invariant in
    let old = c.in_ok-insert.ensures.old in
    let several = ap (λ o. more_found (unwrap_or o Nothing) n) (sym old) ∙ again c.in_ok-insert.field-0 n c.if-is_some.ensures (λ e. i.some key (sym old ∙ e)) in
    let twice = subst (λ f. FoundBy w (λ j. key ≡ key_of (tag w j)) (take n vs ++ (c.in-Some.field-0.now.0, string_bytes c.in-Some.field-0.now.2) ∷ []) f) several (more_there i.table f.0 (string_bytes f.2) key c.tag_key-key.ensures n long) in
    ((λ e. cc), λ h. absurd (twice (subst (λ l. DistinctTags w l) v.next (distinct_left w (take (n + 1) vs) (drop (n + 1) vs) (subst (λ l. DistinctTags w l) (sym (take-append-drop (n + 1) vs)) h)))))

pub returns : goal.returns
returns c =
    let l = c.in_default.ensures.lookup in
    let whole = got_none c.args.variants.now.items _ c.loop-discriminant.index c.deref.ensures.value l.3 in
    ((λ _. subst (λ l. DistinctTags c.args.width l) whole c.loop-discriminant.invariant.distinct), λ _. refl)
