-- The walk to its end.
use Rattle.std.proofs.Common.{◌≡◌, ℕ, suc, zero, ◌+◌, ◌<◌, ◌≤◌, List, [], ◌∷◌, length, Some, None, ◌∙◌, ap, subst, arith, inl, inr}
use Rattle.std.specs.Prelude.{slice_get}
use Rattle.std.proofs.lemmas.Bool.{cases_lt}
use Rattle.std.proofs.lemmas.Option.{slice_get_within}
use Rattle.borsh_plan.specs.declared.plan.Plan.{Plan}
use Rattle.borsh_plan.specs.Names.{name_of}
use Rattle.borsh_plan.specs.Plan.{definitions_of, names_of, root_of, planned}
use Rattle.borsh_plan.proofs.NameLaws.{get_within}
use Rattle.borsh_compare.specs.Together.{Goes}
use Rattle.borsh_compare.specs.Walks.{Keeps, HasPair, Paired, GoAt, Includes}
use Rattle.borsh_compare.specs.declared.pairs.Pair.{Pair}
use Rattle.borsh_walks.proofs.Propositions.{same_some}
use Rattle.borsh_compare.proofs.Keeping.{go_at_kept}
use Rattle.borsh_compare.proofs.Soundness.{members_go}

past : {X : Type 0} (xs : List X) (i : ℕ) → slice_get xs i ≡ None → length xs ≤ i
past [] i e = omega arith
past (x ∷ xs) zero e = cc
past (x ∷ xs) (suc i) e = let h = past xs i e in omega (arith, h)

module _ (old new : Plan) where
  -- each pair goes, up to one
  abbrev pub GoBelow : List Pair → ℕ → Type 0
  GoBelow pairs n = (i : ℕ) (p : Pair) → i < n → slice_get pairs i ≡ Some p → GoAt old new pairs p.old p.new

  pub go_next : (a b : List Pair) (n : ℕ) (p : Pair) → Keeps a b → slice_get a n ≡ Some p → GoBelow a n → GoAt old new b p.old p.new → GoBelow b (n + 1)
  go_next a b n p k there g here i q low e = elim (cases_lt i n) [
    | inl h ↦ (
        let low : i < length a = (let l = slice_get_within a n p there in omega (arith, l, h)) in
        let o = get_within a i low in
        let s : o.0 ≡ q = same_some (k i o.0 o.1) e in
        go_at_kept old new a b q.old q.new k (g i q h (o.1 ∙ ap (λ z. Some z) s)))
    | inr h ↦ (
        let z : n ≡ i = omega (arith, low, h) in
        let s : p ≡ q = same_some (k n p there) (ap (λ m. slice_get b m) z ∙ e) in
        subst (λ z. GoAt old new b z.old z.new) s here)
  ]

  pub included : (pairs : List Pair) (n : ℕ) → HasPair pairs 0 0 → GoBelow pairs n → slice_get pairs n ≡ None → Includes old new
  included pairs n first g end bytes m =
      members_go (definitions_of old) (definitions_of new) (Paired old new pairs) all_go (root_of old) (root_of new) bytes (record {
        old_place = 0;
        new_place = 0;
        has = first;
        old = (planned old).first;
        new = (planned new).first;
      }) m
    where
      all_go : (x y : List ℕ) → Paired old new pairs x y → Goes (definitions_of old) (definitions_of new) (Paired old new pairs) x y
      all_go x y r =
          let h = r.has in
          let low : h.index < n = (let a = slice_get_within pairs h.index h.pair h.there in let b = past pairs n end in omega (arith, a, b)) in
          g h.index h.pair low h.there x y (ap (λ i. name_of (names_of old) i) h.old ∙ r.old) (ap (λ i. name_of (names_of new) i) h.new ∙ r.new)
