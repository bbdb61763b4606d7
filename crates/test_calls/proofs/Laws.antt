-- Which bytes are members of a name.
use Rattle.std.proofs.Common.{◌≡◌, ℕ, List, [], ◌∷◌, ◌++◌, replicate, Option, Some, refl, ◌∙◌, ap, arith}
use Rattle.std.specs.Prelude.{pos}
use Rattle.borsh.specs.Schema.Container.{Shape, sequence, product, Member, of_primitive, of_sequence, of_parts, of_choice, Members, no_members, more_members, tag}

module _ (C : List ℕ → Option Shape) where
  mutual
    none_of_itself : {x y bs : List ℕ} → C x ≡ Some (product (x ∷ [])) → y ≡ x → Member C y bs → ⊥
    none_of_itself h e (of_primitive q small) = cc
    none_of_itself h e (of_sequence k q low high ms) = cc
    none_of_itself {x} h e (of_parts {ps = ps} q ms) = let f : ps ≡ x ∷ [] = cc in none_of_parts h f ms
    none_of_itself h e (of_choice q l m) = cc

    none_of_parts : {x bs : List ℕ} {ps : List (List ℕ)} → C x ≡ Some (product (x ∷ [])) → ps ≡ x ∷ [] → Members C ps bs → ⊥
    none_of_parts h e no_members = cc
    none_of_parts {x} h e (more_members {p = p} m ms) = let f : p ≡ x = cc in none_of_itself h f m

  pub none_of_tuple : (x : List ℕ) → C x ≡ Some (product (x ∷ [])) → (bs : List ℕ) → Member C x bs → ⊥
  none_of_tuple x h bs m = none_of_itself h refl m

  none_left : {ps : List (List ℕ)} {bs : List ℕ} → ps ≡ [] → Members C ps bs → bs ≡ []
  none_left e no_members = refl
  none_left e (more_members m ms) = cc

  pub only_count : (x : List ℕ) → C x ≡ Some (sequence 4 0 0 x) → (bs : List ℕ) → Member C x bs → bs ≡ 0 ∷ 0 ∷ 0 ∷ 0 ∷ []
  only_count x h _ (of_primitive q small) = cc
  only_count x h _ (of_parts q ms) = cc
  only_count x h _ (of_choice q l m) = cc
  only_count x h _ (of_sequence {bs = bs} {w = w} {lo = lo} {hi = hi} {e = e} k q low high ms) =
      let f : w ≡ 4 = cc in
      let g : hi ≡ 0 = cc in
      let z : k ≡ 0 = omega (arith, g) in
      let n : replicate k e ≡ [] = ap (λ i. replicate i e) z in
      let b : bs ≡ [] = none_left n ms in
      ap (λ i. tag i (pos k) ++ bs) f ∙ ap (λ i. tag 4 (pos i) ++ bs) z ∙ ap (λ l. tag 4 (pos 0) ++ l) b

  pub count_member : (x : List ℕ) → C x ≡ Some (sequence 4 0 0 x) → Member C x (0 ∷ 0 ∷ 0 ∷ 0 ∷ [])
  count_member x h = of_sequence 0 h (omega arith) (omega arith) no_members
