-- Types of which two proofs of an equation are the same, and what has at most one proof.
use Rattle.std.specs.Prelude.{◌≡◌, ◌⊎◌, ℕ, ℤ, List, Option, Some}
use Rattle.std.proofs.Common.{refl, inl, inr, sym, ◌∙◌}
use Rattle.std.specs.Coded.{Coded, Coded-set, code_by, coded×, coded⊎, coded_list, coded_option, coded_ℕ, coded_ℤ}
use mathlib.Core.Path.{path_j}
use Rattle.borsh_walks.specs.Container.{Shape, primitive, sequence, product, choice, IsIn, IsZeroSize, zeroed, zero_size_references}

-- a definition as the parts of its kind
abbrev Parts : Type 0
Parts = ℕ ⊎ ((ℕ × (ℕ × (ℕ × List ℕ))) ⊎ (List (List ℕ) ⊎ (ℕ × List (ℤ × List ℕ))))

abbrev parts : Shape → Parts
parts (primitive n) = inl n
parts (sequence w lo hi e) = inr (inl (w, (lo, (hi, e))))
parts (product ps) = inr (inr (inl ps))
parts (choice w vs) = inr (inr (inr (w, vs)))

abbrev shape : Parts → Shape
shape (inl n) = primitive n
shape (inr (inl s)) = sequence s.0 s.1.0 s.1.1.0 s.1.1.1
shape (inr (inr (inl ps))) = product ps
shape (inr (inr (inr c))) = choice c.0 c.1

pub shape_parts : (d : Shape) → shape (parts d) ≡ d
shape_parts (primitive n) = refl
shape_parts (sequence w lo hi e) = refl
shape_parts (product ps) = refl
shape_parts (choice w vs) = refl

abbrev pub coded_name : Coded (List ℕ)
coded_name = coded_list coded_ℕ

abbrev pub coded_shape : Coded Shape
coded_shape = code_by Parts (coded⊎ coded_ℕ (coded⊎ (coded× coded_ℕ (coded× coded_ℕ (coded× coded_ℕ coded_name))) (coded⊎ (coded_list coded_name) (coded× coded_ℕ (coded_list (coded× coded_ℤ coded_name)))))) parts shape shape_parts

pub same_some : {A : Type 0} {a b : A} {o : Option A} → o ≡ Some a → o ≡ Some b → a ≡ b
same_some {a = a} {b = b} e f = (let h : Some a ≡ Some b = sym e ∙ f in cc)

module _ (C : List ℕ → Option Shape) where
  -- that the values of a name have no bytes has at most one proof
  pub zero_prop : {x : List ℕ} (a b : IsZeroSize C x) → a ≡ b
  zero_prop {x} (zeroed d ps e f g) (zeroed d2 ps2 e2 f2 g2) =
      path_j (λ d2 p. (ps2 : List (List ℕ)) (e2 : C x ≡ Some d2) (f2 : zero_size_references d2 ≡ Some ps2) (g2 : (y : List ℕ) → IsIn y ps2 → IsZeroSize C y) → zeroed d ps e f g ≡ zeroed d2 ps2 e2 f2 g2)
      (λ ps2 e2 f2 g2.
      path_j (λ ps2 q. (f2 : zero_size_references d ≡ Some ps2) (g2 : (y : List ℕ) → IsIn y ps2 → IsZeroSize C y) → zeroed d ps e f g ≡ zeroed d ps2 e2 f2 g2)
      (λ f2 g2. λ i. zeroed d ps (Coded-set (coded_option coded_shape) (C x) (Some d) e e2 i) (Coded-set (coded_option (coded_list coded_name)) (zero_size_references d) (Some ps) f f2 i) (λ y a. zero_prop (g y a) (g2 y a) i))
      (same_some f f2) f2 g2)
      (same_some e e2) ps2 e2 f2 g2
