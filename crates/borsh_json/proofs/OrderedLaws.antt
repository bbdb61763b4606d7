-- The orders of names, as names and definitions tell them.
use Rattle.std.proofs.Common.{◌≡◌, inl, inr, ℕ, suc, zero, ◌+◌, ◌<◌, List, [], ◌∷◌, ◌++◌, length, map, take, get_or, Bool, true, false, Option, Some, None, IfSome, String, refl, sym, ◌∙◌, ap, subst, arith, append_assoc, ◌==◌, codes, slice_get, string_bytes, Global, append-nil}
use Rattle.borsh_plan.specs.declared.named.Named.{Named}
use Rattle.borsh_json.specs.{declared.order.Ordered.{Ordered}, declared.order.Ordered.TheVariants.{Number}, Forms.{Form, primitive, HasNoBytes}, Table.{primitive_kind}, Ordered.{numbers, AreNumbers}, Orders.{IsOrderOf, FindsOrder, FindsBytes}}
use Rattle.borsh_walks.specs.TupleNames.{following, tuple_name}

-- ---- names
pub named_get : (ps : List (String Global)) (i : ℕ) (a : String Global) → i < length ps → a ≡ get_or ps i a → slice_get (map (λ p. string_bytes p) ps) i ≡ Some (string_bytes a)
named_get [] i a h e = absurd (omega (arith, h))
named_get (p ∷ ps) zero a h e = ap (λ p. Some (string_bytes p)) (sym e)
named_get (p ∷ ps) (suc i) a h e = named_get ps i a (omega (arith, h)) e

pub listed_more : (ps : List (List ℕ)) (i : ℕ) (p text rest last : List ℕ) → slice_get ps i ≡ Some p → text ≡ following (take i ps) ++ rest → rest ≡ 44 ∷ 32 ∷ ((p ++ []) ++ last) → text ≡ following (take (i + 1) ps) ++ last
listed_more ps i p text rest last g e q = e ∙ ap (λ r. following (take i ps) ++ r) q ∙ more ps i p last g ∙ ap (λ j. following (take j ps) ++ last) (let s : suc i ≡ i + 1 = omega arith in s)
  where
    more : (ps : List (List ℕ)) (i : ℕ) (p last : List ℕ) → slice_get ps i ≡ Some p → following (take i ps) ++ 44 ∷ 32 ∷ ((p ++ []) ++ last) ≡ following (take (suc i) ps) ++ last
    more [] i p last g = cc
    more (q ∷ qs) zero p last g =
        let k : q ≡ p = cc in
        ap (λ q. 44 ∷ 32 ∷ (q ++ last)) (append-nil p ∙ sym k ∙ sym (append-nil q))
    more (q ∷ qs) (suc i) p last g = ap (λ l. 44 ∷ 32 ∷ l) (append_assoc q (following (take i qs)) (44 ∷ 32 ∷ ((p ++ []) ++ last)) ∙ ap (λ l. q ++ l) (more qs i p last g) ∙ sym (append_assoc q (following (take (suc i) qs)) last))

pub same_count : (ps : List (String Global)) → length (map (λ p. string_bytes p) ps) ≡ length ps
same_count [] = refl
same_count (p ∷ ps) = ap (λ n. suc n) (same_count ps)

pub tuple_named : (ps others : List (String Global)) (p : String Global) (head name rest last : List ℕ) → ps ≡ p ∷ others → (length others == 0) ≡ false → head ≡ string_bytes p → name ≡ 40 ∷ ((head ++ []) ++ rest) → rest ≡ following (map (λ p. string_bytes p) others) ++ last → last ≡ codes ")" → name ≡ tuple_name (map (λ p. string_bytes p) ps)
tuple_named ps [] p head name rest last e t f n r l = let g : (0 == 0) ≡ true = refl in cc
tuple_named ps (q ∷ others) p head name rest last e t f n r l =
    let names = map (λ p. string_bytes p) (q ∷ others) in
    n ∙ ap (λ rest. 40 ∷ ((head ++ []) ++ rest)) (r ∙ ap (λ last. following names ++ last) l)
    ∙ ap (λ l. 40 ∷ l) (ap (λ f. f ++ (following names ++ 41 ∷ [])) (append-nil head ∙ f))
    ∙ ap (λ ps. tuple_name (map (λ p. string_bytes p) ps)) (sym e)

module _ (F : List ℕ → Option Form) (ns : List Named) where
  pub finds_order : (x : List ℕ) (found : Option Ordered) → (HasNoBytes F x → ⊥) → IfSome found (FindsBytes F ns x) → IfSome found (FindsOrder F ns x)
  finds_order x None n h = tt
  finds_order x (Some f) n h = (h.0, inr (n, inl h.1), h.2)

  pub finds_number : (x name : List ℕ) (n : ℕ) (found : Option Ordered) → name ≡ x → F x ≡ Some (primitive n) → IfSome found (λ f. (signed : Bool) × (f ≡ Number n signed) × AreNumbers (primitive_kind name n) n signed) → IfSome found (FindsBytes F ns x)
  finds_number x name n None e f h = tt
  finds_number x name n (Some g) e f h = (numbers n h.0, (f, subst (λ y. AreNumbers (primitive_kind y n) n h.0) e h.2), subst (λ (g : Ordered). IsOrderOf F ns x g (numbers n h.0)) (sym h.1) refl)
