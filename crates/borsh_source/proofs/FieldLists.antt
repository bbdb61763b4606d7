-- What is made of lists of fields, parameters and variants, one element after another.
use Rattle.std.proofs.Common.{◌≡◌, ℕ, suc, zero, List, [], ◌∷◌, ◌++◌, map, refl, ap, subst, Bool, true, false, cond, None, Some}
use Rattle.std.specs.Prelude.{slice_get, string_bytes}
use Rattle.borsh_source.specs.Views.{Stands, unread, named, number, stands}
use Rattle.borsh_source.specs.Meaning.{parameter_names, kept_types, kept_names, HaveNone}
use Rattle.borsh_source.specs.declared.uses.Given.{Given}
use Rattle.borsh_source.specs.declared.tree.Field.{Field}
use Rattle.borsh_source.specs.declared.tree.Variant.{Variant}

one_kept : {A : Type 0} (b : Bool) (x : A) (zs xs ys : List A) → zs ≡ xs ++ ys → cond b zs (x ∷ zs) ≡ cond b xs (x ∷ xs) ++ ys
one_kept true x zs xs ys e = e
one_kept false x zs xs ys e = ap (λ l. x ∷ l) e

pub kept_types-append : (xs ys : List Field) → kept_types (xs ++ ys) ≡ kept_types xs ++ kept_types ys
kept_types-append [] ys = refl
kept_types-append (f ∷ fs) ys = one_kept f.skipped f.written _ _ _ (kept_types-append fs ys)

pub kept_names-append : (xs ys : List Field) → kept_names (xs ++ ys) ≡ kept_names xs ++ kept_names ys
kept_names-append [] ys = refl
kept_names-append (f ∷ fs) ys = one_kept f.skipped (string_bytes f.name) _ _ _ (kept_names-append fs ys)

pub names_given-append : (xs ys : List Given) → parameter_names (map stands (xs ++ ys)) ≡ parameter_names (map stands xs) ++ parameter_names (map stands ys)
names_given-append [] ys = refl
names_given-append (g ∷ gs) ys = more (stands g) _ _ _ (names_given-append gs ys)
  where
    more : (h : Stands) (zs xs : List Stands) (ns : List (List ℕ)) → parameter_names zs ≡ parameter_names xs ++ ns → parameter_names (h ∷ zs) ≡ parameter_names (h ∷ xs) ++ ns
    more unread zs xs ns e = e
    more (named n) zs xs ns e = ap (λ l. n ∷ l) e
    more (number n) zs xs ns e = e

pub none_more : (vs : List Variant) (v : Variant) → HaveNone vs → v.discriminant ≡ None → HaveNone (vs ++ v ∷ [])
none_more [] v h e = (e, tt)
none_more (w ∷ ws) v h e = (h.0, none_more ws v h.1 e)

pub none_at : (vs : List Variant) (i : ℕ) (v : Variant) → slice_get vs i ≡ Some v → HaveNone vs → v.discriminant ≡ None
none_at [] i v e h = cc
none_at (w ∷ ws) zero v e h = let q : w ≡ v = cc in subst (λ z. z.discriminant ≡ None) q h.0
none_at (w ∷ ws) (suc i) v e h = none_at ws i v e h.1
