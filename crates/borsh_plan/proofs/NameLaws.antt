-- Names by their places.
use Rattle.std.proofs.Common.{◌≡◌, ℕ, suc, zero, ◌+◌, ◌<◌, List, [], ◌∷◌, ◌++◌, length, map, Some, None, refl, sym, ◌∙◌, ap, arith, length-append, ◌⊎◌, inl, inr}
use Rattle.std.specs.Prelude.{Option, option_map, slice_get, String}
use Rattle.std.specs.Borrow.{Bor}
use Rattle.std.specs.BTreeMap.{BTreeMap, get_by_text}
use Rattle.borsh_walks.specs.declared.definition.Definition.{Definition}
use Rattle.borsh_walks.specs.Definitions.{definitions_in, shape_of}
use Rattle.borsh_walks.proofs.Names.{name_cases}
use Rattle.borsh_walks.proofs.Tables.{Updated}
use Rattle.borsh_plan.specs.Names.{name_of, named_shape, found_definition, shape_at, AreParts, IsIndex, Grows, IsAdded}
use Rattle.borsh_plan.specs.declared.named.Named.{Named}

-- ---- a list and one more
pub get_left : {X : Type 0} {v : X} (xs ys : List X) (i : ℕ) → slice_get xs i ≡ Some v → slice_get (xs ++ ys) i ≡ Some v
get_left [] ys i e = cc
get_left (x ∷ xs) ys zero e = e
get_left (x ∷ xs) ys (suc i) e = get_left xs ys i e

pub get_last : {X : Type 0} (v : X) (xs : List X) → slice_get (xs ++ v ∷ []) (length xs) ≡ Some v
get_last v [] = refl
get_last v (x ∷ xs) = get_last v xs

pub get_more : {X : Type 0} {u : X} (v : X) (xs : List X) (i : ℕ) → slice_get (xs ++ v ∷ []) i ≡ Some u → (slice_get xs i ≡ Some u) ⊎ ((i ≡ length xs) × (u ≡ v))
get_more v [] zero e = inr (refl, cc)
get_more v [] (suc i) e = cc
get_more v (x ∷ xs) zero e = inl e
get_more v (x ∷ xs) (suc i) e = elim (get_more v xs i e) [ inl h ↦ inl h | inr h ↦ inr (ap suc h.0, h.1) ]

pub get_within : {X : Type 0} (xs : List X) (i : ℕ) → i < length xs → (v : X) × (slice_get xs i ≡ Some v)
get_within [] i h = absurd (omega arith)
get_within (x ∷ xs) zero h = (x, refl)
get_within (x ∷ xs) (suc i) h = get_within xs i (omega arith)

-- ---- the name at a place
pub some_named : (ns : List Named) (i : ℕ) (x : List ℕ) → name_of ns i ≡ Some x → (n : Named) × (slice_get ns i ≡ Some n) × (n.name.now ≡ x)
some_named ns i x e = some_one (slice_get ns i) e
  where
    some_one : (o : Option Named) → option_map (λ n. n.name.now) o ≡ Some x → (n : Named) × (o ≡ Some n) × (n.name.now ≡ x)
    some_one None h = cc
    some_one (Some n) h = (n, refl, cc)

pub named_is : (ns : List Named) (i : ℕ) (n : Named) → slice_get ns i ≡ Some n → name_of ns i ≡ Some n.name.now
named_is ns i n e = ap (λ o. option_map (λ n. n.name.now) o) e

pub shape_is : (ns : List Named) (i : ℕ) (n : Named) → slice_get ns i ≡ Some n → shape_at ns i ≡ named_shape (Some n)
shape_is ns i n e = ap (λ o. named_shape o) e

module _ {Added : Named → Type 0} {most : ℕ} {old new : List Named} (g : Grows Added most old new) where
  pub name_kept : (i : ℕ) (x : List ℕ) → name_of old i ≡ Some x → name_of new i ≡ Some x
  name_kept i x e = let n = some_named _ i x e in named_is new i n.0 (g.kept i n.0 n.1) ∙ ap (λ y. Some y) n.2

  pub shape_kept : (i : ℕ) (x : List ℕ) → name_of old i ≡ Some x → shape_at new i ≡ shape_at old i
  shape_kept i x e = let n = some_named old i x e in shape_is new i n.0 (g.kept i n.0 n.1) ∙ sym (shape_is old i n.0 n.1)

  pub parts_kept : (is : List ℕ) (ys : List (List ℕ)) → AreParts old is ys → AreParts new is ys
  parts_kept [] [] e = refl
  parts_kept [] (y ∷ ys) e = cc
  parts_kept (i ∷ is) [] e = cc
  parts_kept (i ∷ is) (y ∷ ys) e =
      let h : name_of old i ≡ Some y = cc in
      let t : AreParts old is ys = cc in
      let a = name_kept i y h in
      let b = parts_kept is ys t in
      cc

-- the shape of a definition that was looked up
named_is_shape : (o : Option Named) → option_map shape_of (found_definition o) ≡ named_shape o
named_is_shape None = refl
named_is_shape (Some n) = of_definition n.definition
  where
    of_definition : (o : Option (Bor Definition)) → option_map shape_of (option_map (λ d. d.now) o) ≡ option_map (λ d. shape_of d.now) o
    of_definition None = refl
    of_definition (Some d) = refl

pub shape_found : {A : Type 0} (m : BTreeMap (String A) Definition) (ns : List Named) (x : List ℕ) (i : ℕ) → get_by_text m x ≡ found_definition (slice_get ns i) → definitions_in m x ≡ shape_at ns i
shape_found m ns x i e = ap (λ o. option_map shape_of o) e ∙ named_is_shape (slice_get ns i)

-- ---- how names grow
pub grows_same : (Added : Named → Type 0) (ns : List Named) → Grows Added 0 ns ns
grows_same Added ns = record { kept = λ i n e. e; added = λ i n e. inl e; long = omega arith; few = omega arith }

pub grows_one : (ns : List Named) (n : Named) → Grows (IsAdded n.name.now n.from n.index) 1 ns (ns ++ n ∷ [])
grows_one ns n = record {
  kept = λ i k e. get_left ns (n ∷ []) i e;
  added = λ i k e. elim (get_more n ns i e) [
    | inl h ↦ inl h
    | inr h ↦ inr (ap (λ z. z.name.now) h.1, ap (λ z. z.from) h.1, ap (λ z. z.index) h.1)
  ];
  long = (let l = length-append ns (n ∷ []) in omega (arith, l));
  few = (let l = length-append ns (n ∷ []) in omega (arith, l));
}

pub grows_on : {Added Then : Named → Type 0} {a b : ℕ} {old mid new : List Named} → ((n : Named) → Then n → Added n) → Grows Added a old mid → Grows Then b mid new → Grows Added (a + b) old new
grows_on f g h = record {
  kept = λ i n e. h.kept i n (g.kept i n e);
  added = λ i n e. elim (h.added i n e) [
    | inl k ↦ g.added i n k
    | inr k ↦ inr (f n k)
  ];
  long = (let a = g.long in let b = h.long in omega (arith, a, b));
  few = (let a = g.few in let b = h.few in omega (arith, a, b));
}

-- ---- one name more
module _ {A : Type 0} (m : BTreeMap (String A) Definition) where
  pub index_more : {ns : List Named} {T U : List ℕ → Option ℕ} (n : Named) → IsIndex m ns T → T n.name.now ≡ None → found_definition (Some n) ≡ get_by_text m n.name.now → Updated T U n.name.now (length ns) → IsIndex m (ns ++ n ∷ []) U
  index_more {ns} {T} {U} n s none d u = record {
    sound = λ x i e. elim (name_cases x n.name.now) [
      | inl q ↦ (let g : i ≡ length ns = (let a = u.here in let b = ap U q in cc) in named_is (ns ++ n ∷ []) i n (ap (λ k. slice_get (ns ++ n ∷ []) k) g ∙ get_last n ns) ∙ ap (λ y. Some y) (sym q))
      | inr q ↦ name_kept (grows_one ns n) i x (s.sound x i (sym (u.others x q) ∙ e))
    ];
    back = λ x i e. let k = some_named (ns ++ n ∷ []) i x e in elim (get_more n ns i k.1) [
      | inl h ↦ (let t = s.back x i (named_is ns i k.0 h ∙ ap (λ y. Some y) k.2) in u.others x (λ q. (let a = ap T q in cc)) ∙ t)
      | inr h ↦ ap U (sym k.2 ∙ ap (λ z. z.name.now) h.1) ∙ u.here ∙ ap (λ z. Some z) (sym h.0)
    ];
    looked_up = λ x i e. let k = some_named (ns ++ n ∷ []) i x e in elim (get_more n ns i k.1) [
      | inl h ↦ (let g = named_is ns i k.0 h ∙ ap (λ y. Some y) k.2 in s.looked_up x i g ∙ ap found_definition (h ∙ sym k.1))
      | inr h ↦ ap (λ y. get_by_text m y) (sym k.2 ∙ ap (λ z. z.name.now) h.1) ∙ sym d ∙ ap (λ z. found_definition (Some z)) (sym h.1) ∙ ap found_definition (sym k.1)
    ];
  }

-- ---- one part more
pub map_more : {X Y : Type 0} (f : X → Y) (xs : List X) (x : X) → map f (xs ++ x ∷ []) ≡ map f xs ++ f x ∷ []
map_more f [] x = refl
map_more f (y ∷ xs) x = ap (λ l. f y ∷ l) (map_more f xs x)

pub parts_more : {Added : Named → Type 0} {most : ℕ} {old new : List Named} (is : List ℕ) (ys zs : List (List ℕ)) (i : ℕ) (y : List ℕ) → Grows Added most old new → AreParts old is ys → name_of new i ≡ Some y → zs ≡ ys ++ y ∷ [] → AreParts new (is ++ i ∷ []) zs
parts_more {new = new} is ys zs i y g a e z =
    map_more (λ i. name_of new i) is i ∙ ap (λ l. l ++ name_of new i ∷ []) (parts_kept g is ys a) ∙ ap (λ o. map (λ x. Some x) ys ++ o ∷ []) e ∙ sym (map_more (λ x. Some x) ys y) ∙ ap (λ l. map (λ x. Some x) l) (sym z)
