-- A JSON value represents at most one byte string.
use Rattle.std.proofs.{Common.{◌≡◌, ◌⊎◌, inl, inr, ℕ, suc, zero, ◌<◌, ◌≤◌, ◌^◌, List, [], ◌∷◌, ◌++◌, length, map, Bool, true, false, drop, get_or, Option, Some, refl, sym, ◌∙◌, ap, subst, arith, ℤ, pos, negsuc, ◌==◌, ◌&&◌, if◌then◌else◌, codes, bytes_eq, Ordering, Less, Greater}, lemmas.Cmp.{nat_list_cmp_total, int_cmp_total}, lemmas.Fmt.{decimal_is_IsNumeral_wide}, lemmas.Grind.{in_moved}, lemmas.List.Sorted.{IsPermutation-sym}, lemmas.Map.Keys.{sorted_head, sorted_tail, IsDistinct-head, IsDistinct-tail}, lemmas.Slice.Eq.{bytes_eq-Decides}, lemmas.Str.Parse.{digit_from_value}, Math.Nat.{pow-le-pow_right}}
use Rattle.std.specs.{Float.{binary32, binary64}, Str.Parse.{AllDigits, digits_value, signed_digits_value}, Fmt.{decimal, signed_decimal}, List.{AllByRecursion, IsDistinct}, List.Sorted.{IsPermutation, IsStrictlySortedBy, apply_swaps}, Ordering.{ordering_reverse}}
use Rattle.hex.specs.Hex.{decode_of}
use Rattle.json.specs.Json.{Json, boolean, number, string, array, object, no_members, member}
use Rattle.borsh_walks.specs.Container.{tag}
use Rattle.borsh_json.specs.{Forms.{Form, primitive, sequence, tuple, choice, named, unnamed, no_fields, HasNoBytes, IsByte, IsOption, IsMap}, Table.{Lengths, Keys, texts, numbers, Kind, no_bytes, truth, whole, float, raw, utf8, byte_list, list, row, inner, fields, optional, variants, entries, number_types, number_kind, primitive_kind, AreKeys, SequenceKind, a_text, some_bytes, an_object, some_elements, ChoiceKind, nullable, by_name, DefinedKind, HasKind, InRange, IsWhole, IsNumber, IsHex, IsPrefixed, Part, row_parts, list_parts, field_parts, IsVariant, this, that, Entry, entries_of, key_order, entry_parts, IsArray, Says}, Represents.{HaveBytes, none_left, next_part, TextSays}}
use Rattle.borsh_json.proofs.{FloatLaws.{float_one}, FormKinds.{unnamed_is}}

-- ---- the ascending arrangement of a map's entries is the only one
abbrev pub IsAmong : {X : Type 0} → X → List X → Type 0
IsAmong x [] = ⊥
IsAmong x (y ∷ ys) = (x ≡ y) ⊎ IsAmong x ys

place_of : {X : Type 0} (x : X) (xs : List X) → IsAmong x xs → (k : ℕ) × (k < length xs) × (x ≡ get_or xs k x)
place_of x [] i = absurd i
place_of x (y ∷ ys) (inl e) = (0, omega arith, e)
place_of x (y ∷ ys) (inr i) = let r = place_of x ys i in (suc r.0, omega (arith, r.1), r.2)

at_place : {X : Type 0} (x : X) (xs : List X) (k : ℕ) → k < length xs → get_or xs k x ≡ x → IsAmong x xs
at_place x [] k h e = absurd (omega (arith, h))
at_place x (y ∷ ys) zero h e = inl (sym e)
at_place x (y ∷ ys) (suc k) h e = inr (at_place x ys k (omega (arith, h)) e)

pub moved : {X : Type 0} (x : X) (xs ys : List X) → IsPermutation xs ys → IsAmong x xs → IsAmong x ys
moved x xs ys p i =
    let r = place_of x xs i in
    let s = in_moved xs p.moves r.0 x p.below r.1 r.2 in
    subst (λ zs. IsAmong x zs) (sym p.is) (at_place x (apply_swaps xs p.moves) s.1.0 s.1.1 s.1.2)

module _ {X : Type 0} (R : X → X → Ordering) (flip : (a b : X) → R a b ≡ ordering_reverse (R b a)) where
  not_both : (x y : X) → R x y ≡ Less → R y x ≡ Less → ⊥
  not_both x y p q = let e : Less ≡ Greater = sym p ∙ flip x y ∙ ap ordering_reverse q in cc

  below : (x y : X) (ys : List X) → AllByRecursion (λ z. R x z ≡ Less) ys → IsAmong y ys → R x y ≡ Less
  below x y [] h i = absurd i
  below x y (z ∷ zs) h (inl e) = subst (λ w. R x w ≡ Less) (sym e) h.0
  below x y (z ∷ zs) h (inr i) = below x y zs h.1 i

  same_first : (x y : X) (xs ys : List X) → AllByRecursion (λ z. R x z ≡ Less) xs → AllByRecursion (λ z. R y z ≡ Less) ys → IsAmong x (y ∷ ys) → IsAmong y (x ∷ xs) → x ≡ y
  same_first x y xs ys s t (inl e) i = e
  same_first x y xs ys s t (inr i) (inl e) = sym e
  same_first x y xs ys s t (inr i) (inr k) = absurd (not_both x y (below x y xs s k) (below y x ys t i))

  not_first : (x y z : X) (xs ys : List X) → AllByRecursion (λ w. R x w ≡ Less) xs → x ≡ y → IsAmong z xs → IsAmong z (y ∷ ys) → IsAmong z ys
  not_first x y z xs ys s e i (inr k) = k
  not_first x y z xs ys s e i (inl q) =
      let l : R x x ≡ Less = subst (λ w. R x w ≡ Less) (q ∙ sym e) (below x z xs s i) in
      absurd (not_both x x l l)

  sorted_one : (xs ys : List X) → IsStrictlySortedBy R xs → IsStrictlySortedBy R ys → ((x : X) → IsAmong x xs → IsAmong x ys) → ((x : X) → IsAmong x ys → IsAmong x xs) → xs ≡ ys
  sorted_one [] [] s t f g = refl
  sorted_one [] (y ∷ ys) s t f g = absurd (g y (inl refl))
  sorted_one (x ∷ xs) [] s t f g = absurd (f x (inl refl))
  sorted_one (x ∷ xs) (y ∷ ys) s t f g =
      let a = sorted_head R x xs s in
      let b = sorted_head R y ys t in
      let e = same_first x y xs ys a b (f x (inl refl)) (g y (inl refl)) in
      let r = sorted_one xs ys (sorted_tail R x xs s) (sorted_tail R y ys t) (λ z i. not_first x y z xs ys a e i (f z (inr i))) (λ z i. not_first y x z ys xs b (sym e) i (g z (inr i))) in
      ap (λ z. z ∷ xs) e ∙ ap (λ zs. y ∷ zs) r

key_flip : (keys : Keys) (a b : Entry) → key_order keys a b ≡ ordering_reverse (key_order keys b a)
key_flip texts a b = nat_list_cmp_total.antisymm a.0 b.0
key_flip (numbers n) a b = int_cmp_total.antisymm (signed_digits_value 10 a.0) (signed_digits_value 10 b.0)

arrangement_one : (keys : Keys) (ms es fs : List Entry) → IsPermutation ms es → IsStrictlySortedBy (key_order keys) es → IsPermutation ms fs → IsStrictlySortedBy (key_order keys) fs → es ≡ fs
arrangement_one keys ms es fs p s q t =
    sorted_one (key_order keys) (key_flip keys) es fs s t
    (λ x i. moved x ms fs q (moved x es ms (IsPermutation-sym ms es p) i))
    (λ x i. moved x ms es p (moved x fs ms (IsPermutation-sym ms fs q) i))

-- ---- numbers
decimal_nat : (m n : ℕ) → m < 10 ^ 64 → n < 10 ^ 64 → decimal m ≡ decimal n → m ≡ n
decimal_nat m n p q e = sym (decimal_is_IsNumeral_wide m p).1 ∙ ap (digits_value 10) e ∙ (decimal_is_IsNumeral_wide n q).1

no_minus : (n : ℕ) (ds : List ℕ) → n < 10 ^ 64 → decimal n ≡ 45 ∷ ds → ⊥
no_minus n ds h e = omega (arith, digit_from_value 45 (subst (AllDigits 10) e (decimal_is_IsNumeral_wide n h).0.1).0)

abbrev pub IsShort : ℤ → Type 0
IsShort (pos n) = n < 2 ^ 128
IsShort (negsuc n) = n < 2 ^ 128

pub decimal_one : (y z : ℤ) → IsShort y → IsShort z → signed_decimal y ≡ signed_decimal z → y ≡ z
decimal_one (pos m) (pos n) p q e = ap pos (decimal_nat m n (omega arith) (omega arith) e)
decimal_one (pos m) (negsuc n) p q e = absurd (no_minus m (decimal (suc n)) (omega arith) e)
decimal_one (negsuc m) (pos n) p q e = absurd (no_minus n (decimal (suc m)) (omega arith) (sym e))
decimal_one (negsuc m) (negsuc n) p q e = ap negsuc (omega (arith, decimal_nat (suc m) (suc n) (omega arith) (omega arith) (ap (drop 1) e)))

pub power_most : (n : ℕ) → n ≤ 16 → 256 ^ n ≤ 2 ^ 128
power_most n h = omega (arith, pow-le-pow_right {n = 256} (omega arith) h)

pub short : (n : ℕ) (s : Bool) (z : ℤ) → n ≤ 16 → InRange n s z → IsShort z
short n false (pos m) h r = omega (arith, power_most n h)
short n false (negsuc m) h r = absurd r
short n true (pos m) h r = omega (arith, power_most n h)
short n true (negsuc m) h r = omega (arith, power_most n h)

whole_one : (n : ℕ) (s z : Bool) {t a b : List ℕ} → n ≤ 16 → IsWhole n s z t a → IsWhole n s z t b → a ≡ b
whole_one n s z h p q = p.2 ∙ ap (λ k. tag n k) (decimal_one p.0 q.0 (short n s p.0 h p.3) (short n s q.0 h q.3) (sym p.1 ∙ q.1)) ∙ sym q.2

pub number_one : (n : ℕ) (s t : List ℕ) (j : Json) → IsNumber n s j → IsNumber n t j → s ≡ t
number_one n s t j (inl p) (inl q) = let e : number s ≡ number t = sym p.1 ∙ q.1 in cc
number_one n s t j (inl p) (inr q) = let e : number s ≡ string t = sym p.1 ∙ q.1 in cc
number_one n s t j (inr p) (inl q) = let e : string s ≡ number t = sym p.1 ∙ q.1 in cc
number_one n s t j (inr p) (inr q) = let e : string s ≡ string t = sym p.1 ∙ q.1 in cc

-- numbers have at most 16 bytes
abbrev pub IsSmall : Kind → Type 0
IsSmall kind = (n : ℕ) (s z : Bool) → kind ≡ whole n s z → n ≤ 16

small_if : (b : Bool) (k l : Kind) → IsSmall k → IsSmall l → IsSmall (if b then k else l)
small_if true k l p q = p
small_if false k l p q = q

whole_small : (m : ℕ) (s z : Bool) → m ≤ 16 → IsSmall (whole m s z)
whole_small m s z h n t y e = let d : m ≡ n = cc in subst (λ i. i ≤ 16) d h

number_small : (ts : List (List ℕ × ℕ × Bool × Bool)) (x : List ℕ) (n : ℕ) → AllByRecursion (λ (t : List ℕ × ℕ × Bool × Bool). t.1 ≤ 16) ts → IsSmall (number_kind ts x n)
number_small [] x n h = λ m s z e. cc
number_small (t ∷ ts) x n h = small_if (bytes_eq x t.0 && (t.1 == n)) (whole t.1 t.2 t.3) (number_kind ts x n) (whole_small t.1 t.2 t.3 h.0) (number_small ts x n h.1)

pub primitive_small : (x : List ℕ) (n : ℕ) → IsSmall (primitive_kind x n)
primitive_small x n =
    let others = number_small number_types x n (omega arith) in
    let doubles = small_if (bytes_eq x (codes "f64") && (n == 8)) (float binary64) (number_kind number_types x n) (λ m s z e. cc) others in
    let floats = small_if (bytes_eq x (codes "f32") && (n == 4)) (float binary32) _ (λ m s z e. cc) doubles in
    small_if (bytes_eq x (codes "bool") && (n == 1)) truth _ (λ m s z e. cc) floats

-- ---- what JSON of a kind says
pub hex_one : {j : Json} {a b : List ℕ} → IsHex j a → IsHex j b → a ≡ b
hex_one p q =
    let e : string (48 ∷ 120 ∷ p.0) ≡ string (48 ∷ 120 ∷ q.0) = sym p.1 ∙ q.1 in
    let d : p.0 ≡ q.0 = cc in
    let f = ap decode_of d in
    let r = p.2 in
    let s = q.2 in
    cc

prefixed_one : (l : Lengths) (m n : ℕ) (cs ds : List ℕ) {a b : List ℕ} → m ≡ n → cs ≡ ds → IsPrefixed l m cs a → IsPrefixed l n ds b → a ≡ b
prefixed_one l m n cs ds e f p q = p.2 ∙ ap (λ k. tag l.width (pos k) ++ cs) e ∙ ap (λ z. tag l.width (pos n) ++ z) f ∙ sym q.2

array_one : (l : Lengths) (e : List ℕ) (j : Json) {a b : List ℕ} {ps qs : List Part} → IsArray l e j a ps → IsArray l e j b qs → (a ≡ b) × (ps ≡ qs)
array_one l e j {ps = ps} {qs = qs} p q =
    let g : array p.0 ≡ array q.0 = sym p.1 ∙ q.1 in
    let d : p.0 ≡ q.0 = cc in
    let f : ps ≡ qs = p.2 ∙ ap (λ js. list_parts e js) d ∙ sym q.2 in
    (prefixed_one l (length ps) (length qs) [] [] (ap (λ ps. length ps) f) refl p.3 q.3, f)

-- variants of one name are one
differ : (u v : List ℕ) → u ≡ v → bytes_eq u v ≡ false → ⊥
differ u v e n = let t : true ≡ false = sym ((bytes_eq-Decides u v).1 e) ∙ n in cc

named_apart : {k : ℤ} {v p u : List ℕ} {vs : List (ℤ × List ℕ × List ℕ)} → IsVariant k v p vs → u ≡ v → AllByRecursion (λ y. bytes_eq u y ≡ false) (map (λ (v : ℤ × List ℕ × List ℕ). v.1) vs) → ⊥
named_apart {v = v} {u = u} this e n = differ u v e n.0
named_apart (that a) e n = named_apart a e n.1

pub variant_one : {j k : ℤ} {u v p q : List ℕ} {vs : List (ℤ × List ℕ × List ℕ)} → IsDistinct bytes_eq (map (λ (v : ℤ × List ℕ × List ℕ). v.1) vs) → IsVariant j u p vs → IsVariant k v q vs → u ≡ v → (j ≡ k) × (p ≡ q)
variant_one d this this e = (refl, refl)
variant_one d this (that b) e = absurd (named_apart b e (IsDistinct-head bytes_eq _ _ d))
variant_one d (that a) this e = absurd (named_apart a (sym e) (IsDistinct-head bytes_eq _ _ d))
variant_one d (that a) (that b) e = variant_one (IsDistinct-tail bytes_eq _ _ d) a b e

module _ (F : List ℕ → Option Form) where
  -- the JSON of a variant has its name
  abbrev IsVariantJson : List ℕ → List ℕ → Json → List Part → Type 0
  IsVariantJson v p j ps = ((j ≡ string v) × HasNoBytes F p × (ps ≡ [])) ⊎ ((value : Json) × (j ≡ object (member v value no_members)) × (HasNoBytes F p → ⊥) × (ps ≡ (p, value) ∷ []))

  name_one : (u v p q : List ℕ) {j : Json} {ps qs : List Part} → IsVariantJson u p j ps → IsVariantJson v q j qs → u ≡ v
  name_one u v p q (inl a) (inl b) = let e : string u ≡ string v = sym a.0 ∙ b.0 in cc
  name_one u v p q (inl a) (inr b) = let e : string u ≡ object (member v b.0 no_members) = sym a.0 ∙ b.1 in cc
  name_one u v p q (inr a) (inl b) = let e : object (member u a.0 no_members) ≡ string v = sym a.1 ∙ b.0 in cc
  name_one u v p q (inr a) (inr b) = let e : object (member u a.0 no_members) ≡ object (member v b.0 no_members) = sym a.1 ∙ b.1 in cc

  variant_parts : (u v p q : List ℕ) → p ≡ q → {j : Json} {ps qs : List Part} → IsVariantJson u p j ps → IsVariantJson v q j qs → ps ≡ qs
  variant_parts u v p q h (inl a) (inl b) = a.2 ∙ sym b.2
  variant_parts u v p q h (inl a) (inr b) = let e : string u ≡ object (member v b.0 no_members) = sym a.0 ∙ b.1 in cc
  variant_parts u v p q h (inr a) (inl b) = let e : object (member u a.0 no_members) ≡ string v = sym a.1 ∙ b.0 in cc
  variant_parts u v p q h (inr a) (inr b) =
      let e : object (member u a.0 no_members) ≡ object (member v b.0 no_members) = sym a.1 ∙ b.1 in
      let d : a.0 ≡ b.0 = cc in
      a.3 ∙ ap (λ z. (z, a.0) ∷ []) h ∙ ap (λ z. (q, z) ∷ []) d ∙ sym b.3

  -- JSON of a kind says one thing
  pub says_one : (kind : Kind) (j : Json) {a b : List ℕ} {ps qs : List Part} → IsSmall kind → Says F kind j a ps → Says F kind j b qs → (a ≡ b) × (ps ≡ qs)
  says_one no_bytes j h p q = (p.1 ∙ sym q.1, p.2 ∙ sym q.2)
  says_one truth j h p q =
      let e : boolean p.0 ≡ boolean q.0 = sym p.1 ∙ q.1 in
      let d : p.0 ≡ q.0 = cc in
      (p.2 ∙ ap (λ b. (if b then 1 else 0) ∷ []) d ∙ sym q.2, p.3 ∙ sym q.3)
  says_one (whole n s z) j {a = a} h p q =
      let e = number_one n p.0 q.0 j p.1 q.1 in
      (whole_one n s z (h n s z refl) (subst (λ t. IsWhole n s z t a) e p.2) q.2, p.3 ∙ sym q.3)
  says_one (float f) j h p q =
      let e : Some p.0 ≡ Some q.0 = sym p.1 ∙ q.1 in
      let d : p.0 ≡ q.0 = cc in
      (float_one f d p.2 q.2, p.3 ∙ sym q.3)
  says_one (raw n) j h p q = (hex_one p.0 q.0, p.2 ∙ sym q.2)
  says_one (utf8 l) j h p q =
      let e : string p.0 ≡ string q.0 = sym p.1 ∙ q.1 in
      let d : p.0 ≡ q.0 = cc in
      (prefixed_one l (length p.0) (length q.0) p.0 q.0 (ap (λ s. length s) d) d p.3 q.3, p.4 ∙ sym q.4)
  says_one (byte_list l e) j h (inl p) (inl q) =
      let d = hex_one p.1 q.1 in
      (prefixed_one l (length p.0) (length q.0) p.0 q.0 (ap (λ s. length s) d) d p.2 q.2, p.3 ∙ sym q.3)
  says_one (byte_list l e) j h (inl p) (inr q) = let g : string (48 ∷ 120 ∷ p.1.0) ≡ array q.0 = sym p.1.1 ∙ q.1 in cc
  says_one (byte_list l e) j h (inr p) (inl q) = let g : array p.0 ≡ string (48 ∷ 120 ∷ q.1.0) = sym p.1 ∙ q.1.1 in cc
  says_one (byte_list l e) j h (inr p) (inr q) = array_one l e j p q
  says_one (list l e) j h p q = array_one l e j p q
  says_one (row xs) j h p q =
      let g : array p.1 ≡ array q.1 = sym p.2 ∙ q.2 in
      let d : p.1 ≡ q.1 = cc in
      let f = ap (λ js. row_parts xs js) d in
      (p.0 ∙ sym q.0, let r = p.3 in let s = q.3 in cc)
  says_one (inner x) j h p q = (p.0 ∙ sym q.0, p.1 ∙ sym q.1)
  says_one (fields fs) j h p q =
      let g : object p.2 ≡ object q.2 = sym p.3 ∙ q.3 in
      let d : p.2 ≡ q.2 = cc in
      let f = ap (λ ms. field_parts fs ms) d in
      (p.1 ∙ sym q.1, let r = p.5 in let s = q.5 in cc)
  says_one (optional x) j h (inl p) (inl q) = (p.1 ∙ sym q.1, p.2 ∙ sym q.2)
  says_one (optional x) j h (inl p) (inr q) = absurd (q.0 p.0)
  says_one (optional x) j h (inr p) (inl q) = absurd (p.0 q.0)
  says_one (optional x) j h (inr p) (inr q) = (p.1 ∙ sym q.1, p.2 ∙ sym q.2)
  says_one (variants w vs) j h p q =
      let g = name_one p.2 q.2 p.3 q.3 p.6 q.6 in
      let e = variant_one p.0 p.4 q.4 g in
      (p.5 ∙ ap (λ k. tag w k) e.0 ∙ sym q.5, variant_parts p.2 q.2 p.3 q.3 e.1 p.6 q.6)
  says_one (entries l keys k v) j h p q =
      let g : object p.0 ≡ object q.0 = sym p.2 ∙ q.2 in
      let d : q.0 ≡ p.0 = cc in
      let e = arrangement_one keys (entries_of p.0) p.1 q.1 p.3 p.4 (subst (λ ms. IsPermutation (entries_of ms) q.1) d q.3) q.4 in
      (prefixed_one l (length p.1) (length q.1) [] [] (ap (λ es. length es) e) refl p.5 q.5, p.6 ∙ ap (λ es. entry_parts keys k v es) e ∙ sym q.6)

  -- ---- a name has one kind
  pub byte_or_map : {x e k v : List ℕ} {w lo hi : ℕ} → F x ≡ Some (sequence w lo hi e) → IsByte F e → IsMap F x k v → ⊥
  byte_or_map {e = e} {k = k} {v = v} {w = w} {lo = lo} {hi = hi} f b m =
      let g : Some (sequence w lo hi e) ≡ Some (sequence 4 0 4294967295 m.0) = sym f ∙ m.1 in
      let d : m.0 ≡ e = cc in
      let h : Some (tuple (k ∷ v ∷ [])) ≡ Some (primitive 1) = sym m.2 ∙ ap F d ∙ b.1 in
      cc

  pub map_one : {x k v l w : List ℕ} → IsMap F x k v → IsMap F x l w → (k ≡ l) × (v ≡ w)
  map_one {k = k} {v = v} {l = l} {w = w} m n =
      let g : Some (sequence 4 0 4294967295 m.0) ≡ Some (sequence 4 0 4294967295 n.0) = sym m.1 ∙ n.1 in
      let d : m.0 ≡ n.0 = cc in
      let h : Some (tuple (k ∷ v ∷ [])) ≡ Some (tuple (l ∷ w ∷ [])) = sym m.2 ∙ ap F d ∙ n.2 in
      (cc, cc)

  keys_one : (k : List ℕ) (a b : Keys) → AreKeys F k a → AreKeys F k b → a ≡ b
  keys_one k texts texts p q = refl
  keys_one k texts (numbers n) p q = let e : Some (sequence 4 0 4294967295 (codes "u8")) ≡ Some (primitive n) = sym p.1 ∙ q.0 in cc
  keys_one k (numbers m) texts p q = let e : Some (primitive m) ≡ Some (sequence 4 0 4294967295 (codes "u8")) = sym p.0 ∙ q.1 in cc
  keys_one k (numbers m) (numbers n) p q = let e : Some (primitive m) ≡ Some (primitive n) = sym p.0 ∙ q.0 in cc

  objects_one : (l : Lengths) {x k v m w : List ℕ} {a b : Keys} → IsMap F x k v → AreKeys F k a → IsMap F x m w → AreKeys F m b → entries l a k v ≡ entries l b m w
  objects_one l {k = k} {a = a} {b = b} p s q t =
      let e = map_one p q in
      let f = e.0 in
      let g = e.1 in
      let h = keys_one k a b s (subst (λ k. AreKeys F k b) (sym f) t) in
      cc

  sequence_one : {x e : List ℕ} {w lo hi : ℕ} {l : Lengths} {kind other : Kind} → F x ≡ Some (sequence w lo hi e) → SequenceKind F x l e kind → SequenceKind F x l e other → kind ≡ other
  sequence_one f (a_text s b) (a_text t c) = refl
  sequence_one f (a_text s b) (some_bytes t c) = absurd (t s)
  sequence_one f (a_text s b) (an_object m k) = absurd (byte_or_map f b m)
  sequence_one f (a_text s b) (some_elements n m z y) = absurd (n b)
  sequence_one f (some_bytes s b) (a_text t c) = absurd (s t)
  sequence_one f (some_bytes s b) (some_bytes t c) = refl
  sequence_one f (some_bytes s b) (an_object m k) = absurd (byte_or_map f b m)
  sequence_one f (some_bytes s b) (some_elements n m z y) = absurd (n b)
  sequence_one f (an_object m k) (a_text t c) = absurd (byte_or_map f c m)
  sequence_one f (an_object m k) (some_bytes t c) = absurd (byte_or_map f c m)
  sequence_one {l = l} f (an_object m k) (an_object n i) = objects_one l m k n i
  sequence_one f (an_object {k = k} {v = v} {keys = a} m i) (some_elements n o z y) = absurd (o k v a m i)
  sequence_one f (some_elements n m z y) (a_text t c) = absurd (n c)
  sequence_one f (some_elements n m z y) (some_bytes t c) = absurd (n c)
  sequence_one f (some_elements n o z y) (an_object {k = k} {v = v} {keys = a} m i) = absurd (o k v a m i)
  sequence_one f (some_elements n m z y) (some_elements o l u t) = refl

  pub option_one : {x p q : List ℕ} → IsOption F x p → IsOption F x q → p ≡ q
  option_one {p = p} {q = q} a b =
      let g : Some (choice 1 ((pos 0, codes "None", a.0) ∷ (pos 1, codes "Some", p) ∷ [])) ≡ Some (choice 1 ((pos 0, codes "None", b.0) ∷ (pos 1, codes "Some", q) ∷ [])) = sym a.1 ∙ b.1 in
      let u : ℤ × List ℕ × List ℕ = (pos 1, codes "Some", p) in
      let v : ℤ × List ℕ × List ℕ = (pos 1, codes "Some", q) in
      let e : u ≡ v = cc in
      ap (λ (w : ℤ × List ℕ × List ℕ). w.2) e

  choice_one : {x : List ℕ} {w : ℕ} {vs : List (ℤ × List ℕ × List ℕ)} {kind other : Kind} → ChoiceKind F x w vs kind → ChoiceKind F x w vs other → kind ≡ other
  choice_one (nullable p) (nullable q) = ap optional (option_one p.0 q.0)
  choice_one (nullable {p = p} a) (by_name n) = absurd (n p a)
  choice_one (by_name n) (nullable {p = p} a) = absurd (n p a)
  choice_one (by_name m) (by_name n) = refl

  defined_one : {x : List ℕ} {kind other : Kind} (d : Form) → F x ≡ Some d → DefinedKind F x d kind → DefinedKind F x d other → kind ≡ other
  defined_one (primitive n) f p q = p ∙ sym q
  defined_one (sequence w lo hi e) f p q = sequence_one f p q
  defined_one (tuple ps) f p q = p ∙ sym q
  defined_one (choice w vs) f p q = choice_one p q
  defined_one (named fs) f p q = p ∙ sym q
  defined_one (unnamed ps) f p q = p ∙ sym q
  defined_one no_fields f p q = p ∙ sym q

  pub kind_one : {x : List ℕ} {kind other : Kind} → HasKind F x kind → HasKind F x other → kind ≡ other
  kind_one (inl p) (inl q) = p.1 ∙ sym q.1
  kind_one (inl p) (inr q) = absurd (q.0 p.0)
  kind_one (inr p) (inl q) = absurd (p.0 q.0)
  kind_one {x = x} {other = other} (inr p) (inr q) =
      let g : Some q.1 ≡ Some p.1 = sym q.2 ∙ p.2 in
      let d : q.1 ≡ p.1 = cc in
      defined_one p.1 p.2 p.3 (subst (λ d. DefinedKind F x d other) d q.3)

  defined_small : (x : List ℕ) {kind : Kind} (d : Form) → DefinedKind F x d kind → IsSmall kind
  defined_small x (primitive n) p = subst IsSmall (sym p) (primitive_small x n)
  defined_small x (sequence w lo hi e) (a_text t c) = λ m s z e. cc
  defined_small x (sequence w lo hi e) (some_bytes t c) = λ m s z e. cc
  defined_small x (sequence w lo hi e) (an_object t c) = λ m s z e. cc
  defined_small x (sequence w lo hi e) (some_elements t c u v) = λ m s z e. cc
  defined_small x (tuple ps) p = λ m s z e. cc
  defined_small x (choice w vs) (nullable t) = λ m s z e. cc
  defined_small x (choice w vs) (by_name t) = λ m s z e. cc
  defined_small x (named fs) p = λ m s z e. cc
  defined_small x (unnamed ps) p = subst IsSmall (sym p) (unnamed_is IsSmall (λ xs m s z e. cc) (λ y m s z e. cc) ps)
  defined_small x no_fields p = λ m s z e. cc

  pub kind_small : {x : List ℕ} {kind : Kind} → HasKind F x kind → IsSmall kind
  kind_small (inl p) = λ m s z e. let f = p.1 in cc
  kind_small {x = x} (inr p) = defined_small x p.1 p.3

  -- ---- parts have one encoding
  pub bytes_one : {ps : List Part} {bs cs : List ℕ} → HaveBytes F ps bs → HaveBytes F ps cs → bs ≡ cs
  bytes_one none_left none_left = refl
  bytes_one (next_part {bs = bs} {j = j} {ps = ps} kind a qs h p r) (next_part {bs = cs} other b rs i q s) =
      let d = kind_one i h in
      let e = says_one kind j {a = a} {b = b} {ps = qs} {qs = rs} (kind_small h) p (subst (λ k. Says F k j b rs) d q) in
      let f = bytes_one r (subst (λ (l : List Part). HaveBytes F (l ++ ps) cs) (sym e.1) s) in
      ap (λ z. z ++ bs) e.0 ∙ ap (λ z. b ++ z) f

  -- and so has a text
  pub text_one : (root text : List ℕ) {a b : List ℕ} → TextSays F root text a → TextSays F root text b → a ≡ b
  text_one root text {b = b} p q =
      let g : Some q.0 ≡ Some p.0 = sym q.1 ∙ p.1 in
      let d : q.0 ≡ p.0 = cc in
      bytes_one p.2 (subst (λ j. HaveBytes F ((root, j) ∷ []) b) d q.2)
