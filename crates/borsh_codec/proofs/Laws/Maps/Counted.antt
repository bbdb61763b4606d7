-- What the laws of entries say of counted lists of them.
use Rattle.std.proofs.Common.{◌≡◌, ℕ, ◌<◌, ◌^◌, Bool, true, List, [], ◌∷◌, ◌++◌, length, Some, refl, sym, append-nil}
use Rattle.std.specs.List.{AllByRecursion, AllZip}
use Rattle.borsh_codec.specs.Codec.{Codec, Lawful}
use Rattle.borsh_codec.specs.Shapes.{unsigned_encoding, little_endian, concat_encodings, DecodesEach, length_prefixed}
use Rattle.borsh_codec.proofs.Laws.Lists.{joined_is}
use Rattle.borsh_codec.proofs.Laws.Numbers.{number_some, number_fits}
use Rattle.borsh_codec.proofs.Laws.Rows.{counted_fronts}

-- the value has an encoding
abbrev pub HasEncoding : {A : Type 0} → Codec A → A → Type 0
HasEncoding c a = (y : List ℕ) × (c.encoding a ≡ Some y)

module _ {A : Type 0} {c : Codec A} (l : Lawful A c) where
  -- of two counted lists, one a front of the other, nothing is left over, and the elements are the same
  pub same_counted : (m : Bool) (x z : List ℕ) (es fs : List A) → (length_prefixed c).decodes m x es → (length_prefixed c).decodes m (x ++ z) fs → (z ≡ []) × AllZip c.equivalent es fs
  same_counted m x z es fs h k = counted_fronts l m x z (x ++ z) [] es fs h k (sym (append-nil (x ++ z)))

  all_encoded : (m : Bool) (x : List ℕ) (es : List A) → DecodesEach (c.decodes m) x es → AllByRecursion (HasEncoding c) es
  all_encoded m x [] h = tt
  all_encoded m x (e ∷ es) h = (l.re_encodable m h.first e h.left, all_encoded m h.second es h.right)

  -- each element that is read has an encoding
  pub encoded_elements : (m : Bool) (x : List ℕ) (es : List A) → (length_prefixed c).decodes m x es → AllByRecursion (HasEncoding c) es
  encoded_elements m x es h = all_encoded m h.second es h.right

  all_same_itself : (m : Bool) (x : List ℕ) (es : List A) → DecodesEach (c.decodes m) x es → AllByRecursion (λ e. c.equivalent e e) es
  all_same_itself m x [] h = tt
  all_same_itself m x (e ∷ es) h = (l.unambiguous m h.first e e h.left h.left, all_same_itself m h.second es h.right)

  -- each element that is read is the same as itself
  pub same_elements : (m : Bool) (x : List ℕ) (es : List A) → (length_prefixed c).decodes m x es → AllByRecursion (λ e. c.equivalent e e) es
  same_elements m x es h = all_same_itself m h.second es h.right

  -- what has an encoding is the same as itself
  pub encoded_itself : (a : A) → HasEncoding c a → c.equivalent a a
  encoded_itself a h = let w = l.round_trip true a h.0 h.1 in l.unambiguous true h.0 a a w w

-- a list that was read is no longer than a count can say
pub counted_long : {A : Type 0} (c : Codec A) (m : Bool) (x : List ℕ) (es : List A) → (length_prefixed c).decodes m x es → length es < 256 ^ 4
counted_long c m x es h = (number_some 4 (length es) h.first h.left).0

all_joined_encoded : {A : Type 0} (c : Codec A) (es : List A) → AllByRecursion (HasEncoding c) es → (y : List ℕ) × (concat_encodings c.encoding es ≡ Some y)
all_joined_encoded c [] h = ([], refl)
all_joined_encoded c (e ∷ es) h =
    let rest = all_joined_encoded c es h.1 in
    (h.0.0 ++ rest.0, joined_is (c.encoding e) (concat_encodings c.encoding es) h.0.0 rest.0 h.0.1 rest.1)

-- elements with encodings, no more than a count can say, have one together
pub counted_encoded : {A : Type 0} (c : Codec A) (es : List A) → length es < 256 ^ 4 → AllByRecursion (HasEncoding c) es → HasEncoding (length_prefixed c) es
counted_encoded c es l h =
    let f = all_joined_encoded c es h in
    (little_endian 4 (length es) ++ f.0, joined_is (unsigned_encoding 4 (length es)) (concat_encodings c.encoding es) (little_endian 4 (length es)) f.0 (number_fits 4 (length es) l) f.1)
