-- How the meaning of a type comes from those of its parts.
use Rattle.std.specs.Prelude.{◌≡◌, ℕ, zero, suc, ℤ, pos, negsuc, ◌-◌, ◌/◌, ◌%◌, ◌^◌, Bool, true, false, ◌&&◌, ◌||◌, List, [], ◌∷◌, ◌++◌, length, Option, Some, None, nat_lt, nat_eq, cond, ◌⊎◌, ⊤}
use Rattle.std.specs.List.{All, AllZip}
use mathlib.Core.Logic.{inl, inr}
use Rattle.borsh_codec.specs.Codec.{Codec}

-- ---- a value seen as another one

-- the bytes of what `view` makes of a value
abbrev pub contramap : {A B : Type 0} → (B → A) → Codec A → Codec B
contramap view c = record {
  encoding = λ b. c.encoding (view b);
  equivalent = λ a b. c.equivalent (view a) (view b);
  decodes = λ strict x b. c.decodes strict x (view b);
  made = λ b. c.made (view b);
  is_zero_width = c.is_zero_width;
  is_canonical = c.is_canonical;
  decoding_allocates = c.decoding_allocates;
  encoding_allocates = c.encoding_allocates;
  refuses = c.refuses;
  texts_allocate = c.texts_allocate;
}

-- ---- values that are decoded from their encodings alone

-- equal values are the same, and the encoding alone is read
abbrev pub by_encoding : {A : Type 0} → (A → Option (List ℕ)) → Bool → Codec A
by_encoding f empty = record {
  encoding = f;
  equivalent = λ a b. a ≡ b;
  decodes = λ _ x a. f a ≡ Some x;
  made = λ _. ⊤;
  is_zero_width = empty;
  is_canonical = true;
  decoding_allocates = false;
  encoding_allocates = false;
  refuses = false;
  texts_allocate = false;
}

-- the n low bytes of a number, the lowest first; past all bytes of the number zeros
abbrev pub little_endian : ℕ → ℕ → List ℕ
little_endian zero x = []
little_endian (suc n) x = (x % 256) ∷ little_endian n (x / 256)

-- none for a number past n bytes
unfoldable pub unsigned_encoding : ℕ → ℕ → Option (List ℕ)
unsigned_encoding n x = cond (nat_lt x (256 ^ n)) (Some (little_endian n x)) None

abbrev pub is_zero : ℕ → Bool
is_zero zero = true
is_zero (suc n) = false

-- a number of n bytes
abbrev pub unsigned : ℕ → Codec ℕ
unsigned n = by_encoding (unsigned_encoding n) (is_zero n)

-- how many numbers of n bytes have one sign
abbrev pub sign_bound : ℕ → ℕ
sign_bound n = 256 ^ n / 2

-- two's complement; none for a number past n bytes
unfoldable pub signed_encoding : ℕ → ℤ → Option (List ℕ)
signed_encoding n (pos x) = cond (nat_lt x (sign_bound n)) (Some (little_endian n x)) None
signed_encoding n (negsuc x) = cond (nat_lt x (sign_bound n)) (Some (little_endian n (256 ^ n - suc x))) None

-- a number of n bytes with a sign
abbrev pub signed : ℕ → Codec ℤ
signed n = by_encoding (signed_encoding n) (is_zero n)

-- no bytes
abbrev pub unit : Codec ⊤
unit = by_encoding (λ _. Some []) true

-- ---- values that are refused

-- the value is not refused, and the bytes are read as it
pub record RefusedIfDecodes (A : Type 0) (refused : Bool) (c : Codec A) (strict : Bool) (x : List ℕ) (a : A) : Type 0 where
  pub allowed : refused ≡ false
  pub decodes : c.decodes strict x a

-- where `refused` is true no value has an encoding, and nothing is read
abbrev pub refused_if : {A : Type 0} → Bool → Codec A → Codec A
refused_if {A = A} refused c = record c {
  encoding = λ a. cond refused None (c.encoding a);
  decodes = RefusedIfDecodes A refused c;
  refuses = refused;
}

-- ---- values that pass a test

-- the value passes, and the bytes are read as it
pub record FilteredDecodes (A : Type 0) (test : A → Bool) (c : Codec A) (strict : Bool) (x : List ℕ) (a : A) : Type 0 where
  pub passed : test a ≡ true
  pub decodes : c.decodes strict x a

-- a value that doesn't pass has no encoding, and nothing is read as it; `texts` is whether the text of that error has to be
-- put together
abbrev pub filtered : {A : Type 0} → (texts : Bool) → (A → Bool) → Codec A → Codec A
filtered {A = A} texts test c = record c {
  encoding = λ a. cond (test a) (c.encoding a) None;
  decodes = FilteredDecodes A test c;
  texts_allocate = texts || c.texts_allocate;
}

-- ---- values in memory of their own

-- the same, read into memory
abbrev pub allocated : {A : Type 0} → Codec A → Codec A
allocated c = record c { decoding_allocates = true }

-- ---- what isn't encoded

-- the same, and P is true of each decoded value
abbrev pub decoded_with : {A : Type 0} → (A → Type 0) → Codec A → Codec A
decoded_with P c = record c { made = λ a. P a × c.made a }

-- ---- two parts in order

-- the bytes of two parts, where both have some
abbrev pub append_encodings : Option (List ℕ) → Option (List ℕ) → Option (List ℕ)
append_encodings None o = None
append_encodings (Some x) None = None
append_encodings (Some x) (Some y) = Some (x ++ y)

-- the list is one with P and then one with Q
pub record SplitsInto (P Q : List ℕ → Type 0) (x : List ℕ) : Type 0 where
  pub first : List ℕ
  pub second : List ℕ
  pub whole : x ≡ first ++ second
  pub left : P first
  pub right : Q second

abbrev pub pair : {A B : Type 0} → Codec A → Codec B → Codec (A × B)
pair a b = record {
  encoding = λ v. append_encodings (a.encoding v.0) (b.encoding v.1);
  equivalent = λ v w. a.equivalent v.0 w.0 × b.equivalent v.1 w.1;
  decodes = λ strict x v. SplitsInto (λ y. a.decodes strict y v.0) (λ y. b.decodes strict y v.1) x;
  made = λ v. a.made v.0 × b.made v.1;
  is_zero_width = a.is_zero_width && b.is_zero_width;
  is_canonical = a.is_canonical && b.is_canonical;
  decoding_allocates = a.decoding_allocates || b.decoding_allocates;
  encoding_allocates = a.encoding_allocates || b.encoding_allocates;
  refuses = a.refuses;
  texts_allocate = a.texts_allocate || b.texts_allocate;
}

-- ---- a tag and a part

-- no value; the text of the error names the tag that was found
abbrev pub never : Codec ⊥
never = record (by_encoding (λ _. None) false) { texts_allocate = true }

-- the bytes behind a tag
abbrev pub tagged : ℕ → Option (List ℕ) → Option (List ℕ)
tagged tag o = append_encodings (Some (tag ∷ [])) o

-- the list is the tag and then one with P
pub record IsTagged (tag : ℕ) (P : List ℕ → Type 0) (x : List ℕ) : Type 0 where
  pub part : List ℕ
  pub whole : x ≡ tag ∷ part
  pub holds : P part

-- the tag, one byte, and a value of c; the text of an error names the tag that was found
abbrev pub behind_tag : {A : Type 0} → ℕ → Codec A → Codec A
behind_tag tag c = record c {
  encoding = λ a. tagged tag (c.encoding a);
  decodes = λ strict x a. IsTagged tag (λ y. c.decodes strict y a) x;
  is_zero_width = false;
  refuses = false;
  texts_allocate = true;
}

abbrev pub either_encoding : {A B : Type 0} → Codec A → Codec B → A ⊎ B → Option (List ℕ)
either_encoding a b (inl v) = a.encoding v
either_encoding a b (inr v) = b.encoding v

abbrev pub either_equivalent : {A B : Type 0} → Codec A → Codec B → A ⊎ B → A ⊎ B → Type 0
either_equivalent a b (inl v) (inl w) = a.equivalent v w
either_equivalent a b (inl v) (inr w) = ⊥
either_equivalent a b (inr v) (inl w) = ⊥
either_equivalent a b (inr v) (inr w) = b.equivalent v w

abbrev pub either_decodes : {A B : Type 0} → Codec A → Codec B → Bool → List ℕ → A ⊎ B → Type 0
either_decodes a b strict x (inl v) = a.decodes strict x v
either_decodes a b strict x (inr v) = b.decodes strict x v

abbrev pub either_made : {A B : Type 0} → Codec A → Codec B → A ⊎ B → Type 0
either_made a b (inl v) = a.made v
either_made a b (inr v) = b.made v

-- a value of a or a value of b, which differ in their tags
abbrev pub either : {A B : Type 0} → Codec A → Codec B → Codec (A ⊎ B)
either a b = record {
  encoding = either_encoding a b;
  equivalent = either_equivalent a b;
  decodes = either_decodes a b;
  made = either_made a b;
  is_zero_width = false;
  is_canonical = a.is_canonical && b.is_canonical;
  decoding_allocates = a.decoding_allocates || b.decoding_allocates;
  encoding_allocates = a.encoding_allocates || b.encoding_allocates;
  refuses = false;
  texts_allocate = true;
}

-- the tag, one byte, and a value of a; or a value of b
abbrev pub variant : {A B : Type 0} → ℕ → Codec A → Codec B → Codec (A ⊎ B)
variant tag a b = either (behind_tag tag a) b

-- ---- elements in a row

-- the bytes of each in order, where each has some
abbrev pub concat_encodings : {A : Type 0} → (A → Option (List ℕ)) → List A → Option (List ℕ)
concat_encodings f [] = Some []
concat_encodings f (a ∷ xs) = append_encodings (f a) (concat_encodings f xs)

-- the bytes are those of each in order
abbrev pub DecodesEach : {A : Type 0} → (List ℕ → A → Type 0) → List ℕ → List A → Type 0
DecodesEach P x [] = x ≡ []
DecodesEach P x (a ∷ xs) = SplitsInto (λ y. P y a) (λ y. DecodesEach P y xs) x

-- n elements are read, one after another
pub record ArrayDecodes (A : Type 0) (n : ℕ) (c : Codec A) (strict : Bool) (x : List ℕ) (xs : List A) : Type 0 where
  pub long : length xs ≡ n
  pub parts : DecodesEach (c.decodes strict) x xs

-- n elements in order, with no count; a list of another length has no encoding
abbrev pub array : {A : Type 0} → ℕ → Codec A → Codec (List A)
array {A = A} n c = record {
  encoding = λ xs. cond (nat_eq (length xs) n) (concat_encodings c.encoding xs) None;
  equivalent = AllZip c.equivalent;
  decodes = ArrayDecodes A n c;
  made = All c.made;
  is_zero_width = is_zero n || c.is_zero_width;
  is_canonical = c.is_canonical;
  decoding_allocates = c.decoding_allocates;
  encoding_allocates = c.encoding_allocates;
  refuses = false;
  texts_allocate = c.texts_allocate;
}

-- a row that is read into memory
abbrev pub allocated_array : {A : Type 0} → ℕ → Codec A → Codec (List A)
allocated_array n c = record (array n c) { decoding_allocates = true }

-- a count of four bytes and then that many elements
abbrev pub length_prefixed : {A : Type 0} → Codec A → Codec (List A)
length_prefixed c = record {
  encoding = λ xs. append_encodings (unsigned_encoding 4 (length xs)) (concat_encodings c.encoding xs);
  equivalent = AllZip c.equivalent;
  decodes = λ strict x xs. SplitsInto (λ y. unsigned_encoding 4 (length xs) ≡ Some y) (λ y. DecodesEach (c.decodes strict) y xs) x;
  made = All c.made;
  is_zero_width = false;
  is_canonical = c.is_canonical;
  decoding_allocates = true;
  encoding_allocates = c.encoding_allocates;
  refuses = false;
  texts_allocate = c.texts_allocate;
}

-- the same, but elements whose encodings are empty are refused
abbrev pub list : {A : Type 0} → Codec A → Codec (List A)
list c = refused_if c.is_zero_width (length_prefixed c)
