-- Tags, numbers for them, and the variants that have them.
use Rattle.std.specs.Prelude.{◌≡◌, ℕ, suc, zero, ◌+◌, ◌-◌, ◌*◌, ◌/◌, ◌%◌, ◌<◌, ℤ, pos, negsuc, Bool, true, false, List, [], ◌∷◌, length, take, Option, Some, MatchOption, slice_get, unwrap_or}
use Rattle.std.specs.{Borrow.Bor, BTreeMap.BTreeMap, BTreeMap.get, Ordering.nat_cmp}
use Rattle.borsh_walks.specs.Container.{Shape, choice, IsListedVariant, tag}
use Rattle.borsh_walks.specs.Tables.{mark_of}
use Rattle.borsh_values.specs.declared.tags.{Found.Found, Found.TheVariants.Nothing, Found.TheVariants.One, Found.TheVariants.Several}
use Rattle.borsh_values.specs.Unambiguous.{DistinctTags}

-- the number that the bytes encode, little-endian
abbrev pub number_of : List ℕ → ℕ
number_of [] = 0
number_of (b ∷ bs) = number_of bs * 256 + b

-- ---- a tag byte by byte: the bytes of a number, or of a negative number's complement, inverted
-- the number is below zero
abbrev pub is_negative : ℤ → Bool
is_negative (pos n) = false
is_negative (negsuc n) = true

-- the number itself, or -1 less a negative one
abbrev pub magnitude_of : ℤ → ℕ
magnitude_of (pos n) = n
magnitude_of (negsuc n) = n

-- a byte, or its complement
abbrev pub byte_as : Bool → ℕ → ℕ
byte_as false b = b
byte_as true b = 255 - b

-- the w low bytes of n, each itself or its complement
abbrev pub tag_from : Bool → ℕ → ℕ → List ℕ
tag_from f zero n = []
tag_from f (suc w) n = byte_as f (n % 256) ∷ tag_from f w (n / 256)

-- ---- numbers for tags
-- a number of 64 bits, in two's complement
abbrev pub bits_of : ℤ → ℕ
bits_of (pos n) = n
bits_of (negsuc n) = 18446744073709551615 - n

-- the number of the first eight bytes of a tag, or of all if these are fewer
abbrev pub key_of : List ℕ → ℕ
key_of t = number_of (take 8 t)

-- the discriminant has 64 bits, and n is the key of its tag
abbrev pub IsTagKey : ℕ → ℤ → ℕ → Type 0
IsTagKey width k n = (n ≡ key_of (tag width k)) × (magnitude_of k < 9223372036854775808)

-- ---- the variants with a tag
-- the place of a variant with the tag t, or no variant has it
abbrev pub IsVariantIndex : List (ℤ × List ℕ) → List ℕ → Option ℕ → Type 0
IsVariantIndex vs t found = MatchOption found ((k : ℤ) (p : List ℕ) → IsListedVariant k p vs → tag (length t) k ≡ t → ⊥) (λ i. (k : ℤ) × (p : List ℕ) × (slice_get vs i ≡ Some (k, p)) × (tag (length t) k ≡ t))

-- what was found with one variant more
abbrev pub more_found : Found → ℕ → Found
more_found Nothing i = One i
more_found f i = Several

-- of the variants those with discriminants for which P holds: none, the one at an index and no other, or two that have one tag
abbrev pub FoundBy : ℕ → (ℤ → Type 0) → List (ℤ × List ℕ) → Found → Type 0
FoundBy width P vs Nothing = (j : ℤ) (q : List ℕ) → IsListedVariant j q vs → P j → ⊥
FoundBy width P vs (One i) = (k : ℤ) × (p : List ℕ) × (slice_get vs i ≡ Some (k, p)) × P k × ((m : ℕ) (j : ℤ) (q : List ℕ) → slice_get vs m ≡ Some (j, q) → P j → m ≡ i)
FoundBy width P vs Several = DistinctTags width vs → ⊥

-- of the variants those are found whose tags are these bytes
abbrev pub FoundAs : List (ℤ × List ℕ) → List ℕ → Found → Type 0
FoundAs vs t f = FoundBy (length t) (λ j. tag (length t) j ≡ t) vs f

-- ---- tables of tags
-- the variants that a table has at a key
abbrev pub at_key : BTreeMap ℕ Found → ℕ → Found
at_key t n = unwrap_or (get nat_cmp t n) Nothing

-- T has at each key the variants with it
pub record IsTagTable (width : ℕ) (vs : List (ℤ × List ℕ)) (T : ℕ → Found) : Type 0 where
  pub small : (k : ℤ) (p : List ℕ) → IsListedVariant k p vs → magnitude_of k < 9223372036854775808
  pub right : (n : ℕ) → FoundBy width (λ j. n ≡ key_of (tag width j)) vs (T n)

-- if there is a table, it is the one of these variants
abbrev pub TableFits : ℕ → List (ℤ × List ℕ) → Option (BTreeMap ℕ Found) → Type 0
TableFits width vs found = (t : BTreeMap ℕ Found) → found ≡ Some t → IsTagTable width vs (at_key t)

-- the tables of enums, by their names
abbrev pub Tables : Type 0
Tables = BTreeMap (Bor (List ℕ)) (BTreeMap ℕ Found)

-- the table of the name x is the one of these variants, and those of other names are as before
pub record KeepsTables (x : List ℕ) (width : ℕ) (vs : List (ℤ × List ℕ)) (old new : Tables) : Type 0 where
  pub fits : TableFits width vs (mark_of new x)
  pub others : (y : List ℕ) → (y ≡ x → ⊥) → mark_of new y ≡ mark_of old y

-- each table is the one of the enum that the definitions give to its name
abbrev pub AreTagTables : (List ℕ → Option Shape) → Tables → Type 0
AreTagTables C tables = (x : List ℕ) (width : ℕ) (vs : List (ℤ × List ℕ)) → C x ≡ Some (choice width vs) → TableFits width vs (mark_of tables x)
