-- The meanings of types that words name.
use Rattle.std.specs.Prelude.{◌≡◌, ℕ, ℤ, ⊤, Box, nat_eq, false}
use Rattle.std.specs.Global.{Global}
use Rattle.core.specs.declared.num.nonzero.NonZeroI16.{NonZeroI16}
use Rattle.core.specs.declared.iter.ranges.Range.{Range}
use Rattle.core.specs.declared.iter.ranges.RangeInclusive.{RangeInclusive}
use Rattle.core.specs.declared.iter.ranges.RangeFrom.{RangeFrom}
use Rattle.core.specs.declared.iter.ranges.RangeTo.{RangeTo}
use Rattle.core.specs.declared.iter.ranges.RangeToInclusive.{RangeToInclusive}
use Rattle.core.specs.declared.iter.ranges.RangeFull.{RangeFull}
use Rattle.std_alloc.specs.declared.string.String.{String}
use Rattle.std_alloc.specs.declared.vec.deque.VecDeque.{VecDeque}
use Rattle.std_alloc.specs.declared.wrapped.BoxedSlice.{BoxedSlice}
use Rattle.std_alloc.specs.declared.wrapped.RcStr.{RcStr}
use Rattle.std.specs.String.{string_bytes}
use Rattle.core.specs.declared.hash.build.BuildHasherDefault.{BuildHasherDefault}
use Rattle.core.specs.declared.hash.fold.FoldHasher.{FoldHasher}
use Rattle.std.specs.BTreeMap.{BTreeMap}
use Rattle.std.specs.BTreeSet.{BTreeSet}
use Rattle.std.specs.HashMap.{HashMap}
use Rattle.std.specs.HashSet.{HashSet}
use Rattle.std.specs.declared.cmp.Ordering.TheVariants.{Equal}
use Rattle.std.specs.Ordering.{nat_cmp}
use Rattle.indexmap.specs.IndexMap.{IndexMap}
use Rattle.indexmap.specs.IndexSet.{IndexSet}
use Rattle.std.specs.Box.{boxed_slice_items}
use Rattle.std.specs.Int.NonZero.{non_zero_i16_get}
use Rattle.std.specs.Range.{range_inclusive_start, range_inclusive_end, range_inclusive_exhausted}
use Rattle.std.specs.Rc.{rc_str_bytes}
use Rattle.borsh.specs.Codec.{Codec}
use Rattle.borsh_walks.specs.Codecs.{vec_of}
use Rattle.borsh.specs.Shapes.{contramap, decoded_with, unsigned, signed, unit, pair, allocated, list}
use Rattle.borsh.specs.Maps.{index_map, index_set, btree_map, btree_set, hash_map, hash_set}
use Rattle.borsh.specs.Types.Texts.{text}
use Rattle.borsh_samples.specs.declared.my_struct.MyStruct.{MyStruct}
use Rattle.borsh_samples.specs.declared.readme.A.{A}

-- ---- numbers and ranges

abbrev pub non_zero_i16 : Codec NonZeroI16
non_zero_i16 = contramap non_zero_i16_get (signed 2)

abbrev pub range : {X : Type 0} → Codec X → Codec (Range X)
range c = contramap (λ r. (r.start, r.end)) (pair c c)

abbrev pub range_inclusive : {X : Type 0} → Codec X → Codec (RangeInclusive X)
range_inclusive c = decoded_with (λ r. range_inclusive_exhausted r ≡ false) (contramap (λ r. (range_inclusive_start r, range_inclusive_end r)) (pair c c))

abbrev pub range_from : {X : Type 0} → Codec X → Codec (RangeFrom X)
range_from c = contramap (λ r. r.start) c

abbrev pub range_to : {X : Type 0} → Codec X → Codec (RangeTo X)
range_to c = contramap (λ r. r.end) c

abbrev pub range_to_inclusive : {X : Type 0} → Codec X → Codec (RangeToInclusive X)
range_to_inclusive c = contramap (λ r. r.end) c

abbrev pub range_full : Codec RangeFull
range_full = contramap (λ _. tt) unit

-- one range of each kind
abbrev pub ranges : Codec (Range ℤ × RangeInclusive ℤ × RangeFrom ℤ × RangeTo ℤ × RangeToInclusive ℤ × RangeFull)
ranges =
    contramap (λ t. (t.0, (t.1, (t.2, (t.3, (t.4, t.5)))))) (pair (range (signed 4)) (pair (range_inclusive (signed 4)) (pair (range_from (signed 4)) (pair (range_to (signed 4)) (pair (range_to_inclusive (signed 4)) range_full)))))

-- ---- texts

abbrev pub string : Codec (String Global)
string = contramap string_bytes text

abbrev pub shared_text : Codec (RcStr Global)
shared_text = contramap rc_str_bytes text

-- ---- lists

abbrev pub deque : {X : Type 0} → Codec X → Codec (VecDeque X Global)
deque c = contramap (λ v. v.items) (list c)

abbrev pub boxed : {X : Type 0} → Codec X → Codec (BoxedSlice X Global)
boxed c = contramap boxed_slice_items (list c)

abbrev pub stored_in_box : {X : Type 0} → Codec X → Codec (Box X Global)
stored_in_box c = contramap (λ b. b.value) (allocated c)

-- ---- maps and sets

abbrev pub Hasher : Type 0
Hasher = BuildHasherDefault FoldHasher

abbrev pub set_u8 : Codec (BTreeSet ℕ)
set_u8 = contramap (λ s. s.keys) (btree_set nat_cmp (unsigned 1))

abbrev pub map_by_byte : {X : Type 0} → Codec X → Codec (BTreeMap ℕ X)
map_by_byte c = contramap (λ m. m.entries) (btree_map nat_cmp (unsigned 1) c)

abbrev pub map_unit : Codec (BTreeMap ⊤ ℕ)
map_unit = contramap (λ m. m.entries) (btree_map (λ _ _. Equal) unit (unsigned 1))

abbrev pub hash_set_u8 : Codec (HashSet ℕ Hasher)
hash_set_u8 = contramap (λ s. s.keys) (hash_set nat_cmp (unsigned 1))

abbrev pub hash_map_u8 : Codec (HashMap ℕ ℕ Hasher)
hash_map_u8 = contramap (λ m. m.entries) (hash_map nat_cmp (unsigned 1) (unsigned 1))

abbrev pub index_set_u8 : Codec (IndexSet ℕ Hasher)
index_set_u8 = contramap (λ s. s.keys) (index_set nat_eq (unsigned 1))

abbrev pub index_map_u8 : Codec (IndexMap ℕ ℕ Hasher)
index_map_u8 = contramap (λ m. m.entries) (index_map nat_eq (unsigned 1) (unsigned 1))

-- ---- a user's types

abbrev pub my_struct : Codec MyStruct
my_struct = contramap (λ v. (v.a, v.b)) (pair (unsigned 8) (vec_of (unsigned 1)))

abbrev pub readme : Codec A
readme = contramap (λ v. (v.x, v.y)) (pair (unsigned 8) string)
