-- The meanings of maps and sets: a count and the entries, by ascending key or in the order of insertion.
use Rattle.std.specs.Prelude.{◌≡◌, ℕ, Bool, true, false, not, ◌&&◌, cond, List, [], ◌∷◌, Option, Some, None, ⊤, map}
use Rattle.std.specs.Bool.{Decides}
use Rattle.std.specs.declared.cmp.Ordering.{Ordering}
use Rattle.std.specs.Ordering.{is_lt, eq_by_cmp}
use Rattle.std.specs.BTreeMap.{insert_entry, is_at}
use Rattle.std.specs.Map.{keys_of, lookup, update_all}
use Rattle.std.specs.List.{All, list_all}
use Rattle.std.specs.List.Sorted.{IsStrictlySortedBy}
use Rattle.indexmap.specs.IndexMap.{insert_all}
use Rattle.borsh_codec.specs.Codec.{Codec}
use Rattle.borsh_codec.specs.Shapes.{contramap, refused_if, pair, length_prefixed}

-- `==` of two keys holds exactly if the two are one value
abbrev pub KeyLaw : {K : Type 0} → (K → K → Bool) → Codec K → Type 0
KeyLaw {K = K} eq c = (a b : K) → Decides (eq a b) (c.equivalent a b)

-- the entries by ascending key, each key once; of equal keys the first has the value
abbrev pub sorted_by_key : {K V : Type 0} → (K → K → Ordering) → List (K × V) → List (K × V)
sorted_by_key cmp [] = []
sorted_by_key cmp (e ∷ es) = insert_entry cmp (sorted_by_key cmp es) e.0 e.1

-- both are none, or both are some and the same by S
abbrev pub EquivalentOptions : {V : Type 0} → (V → V → Type 0) → Option V → Option V → Type 0
EquivalentOptions S None None = ⊤
EquivalentOptions S None (Some w) = ⊥
EquivalentOptions S (Some v) None = ⊥
EquivalentOptions S (Some v) (Some w) = S v w

-- the two answer alike, by S, at every key
abbrev pub EquivalentMaps : {K V : Type 0} → (K → K → Ordering) → (V → V → Type 0) → List (K × V) → List (K × V) → Type 0
EquivalentMaps {K = K} cmp S es fs = (q : K) → EquivalentOptions S (lookup (is_at (cmp q)) es) (lookup (is_at (cmp q)) fs)

-- the value of the last entry with the key
abbrev pub last_value : {K V : Type 0} → (K → K → Ordering) → List (K × V) → K → Option V
last_value cmp es q = update_all (eq_by_cmp cmp) (λ _. None) es q

-- at every key the entries have the value of the last entry that was read with it
abbrev pub HasLastValues : {K V : Type 0} → (K → K → Ordering) → List (K × V) → List (K × V) → Type 0
HasLastValues {K = K} cmp read es = (q : K) → lookup (is_at (cmp q)) es ≡ last_value cmp read q

-- a list that was read is out of order: strict mode wants its keys to ascend, and they don't
pub record IsOutOfOrder {K V : Type 0} (cmp : K → K → Ordering) (strict : Bool) (read : List (K × V)) : Type 0 where
  pub asked : strict ≡ true
  pub unordered : IsStrictlySortedBy cmp (keys_of read) → ⊥

-- the bytes are a count and that many entries, by ascending key in strict mode
pub record EntriesDecode {K V : Type 0} (cmp : K → K → Ordering) (item : Codec (K × V)) (strict : Bool) (x : List ℕ) (es : List (K × V)) : Type 0 where
  pub bytes : (length_prefixed item).decodes strict x es
  pub ascending : strict ≡ true → IsStrictlySortedBy cmp (keys_of es)

-- entries as they are read
abbrev pub entries : {K V : Type 0} → (K → K → Ordering) → Codec (K × V) → Codec (List (K × V))
entries cmp item = record (length_prefixed item) { decodes = EntriesDecode cmp item }

-- the bytes are entries of which the map was made
pub record MapDecodes {K V : Type 0} (cmp : K → K → Ordering) (item : Codec (K × V)) (strict : Bool) (x : List ℕ) (es : List (K × V)) : Type 0 where
  pub read : List (K × V)
  pub entries : EntriesDecode cmp item strict x read
  pub values : HasLastValues cmp read es

-- each entry was made as `item` makes it, with its own key or one that is equal
abbrev pub MadeEntries : {K V : Type 0} → (K → K → Bool) → Codec (K × V) → List (K × V) → Type 0
MadeEntries {K = K} eq item es = All (λ e. (k : K) × (eq k e.0 ≡ true) × item.made (k, e.1)) es

-- ---- in no order of their own

-- entries of a map that are written by ascending key: `item` is the meaning of an entry, S says which values are the same
abbrev pub hash_entries : {K V : Type 0} → (K → K → Ordering) → (V → V → Type 0) → Codec (K × V) → Codec (List (K × V))
hash_entries cmp S item = record (length_prefixed item) {
  encoding = λ es. (length_prefixed item).encoding (sorted_by_key cmp es);
  equivalent = EquivalentMaps cmp S;
  decodes = MapDecodes cmp item;
  made = MadeEntries (eq_by_cmp cmp) item;
  encoding_allocates = true;
}

-- ---- by ascending key

-- whether the keys strictly ascend
abbrev pub ascends : {K : Type 0} → (K → K → Ordering) → List K → Bool
ascends cmp [] = true
ascends cmp (k ∷ ks) = list_all (λ y. is_lt (cmp k y)) ks && ascends cmp ks

-- the entries ascend, and the bytes are read as their map
pub record BTreeMapDecodes {K V : Type 0} (cmp : K → K → Ordering) (item : Codec (K × V)) (strict : Bool) (x : List ℕ) (es : List (K × V)) : Type 0 where
  pub ordered : IsStrictlySortedBy cmp (keys_of es)
  pub decodes : MapDecodes cmp item strict x es

-- entries of a map that holds them by ascending key; entries that don't ascend, as in no such map, have no encoding
abbrev pub btree_entries : {K V : Type 0} → (K → K → Ordering) → Codec (K × V) → Codec (List (K × V))
btree_entries cmp item = record (length_prefixed item) {
  encoding = λ es. cond (ascends cmp (keys_of es)) ((length_prefixed item).encoding es) None;
  decodes = BTreeMapDecodes cmp item;
  made = MadeEntries (eq_by_cmp cmp) item;
}

-- ---- in the order of insertion

-- what inserting the entries in turn leaves: each key in its first place, with its last value
abbrev pub after_inserts : {K V : Type 0} → (K → K → Bool) → List (K × V) → List (K × V)
after_inserts eq es = insert_all eq [] es

-- whether no two of the keys are equal
abbrev pub are_distinct : {K : Type 0} → (K → K → Bool) → List K → Bool
are_distinct eq [] = true
are_distinct eq (k ∷ ks) = list_all (λ y. not (eq k y)) ks && are_distinct eq ks

-- the bytes are a count and that many entries, and inserting these in turn leaves exactly this list
pub record IndexMapDecodes {K V : Type 0} (eq : K → K → Bool) (item : Codec (K × V)) (strict : Bool) (x : List ℕ) (es : List (K × V)) : Type 0 where
  pub read : List (K × V)
  pub bytes : (length_prefixed item).decodes strict x read
  pub entries : es ≡ after_inserts eq read

-- entries of a map in the order of insertion; bytes with a key twice are read too; entries with a key twice, as in no such map, have no encoding
abbrev pub index_entries : {K V : Type 0} → (K → K → Bool) → Codec (K × V) → Codec (List (K × V))
index_entries eq item = record (length_prefixed item) {
  encoding = λ es. cond (are_distinct eq (keys_of es)) ((length_prefixed item).encoding es) None;
  decodes = IndexMapDecodes eq item;
  made = MadeEntries eq item;
  is_canonical = false;
}

-- ---- the types; keys whose encodings are empty are refused

-- the keys of a set, each with nothing
abbrev pub unit_entries : {K : Type 0} → List K → List (K × ⊤)
unit_entries ks = map (λ k. (k, tt)) ks

-- a key with nothing
abbrev pub key_only : {K : Type 0} → Codec K → Codec (K × ⊤)
key_only c = contramap (λ e. e.0) c

abbrev pub btree_map : {K V : Type 0} → (K → K → Ordering) → Codec K → Codec V → Codec (List (K × V))
btree_map cmp c d = refused_if c.is_zero_width (btree_entries cmp (pair c d))

abbrev pub btree_set : {K : Type 0} → (K → K → Ordering) → Codec K → Codec (List K)
btree_set cmp c = contramap unit_entries (refused_if c.is_zero_width (btree_entries cmp (key_only c)))

abbrev pub hash_map : {K V : Type 0} → (K → K → Ordering) → Codec K → Codec V → Codec (List (K × V))
hash_map cmp c d = refused_if c.is_zero_width (hash_entries cmp d.equivalent (pair c d))

abbrev pub hash_set : {K : Type 0} → (K → K → Ordering) → Codec K → Codec (List K)
hash_set cmp c = contramap unit_entries (refused_if c.is_zero_width (hash_entries cmp (λ v w. ⊤) (key_only c)))

abbrev pub index_map : {K V : Type 0} → (K → K → Bool) → Codec K → Codec V → Codec (List (K × V))
index_map eq c d = refused_if c.is_zero_width (index_entries eq (pair c d))

abbrev pub index_set : {K : Type 0} → (K → K → Bool) → Codec K → Codec (List K)
index_set eq c = contramap unit_entries (refused_if c.is_zero_width (index_entries eq (key_only c)))
