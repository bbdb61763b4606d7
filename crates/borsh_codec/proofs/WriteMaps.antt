-- Maps and sets that are written as counted lists of their entries.
use Rattle.std.proofs.Common.{◌≡◌, ℕ, ◌+◌, ◌<◌, get_or, drop, Bool, cond, List, [], ◌∷◌, length, Option, None, refl, sym, ◌∙◌, ap, subst, map}
use Rattle.std.specs.declared.cmp.Ordering.{Ordering}
use Rattle.std.specs.Map.{keys_of}
use Rattle.std.specs.List.{IsDistinct}
use Rattle.std.specs.List.Sorted.{IsStrictlySortedBy}
use Rattle.std.proofs.lemmas.List.{length-map}
use Rattle.borsh_codec.specs.Codec.{Codec}
use Rattle.borsh_codec.specs.Shapes.{unsigned_encoding, append_encodings, concat_encodings, contramap, length_prefixed}
use Rattle.borsh_codec.specs.Maps.{btree_entries, index_entries, unit_entries, key_only}
use Rattle.borsh_codec.proofs.Laws.Maps.Ordered.{ascends_is}
use Rattle.borsh_codec.proofs.Laws.Maps.Inserted.{distinct_encoding}
use Rattle.borsh_codec.proofs.ReadMaps.{keys-bare_entries}
use Rattle.borsh_codec.proofs.WriteRows.{all_joined-next}

-- elements seen as others are written as these
pub all_joined-map : {A B : Type 0} (f : A → Option (List ℕ)) (g : B → A) (xs : List B) → concat_encodings (λ x. f (g x)) xs ≡ concat_encodings f (map g xs)
all_joined-map f g [] = refl
all_joined-map f g (x ∷ xs) = ap (append_encodings (f (g x))) (all_joined-map f g xs)

-- what is left of such elements begins with the one at hand
pub all_joined_map-next : {A B : Type 0} (f : A → Option (List ℕ)) (g : B → A) (xs : List B) (i : ℕ) (b : B) → i < length xs → b ≡ get_or xs i b → concat_encodings f (map g (drop i xs)) ≡ append_encodings (f (g b)) (concat_encodings f (map g (drop (i + 1) xs)))
all_joined_map-next f g xs i b h e = sym (all_joined-map f g (drop i xs)) ∙ all_joined-next (λ x. f (g x)) xs i b h e ∙ ap (append_encodings (f (g b))) (all_joined-map f g (drop (i + 1) xs))

pub counted-map : {A B : Type 0} (c : Codec A) (g : B → A) (xs : List B) → (length_prefixed (contramap g c)).encoding xs ≡ (length_prefixed c).encoding (map g xs)
counted-map c g xs = ap (λ n. append_encodings (unsigned_encoding 4 n) (concat_encodings (λ x. c.encoding (g x)) xs)) (sym (length-map xs g)) ∙ ap (append_encodings (unsigned_encoding 4 (length (map g xs)))) (all_joined-map c.encoding g xs)

keys_same : {K : Type 0} (ks : List K) → map (λ e. e.0) (unit_entries ks) ≡ ks
keys_same [] = refl
keys_same (k ∷ ks) = ap (λ l. k ∷ l) (keys_same ks)

-- keys are written as entries of nothing
pub counted-bare : {K : Type 0} (c : Codec K) (ks : List K) → (length_prefixed c).encoding ks ≡ (length_prefixed (key_only c)).encoding (unit_entries ks)
counted-bare c ks = sym (counted-map c (λ e. e.0) (unit_entries ks) ∙ ap (length_prefixed c).encoding (keys_same ks))

module _ {K V : Type 0} (item : Codec (K × V)) where
  -- entries that ascend
  pub btree_written : (cmp : K → K → Ordering) (es : List (K × V)) → IsStrictlySortedBy cmp (keys_of es) → (length_prefixed item).encoding es ≡ (btree_entries cmp item).encoding es
  btree_written cmp es s = sym (ap (λ t. cond t ((length_prefixed item).encoding es) None) ((ascends_is cmp (keys_of es)).1 s))

  -- entries of which no two have one key
  pub index_written : (eq : K → K → Bool) (es : List (K × V)) → IsDistinct eq (keys_of es) → (length_prefixed item).encoding es ≡ (index_entries eq item).encoding es
  index_written eq es d = sym (distinct_encoding eq item es d)

-- the same for the keys of a set
pub btree_set_written : {K : Type 0} (c : Codec K) (cmp : K → K → Ordering) (ks : List K) → IsStrictlySortedBy cmp ks → (length_prefixed c).encoding ks ≡ (contramap unit_entries (btree_entries cmp (key_only c))).encoding ks
btree_set_written c cmp ks s = counted-bare c ks ∙ btree_written (key_only c) cmp (unit_entries ks) (subst (IsStrictlySortedBy cmp) (sym (keys-bare_entries ks)) s)

pub index_set_written : {K : Type 0} (c : Codec K) (eq : K → K → Bool) (ks : List K) → IsDistinct eq ks → (length_prefixed c).encoding ks ≡ (contramap unit_entries (index_entries eq (key_only c))).encoding ks
index_set_written c eq ks d = counted-bare c ks ∙ index_written (key_only c) eq (unit_entries ks) (subst (IsDistinct eq) (sym (keys-bare_entries ks)) d)
