-- The laws of maps whose entries are written by ascending key.
use Rattle.std.proofs.Common.{◌≡◌, ℕ, ◌≤◌, Bool, true, false, cond, List, [], ◌∷◌, length, Option, Some, None, refl, sym, ◌∙◌, ap, subst, arith, true≢false}
use Rattle.std.specs.declared.cmp.Ordering.{Ordering}
use Rattle.std.specs.declared.cmp.Ordering.TheVariants.{Equal}
use Rattle.std.specs.Ordering.{is_eq, eq_by_cmp}
use Rattle.std.specs.Cmp.{IsTotalOrder, tied_back, tied_itself, eq_by_cmp_equiv}
use Rattle.std.specs.BTreeMap.{is_at}
use Rattle.std.specs.Map.{keys_of, lookup, update_all, update}
use Rattle.std.specs.Set.{is_member}
use Rattle.std.specs.Option.{is_some}
use Rattle.std.specs.List.Sorted.{IsStrictlySortedBy}
use Rattle.std.specs.List.{AllByRecursion, AllZip}
use Rattle.std.proofs.lemmas.Map.Keys.{sorted_tail, IsDistinct-from_sorted}
use Rattle.std.proofs.lemmas.Map.Made.{update_all_none, length-le_from_is_member, is_some-lookup, is_some-update_all}
use Rattle.std.proofs.lemmas.Map.Entries.{lookup_head, lookup_tail, none_past_head, length-keys_of}
use Rattle.std.proofs.lemmas.Map.{lookup-none}
use Rattle.borsh_codec.specs.Codec.{Codec, Lawful}
use Rattle.borsh_codec.specs.Shapes.{length_prefixed}
use Rattle.borsh_codec.specs.Maps.{sorted_by_key, EquivalentOptions, EquivalentMaps, last_value, HasLastValues, MapDecodes, hash_entries}
use Rattle.borsh_codec.proofs.Laws.Rows.{length_prefixed-lawful}
use Rattle.borsh_codec.proofs.Laws.Maps.Counted.{HasEncoding, same_counted, encoded_elements, same_elements, encoded_itself, counted_long, counted_encoded}
use Rattle.borsh_codec.proofs.Laws.Maps.Entries.{equal_from_test, by_key_ascends, lookup-by_key, aligned}

-- two entries are the same exactly if their keys are equal in the order and their values the same by S
pub record IsKeyed {K V : Type 0} (cmp : K → K → Ordering) (S : V → V → Type 0) (item : Codec (K × V)) : Type 0 where
  pub order : IsTotalOrder cmp
  pub split : (e f : K × V) → item.equivalent e f → (cmp e.0 f.0 ≡ Equal) × S e.1 f.1
  pub build : (e f : K × V) → cmp e.0 f.0 ≡ Equal → S e.1 f.1 → item.equivalent e f

pub zip_map : {A B : Type 0} (R Q : A → B → Type 0) → ((a : A) (b : B) → R a b → Q a b) → (es : List A) (fs : List B) → AllZip R es fs → AllZip Q es fs
zip_map R Q f [] [] h = tt
zip_map R Q f [] (b ∷ fs) h = absurd h
zip_map R Q f (a ∷ es) [] h = absurd h
zip_map R Q f (a ∷ es) (b ∷ fs) h = (f a b h.0, zip_map R Q f es fs h.1)

-- the right elements have P too
zip_with : {A B : Type 0} (R Q : A → B → Type 0) (P : B → Type 0) → ((a : A) (b : B) → R a b → P b → Q a b) → (es : List A) (fs : List B) → AllZip R es fs → AllByRecursion P fs → AllZip Q es fs
zip_with R Q P f [] [] h p = tt
zip_with R Q P f [] (b ∷ fs) h p = absurd h
zip_with R Q P f (a ∷ es) [] h p = absurd h
zip_with R Q P f (a ∷ es) (b ∷ fs) h p = (f a b h.0 p.0, zip_with R Q P f es fs h.1 p.1)

same_option : {V : Type 0} (o p : Option V) → o ≡ p → EquivalentOptions (λ v w. v ≡ w) o p
same_option None None e = tt
same_option None (Some w) e = absurd (cc)
same_option (Some v) None e = absurd (cc)
same_option (Some v) (Some w) e = cc

module _ {K V : Type 0} (cmp : K → K → Ordering) (S : V → V → Type 0) (item : Codec (K × V)) (laws : Lawful (K × V) item) (keyed : IsKeyed cmp S item) where
  -- the same entries in turn leave the same values
  updates_same : (es fs : List (K × V)) → AllZip item.equivalent es fs → (g h : K → Option V) → ((q : K) → EquivalentOptions S (g q) (h q)) → (q : K) → EquivalentOptions S (update_all (eq_by_cmp cmp) g es q) (update_all (eq_by_cmp cmp) h fs q)
  updates_same [] [] z g h start q = start q
  updates_same [] (f ∷ fs) z g h start q = absurd z
  updates_same (e ∷ es) [] z g h start q = absurd z
  updates_same (e ∷ es) (f ∷ fs) z g h start q = updates_same es fs z.1 (update (eq_by_cmp cmp) g e.0 (Some e.1)) (update (eq_by_cmp cmp) h f.0 (Some f.1)) one q
    where
      by : (b : Bool) (v w : V) (o p : Option V) → S v w → EquivalentOptions S o p → EquivalentOptions S (cond b (Some v) o) (cond b (Some w) p)
      by true v w o p s t = s
      by false v w o p s t = t

      one : (q : K) → EquivalentOptions S (update (eq_by_cmp cmp) g e.0 (Some e.1) q) (update (eq_by_cmp cmp) h f.0 (Some f.1) q)
      one q =
          let parts = keyed.split e f z.0 in
          let level : eq_by_cmp cmp e.0 q ≡ eq_by_cmp cmp f.0 q = ap is_eq (keyed.order.congr e.0 f.0 q parts.0) in
          subst (λ b. EquivalentOptions S (cond (eq_by_cmp cmp e.0 q) (Some e.1) (g q)) (cond b (Some f.1) (h q))) level (by (eq_by_cmp cmp e.0 q) e.1 f.1 (g q) (h q) parts.1 (start q))

  -- a value at a key comes from an entry with an encoding
  IsEncodedAt : (K → Option V) → Type 0
  IsEncodedAt g = (q : K) (v : V) → g q ≡ Some v → (e : K × V) × (cmp q e.0 ≡ Equal) × (e.1 ≡ v) × HasEncoding item e

  encoded_at : (es : List (K × V)) → AllByRecursion (HasEncoding item) es → (g : K → Option V) → IsEncodedAt g → IsEncodedAt (update_all (eq_by_cmp cmp) g es)
  unfolding IsEncodedAt
  encoded_at [] a g h = h
  encoded_at (e ∷ es) a g h = encoded_at es a.1 (update (eq_by_cmp cmp) g e.0 (Some e.1)) one
    where
      by : (q : K) (v : V) (b : Bool) → eq_by_cmp cmp e.0 q ≡ b → cond b (Some e.1) (g q) ≡ Some v → (e : K × V) × (cmp q e.0 ≡ Equal) × (e.1 ≡ v) × HasEncoding item e
      by q v true i j = (e, tied_back keyed.order e.0 q (equal_from_test (cmp e.0 q) i), cc, a.0)
      by q v false i j = h q v j

      one : (q : K) (v : V) → update (eq_by_cmp cmp) g e.0 (Some e.1) q ≡ Some v → (e : K × V) × (cmp q e.0 ≡ Equal) × (e.1 ≡ v) × HasEncoding item e
      one q v i = by q v (eq_by_cmp cmp e.0 q) refl i

  -- ascending entries whose values come from such entries have encodings
  all_from : (fs : List (K × V)) → IsStrictlySortedBy cmp (keys_of fs) → IsEncodedAt (λ q. lookup (is_at (cmp q)) fs) → AllByRecursion (HasEncoding item) fs
  unfolding IsEncodedAt
  all_from [] s h = tt
  all_from (f ∷ fs) s h = (here, all_from fs (sorted_tail cmp f.0 (keys_of fs) s) rest)
    where
      here : HasEncoding item f
      here =
          let first : lookup (is_at (cmp f.0)) (f ∷ fs) ≡ Some f.1 = lookup_head (is_at (cmp f.0)) f fs (ap is_eq (tied_itself keyed.order f.0)) in
          let found = h f.0 f.1 first in
          let e : K × V = found.0 in
          let values : S f.1 e.1 = subst (λ v. S v e.1) found.2 (keyed.split e e (encoded_itself laws e found.3)).1 in
          (found.3.0, laws.equivalent_encoding f e (keyed.build f e found.1 values) ∙ found.3.1)

      rest : (q : K) (v : V) → lookup (is_at (cmp q)) fs ≡ Some v → (e : K × V) × (cmp q e.0 ≡ Equal) × (e.1 ≡ v) × HasEncoding item e
      rest q v i = by (is_eq (cmp q f.0)) refl
        where
          by : (b : Bool) → is_eq (cmp q f.0) ≡ b → (e : K × V) × (cmp q e.0 ≡ Equal) × (e.1 ≡ v) × HasEncoding item e
          by true j =
              let a : lookup (is_at (cmp q)) fs ≡ None = lookup-none (is_at (cmp q)) fs (none_past_head (eq_by_cmp_equiv keyed.order) q f fs (IsDistinct-from_sorted cmp (keys_of (f ∷ fs)) s) j) in
              absurd (cc)
          by false j = h q v (lookup_tail (is_at (cmp q)) f fs j ∙ i)

  -- in ascending entries each key has the value of its one entry
  pub one_entry : (es : List (K × V)) → IsStrictlySortedBy cmp (keys_of es) → (q : K) → last_value cmp es q ≡ lookup (is_at (cmp q)) es
  one_entry es s q = update_all_none (eq_by_cmp_equiv keyed.order) (eq_by_cmp cmp) (λ x y. refl) es q (IsDistinct-from_sorted cmp (keys_of es) s)

  -- what is read twice leaves the same values
  pub same_values : (m : Bool) (x : List ℕ) (a b : List (K × V)) → MapDecodes cmp item m x a → MapDecodes cmp item m x b → EquivalentMaps cmp S a b
  same_values m x a b h k q =
      let both = (length_prefixed-lawful laws).unambiguous m x h.read k.read h.entries.bytes k.entries.bytes in
      let same = updates_same h.read k.read both (λ _. None) (λ _. None) (λ _. tt) q in
      subst (λ l. EquivalentOptions S l (lookup (is_at (cmp q)) b)) (sym (h.values q)) (subst (λ l. EquivalentOptions S (last_value cmp h.read q) l) (sym (k.values q)) same)

  -- ascending entries whose values came from a list that was read have an encoding
  pub all_read : (m : Bool) (x : List ℕ) (read fs : List (K × V)) → (length_prefixed item).decodes m x read → IsStrictlySortedBy cmp (keys_of fs) → HasLastValues cmp read fs → HasEncoding (length_prefixed item) fs
  unfolding IsEncodedAt
  all_read m x read fs h s values =
      let parts : IsEncodedAt (last_value cmp read) = encoded_at read (encoded_elements laws m x read h) (λ _. None) (λ q v i. absurd (cc)) in
      let found : IsEncodedAt (λ q. lookup (is_at (cmp q)) fs) = λ q v i. parts q v (sym (values q) ∙ i) in
      let equiv = eq_by_cmp_equiv keyed.order in
      let there : (q : K) → is_member (eq_by_cmp cmp) (keys_of fs) q ≡ true → is_member (eq_by_cmp cmp) (keys_of read) q ≡ true = λ q i.
      sym (is_some-update_all equiv q (λ _. None) read) ∙ ap is_some (sym (values q)) ∙ is_some-lookup (is_at (cmp q)) fs ∙ i in
      let bound : length (keys_of fs) ≤ length (keys_of read) = length-le_from_is_member equiv (keys_of fs) (keys_of read) (IsDistinct-from_sorted cmp (keys_of fs) s) there in
      let long = counted_long item m x read h in
      counted_encoded item fs (omega (arith, length-keys_of fs, length-keys_of read)) (all_from fs s found)

  -- ascending entries with the values of ascending entries that were read are the same as these
  pub same_as_read : (m : Bool) (x : List ℕ) (read fs : List (K × V)) → (length_prefixed item).decodes m x read → IsStrictlySortedBy cmp (keys_of read) → IsStrictlySortedBy cmp (keys_of fs) → HasLastValues cmp read fs → AllZip item.equivalent fs read
  same_as_read m x read fs h s t given =
      let values : EquivalentMaps cmp (λ v w. v ≡ w) fs read = λ q. same_option (lookup (is_at (cmp q)) fs) (lookup (is_at (cmp q)) read) (given q ∙ one_entry read s q) in
      let zipped = aligned keyed.order (λ v w. v ≡ w) fs read t s values in
      zip_with (λ e f. (cmp e.0 f.0 ≡ Equal) × (e.1 ≡ f.1)) item.equivalent (λ e. item.equivalent e e) (λ e f i t. keyed.build e f i.0 (subst (λ v. S v f.1) (sym i.1) (keyed.split f f t).1)) fs read zipped (same_elements laws m x read h)

  -- ---- the laws

  -- what the ascending list has at a key, where the entries came from a list that was read
  sorted_values : (es read : List (K × V)) → HasLastValues cmp read es → HasLastValues cmp read (sorted_by_key cmp es)
  sorted_values es read h q = lookup-by_key keyed.order q es ∙ h q

  equivalent_encoding : (a b : List (K × V)) → EquivalentMaps cmp S a b → (hash_entries cmp S item).encoding a ≡ (hash_entries cmp S item).encoding b
  equivalent_encoding a b h =
      let o = keyed.order in
      let both : EquivalentMaps cmp S (sorted_by_key cmp a) (sorted_by_key cmp b) = λ q. subst (λ l. EquivalentOptions S l (lookup (is_at (cmp q)) (sorted_by_key cmp b))) (sym (lookup-by_key o q a)) (subst (λ l. EquivalentOptions S (lookup (is_at (cmp q)) a) l) (sym (lookup-by_key o q b)) (h q)) in
      let zipped = aligned o S (sorted_by_key cmp a) (sorted_by_key cmp b) (by_key_ascends o a) (by_key_ascends o b) both in
      let same : AllZip item.equivalent (sorted_by_key cmp a) (sorted_by_key cmp b) = zip_map (λ e f. (cmp e.0 f.0 ≡ Equal) × S e.1 f.1) item.equivalent (λ e f i. keyed.build e f i.0 i.1) (sorted_by_key cmp a) (sorted_by_key cmp b) zipped in
      (length_prefixed-lawful laws).equivalent_encoding (sorted_by_key cmp a) (sorted_by_key cmp b) same

  round_trip : (m : Bool) (a : List (K × V)) (x : List ℕ) → (hash_entries cmp S item).encoding a ≡ Some x → MapDecodes cmp item m x a
  round_trip m a x e = record {
    read = sorted_by_key cmp a;
    entries = record { bytes = (length_prefixed-lawful laws).round_trip m (sorted_by_key cmp a) x e; ascending = λ _. by_key_ascends keyed.order a };
    values = λ q. sym (lookup-by_key keyed.order q a) ∙ sym (one_entry (sorted_by_key cmp a) (by_key_ascends keyed.order a) q);
  }

  canonical : (x : List ℕ) (a : List (K × V)) → item.is_canonical ≡ true → MapDecodes cmp item true x a → (hash_entries cmp S item).encoding a ≡ Some x
  canonical x a k h =
      let same = same_as_read true x h.read (sorted_by_key cmp a) h.entries.bytes (h.entries.ascending refl) (by_key_ascends keyed.order a) (sorted_values a h.read h.values) in
      (length_prefixed-lawful laws).equivalent_encoding (sorted_by_key cmp a) h.read same ∙ (length_prefixed-lawful laws).canonical x h.read k h.entries.bytes

  pub hash_entries-lawful : Lawful (List (K × V)) (hash_entries cmp S item)
  hash_entries-lawful = record {
    equivalent_encoding = equivalent_encoding;
    prefix_free = λ m x z a b h k. (same_counted laws m x z h.read k.read h.entries.bytes k.entries.bytes).0;
    empty = λ m x a e h. absurd (true≢false (sym e));
    non_empty = λ m a e h. (length_prefixed-lawful laws).non_empty m h.read refl h.entries.bytes;
    round_trip = round_trip;
    unambiguous = same_values;
    re_encodable = λ m x a h. all_read m x h.read (sorted_by_key cmp a) h.entries.bytes (by_key_ascends keyed.order a) (sorted_values a h.read h.values);
    canonical = canonical;
    refused = λ v e. absurd (true≢false (sym e));
  }
