-- Maps and sets that are read: the whole list of entries first, then the order of the keys, then the map.
use Rattle.std.proofs.Common.{◌≡◌, ℕ, Bool, true, false, cond, ◌||◌, List, [], ◌∷◌, ◌++◌, Some, None, refl, sym, ◌∙◌, ap, subst}
use Rattle.std.specs.Prelude.{if◌then◌else◌}
use Rattle.std.specs.Bool.{⊤}
use Rattle.std.specs.declared.cmp.Ordering.{Ordering}
use Rattle.std.specs.Ordering.{is_eq, eq_by_cmp}
use Rattle.std.specs.Cmp.{IsEquivalence, IsTotalOrder, eq_by_cmp_equiv}
use Rattle.std.specs.BTreeMap.{is_at}
use Rattle.std.specs.Map.{keys_of, lookup, update_all}
use Rattle.std.specs.Set.{is_member}
use Rattle.std.specs.List.{list_any, IsDistinct}
use Rattle.std.specs.List.Sorted.{IsStrictlySortedBy}
use Rattle.std.proofs.lemmas.Map.Keys.{IsDistinct-from_sorted}
use Rattle.std.proofs.lemmas.Map.Made.{update_all_pairs}
use Rattle.std.proofs.lemmas.List.{length-map}
use Rattle.std.proofs.lemmas.List.Elements.{All-map}
use Rattle.indexmap.specs.IndexMap as index_map
use Rattle.indexmap.specs.IndexSet as index_set
use Rattle.borsh_io.specs.declared.error.ErrorKind.{ErrorKind}
use Rattle.borsh_io.specs.Stream.{ReaderState}
use Rattle.borsh_codec.specs.Codec.{Codec, IsDecodable, Lawful}
use Rattle.borsh_codec.specs.Shapes.{unsigned_encoding, refused_if, DecodesEach, length_prefixed}
use Rattle.borsh_codec.specs.Maps.{HasLastValues, IsOutOfOrder, entries, MadeEntries, hash_entries, btree_entries, after_inserts, index_entries, unit_entries, key_only}
use Rattle.borsh_codec.specs.Reading.{NoPrefix, IsInvalidData, Decoded, NotDecoded}
use Rattle.borsh_codec.proofs.Laws.Rows.{counted_fronts}
use Rattle.borsh_codec.proofs.Laws.Maps.Sorted.{IsKeyed}
use Rattle.borsh_codec.proofs.Laws.Maps.Ordered.{ascending_back}
use Rattle.borsh_codec.proofs.MadeMaps.{made_collected, made_after}
use Rattle.borsh_codec.proofs.ReadSteps.{took_weaker, told_after, refused_map, refused_here}

-- what one meaning reads as v, another one reads as w
pub reads_as : {A B : Type 0} {c : Codec A} (d : Codec B) {s t : ReaderState} {v : A} (w : B) → ((m : Bool) (x : List ℕ) → c.decodes m x v → d.decodes m x w) → (c.made v → d.made w) → Decoded A c s t v → Decoded B d s t w
reads_as d {s = s} w f g r = record { took = took_weaker (f s.strict_order) r.took; made = g r.made }

-- what one meaning doesn't read, another one doesn't either
pub denied_as : {A B : Type 0} {c : Codec A} (d : Codec B) {s t : ReaderState} {k : ErrorKind} → (c.decoding_allocates ≡ true → d.decoding_allocates ≡ true) → (c.texts_allocate ≡ true → d.texts_allocate ≡ true) → ((m : Bool) (x : List ℕ) → IsDecodable d m x → IsDecodable c m x) → NotDecoded A c s t k → NotDecoded B d s t k
denied_as d {s = s} g i f r = record { refused = refused_map g i (λ o none front rest e h. none front rest e (f s.strict_order front h)) r.refused }

module _ {K V : Type 0} {cmp : K → K → Ordering} {item : Codec (K × V)} (refused : Bool) where
  -- ---- the order

  -- the entries ascend, where that is wanted
  pub reads_entries : {s t : ReaderState} {es : List (K × V)} → (s.strict_order ≡ true → IsStrictlySortedBy cmp (keys_of es)) → Decoded (List (K × V)) (refused_if refused (length_prefixed item)) s t es → Decoded (List (K × V)) (refused_if refused (entries cmp item)) s t es
  reads_entries up r = record { took = took_weaker (λ x h. record { allowed = h.allowed; decodes = record { bytes = h.decodes; ascending = up } }) r.took; made = r.made }

  pub denied_entries : {s t : ReaderState} {k : ErrorKind} → NotDecoded (List (K × V)) (refused_if refused (length_prefixed item)) s t k → NotDecoded (List (K × V)) (refused_if refused (entries cmp item)) s t k
  denied_entries = denied_as (refused_if refused (entries cmp item)) (λ e. e) (λ e. e) (λ m x h. (h.0, record { allowed = h.1.allowed; decodes = h.1.decodes.bytes }))

  -- they don't
  pub denied_order : {S : V → V → Type 0} {s t : ReaderState} {es : List (K × V)} {k : ErrorKind} → Lawful (K × V) item → IsKeyed cmp S item → IsInvalidData item.texts_allocate k → IsOutOfOrder cmp s.strict_order es → Decoded (List (K × V)) (refused_if refused (length_prefixed item)) s t es
      → NotDecoded (List (K × V)) (refused_if refused (entries cmp item)) s t k
  denied_order {S = S} {s = s} {t = t} {es = es} laws keyed is told p = record { refused = refused_here is p.took none }
    where
      none : NoPrefix (IsDecodable (refused_if refused (entries cmp item)) s.strict_order) s.bytes
      none front rest e h =
          let o = told_after s.bytes t.bytes (front ++ rest) p.took.front e p.took.takes.bytes in
          let z = (counted_fronts laws s.strict_order p.took.front o.0 front rest es h.0 p.took.holds.decodes h.1.decodes.bytes (sym o.2)).1 in
          told.unordered (ascending_back cmp S item laws keyed es h.0 z (h.1.decodes.ascending told.asked))

  -- ---- the map

  pub reads_sorted : (S : V → V → Type 0) {s t : ReaderState} {read : List (K × V)} (es : List (K × V)) → IsTotalOrder cmp → HasLastValues cmp read es → IsDistinct (eq_by_cmp cmp) (keys_of es) → Decoded (List (K × V)) (refused_if refused (entries cmp item)) s t read
      → Decoded (List (K × V)) (refused_if refused (hash_entries cmp S item)) s t es
  reads_sorted S {read = read} es o values d = reads_as (refused_if refused (hash_entries cmp S item)) es (λ m x h. record { allowed = h.allowed; decodes = record { read = read; entries = h.decodes; values = values } }) (made_collected (eq_by_cmp_equiv o) item read es d values)

  pub denied_sorted : (S : V → V → Type 0) {s t : ReaderState} {k : ErrorKind} → NotDecoded (List (K × V)) (refused_if refused (entries cmp item)) s t k → NotDecoded (List (K × V)) (refused_if refused (hash_entries cmp S item)) s t k
  denied_sorted S = denied_as (refused_if refused (hash_entries cmp S item)) (λ e. e) (λ e. e) (λ m x h. (h.1.decodes.read, record { allowed = h.1.allowed; decodes = h.1.decodes.entries }))

  pub reads_ordered : {s t : ReaderState} {read : List (K × V)} (es : List (K × V)) → IsTotalOrder cmp → HasLastValues cmp read es → IsStrictlySortedBy cmp (keys_of es) → Decoded (List (K × V)) (refused_if refused (entries cmp item)) s t read
      → Decoded (List (K × V)) (refused_if refused (btree_entries cmp item)) s t es
  reads_ordered {read = read} es o values up = reads_as (refused_if refused (btree_entries cmp item)) es (λ m x h. record { allowed = h.allowed; decodes = record { ordered = up; decodes = record { read = read; entries = h.decodes; values = values } } })
      (made_collected (eq_by_cmp_equiv o) item read es (IsDistinct-from_sorted cmp (keys_of es) up) values)

  pub denied_ordered : {s t : ReaderState} {k : ErrorKind} → NotDecoded (List (K × V)) (refused_if refused (entries cmp item)) s t k → NotDecoded (List (K × V)) (refused_if refused (btree_entries cmp item)) s t k
  denied_ordered = denied_as (refused_if refused (btree_entries cmp item)) (λ e. e) (λ e. e) (λ m x h. (h.1.decodes.decodes.read, record { allowed = h.1.allowed; decodes = h.1.decodes.decodes.entries }))

module _ {K V : Type 0} {item : Codec (K × V)} (refused : Bool) where
  pub reads_inserted : {eq : K → K → Bool} {s t : ReaderState} {read : List (K × V)} (es : List (K × V)) → IsEquivalence eq → es ≡ after_inserts eq read → Decoded (List (K × V)) (refused_if refused (length_prefixed item)) s t read → Decoded (List (K × V)) (refused_if refused (index_entries eq item)) s t es
  reads_inserted {eq = eq} {read = read} es laws e = reads_as (refused_if refused (index_entries eq item)) es (λ m x h. record { allowed = h.allowed; decodes = record { read = read; bytes = h.decodes; entries = e } }) (λ a. subst (MadeEntries eq item) (sym e) (made_after laws item read a))

  pub denied_inserted : (eq : K → K → Bool) {s t : ReaderState} {k : ErrorKind} → NotDecoded (List (K × V)) (refused_if refused (length_prefixed item)) s t k → NotDecoded (List (K × V)) (refused_if refused (index_entries eq item)) s t k
  denied_inserted eq = denied_as (refused_if refused (index_entries eq item)) (λ e. e) (λ e. e) (λ m x h. (h.1.decodes.read, record { allowed = h.1.allowed; decodes = h.1.decodes.bytes }))

-- `==` of keys answers by the order
pub last_values_from_eq : {K V : Type 0} (eq : K → K → Bool) (cmp : K → K → Ordering) → ((x y : K) → eq x y ≡ is_eq (cmp x y)) → (read es : List (K × V)) → ((q : K) → lookup (eq q) es ≡ update_all eq (λ _. None) read q) → HasLastValues cmp read es
last_values_from_eq {K = K} eq cmp t read es h = subst (λ (E : K → K → Bool). (q : K) → lookup (E q) es ≡ update_all E (λ _. None) read q) (λ i x y. t x y i) h

pub distinct_from_eq : {K : Type 0} (eq : K → K → Bool) (cmp : K → K → Ordering) → ((x y : K) → eq x y ≡ is_eq (cmp x y)) → (ks : List K) → IsDistinct eq ks → IsDistinct (eq_by_cmp cmp) ks
distinct_from_eq eq cmp t ks = subst (λ E. IsDistinct E ks) (λ i x y. t x y i)

-- ---- sets, as maps of keys to nothing

module _ {K : Type 0} where
  pub keys-bare_entries : (ks : List K) → keys_of (unit_entries ks) ≡ ks
  keys-bare_entries [] = refl
  keys-bare_entries (k ∷ ks) = ap (λ l. k ∷ l) (keys-bare_entries ks)

  lookup_bare : (test : K → Bool) (ks : List K) → lookup test (unit_entries ks) ≡ cond (list_any test ks) (Some tt) None
  lookup_bare test [] = refl
  lookup_bare test (k ∷ ks) = by (test k) (lookup_bare test ks)
    where
      by : (b : Bool) → lookup test (unit_entries ks) ≡ cond (list_any test ks) (Some tt) None → cond b (Some tt) (lookup test (unit_entries ks)) ≡ cond (b || list_any test ks) (Some tt) None
      by true h = refl
      by false h = h

  in_order_bare : (R : List ℕ → K → Type 0) (x : List ℕ) (ks : List K) → DecodesEach R x ks → DecodesEach (λ y e. R y e.0) x (unit_entries ks)
  in_order_bare R x [] h = h
  in_order_bare R x (k ∷ ks) h = record { first = h.first; second = h.second; whole = h.whole; left = h.left; right = in_order_bare R h.second ks h.right }

  in_order_keys : (R : List ℕ → K → Type 0) (x : List ℕ) (es : List (K × ⊤)) → DecodesEach (λ y e. R y e.0) x es → DecodesEach R x (keys_of es)
  in_order_keys R x [] h = h
  in_order_keys R x (e ∷ es) h = record { first = h.first; second = h.second; whole = h.whole; left = h.left; right = in_order_keys R h.second es h.right }

  module _ (c : Codec K) where
    pub counted_bare : (m : Bool) (x : List ℕ) (ks : List K) → (length_prefixed c).decodes m x ks → (length_prefixed (key_only c)).decodes m x (unit_entries ks)
    counted_bare m x ks h = record {
      first = h.first;
      second = h.second;
      whole = h.whole;
      left = ap (unsigned_encoding 4) (length-map ks (λ k. (k, tt))) ∙ h.left;
      right = in_order_bare (c.decodes m) h.second ks h.right;
    }

    pub counted_keys : (m : Bool) (x : List ℕ) (es : List (K × ⊤)) → (length_prefixed (key_only c)).decodes m x es → (length_prefixed c).decodes m x (keys_of es)
    counted_keys m x es h = record {
      first = h.first;
      second = h.second;
      whole = h.whole;
      left = ap (unsigned_encoding 4) (length-map es (λ e. e.0)) ∙ h.left;
      right = in_order_keys (c.decodes m) h.second es h.right;
    }

    -- a list of keys is one of entries
    pub reads_bare : (refused : Bool) {s t : ReaderState} (ks : List K) → Decoded (List K) (refused_if refused (length_prefixed c)) s t ks → Decoded (List (K × ⊤)) (refused_if refused (length_prefixed (key_only c))) s t (unit_entries ks)
    reads_bare refused ks = reads_as (refused_if refused (length_prefixed (key_only c))) (unit_entries ks) (λ m x h. record { allowed = h.allowed; decodes = counted_bare m x ks h.decodes }) (All-map (key_only c).made (λ k. (k, tt)) ks)

    pub denied_bare : (refused : Bool) {s t : ReaderState} {k : ErrorKind} → NotDecoded (List K) (refused_if refused (length_prefixed c)) s t k → NotDecoded (List (K × ⊤)) (refused_if refused (length_prefixed (key_only c))) s t k
    denied_bare refused = denied_as (refused_if refused (length_prefixed (key_only c))) (λ e. e) (λ e. e) (λ m x h. (keys_of h.0, record { allowed = h.1.allowed; decodes = counted_keys m x h.0 h.1.decodes }))

  -- a set that holds exactly the keys that were read
  pub set_values : {cmp : K → K → Ordering} → IsTotalOrder cmp → (read ks : List K) → ((q : K) → list_any (is_at (cmp q)) ks ≡ is_member (eq_by_cmp cmp) read q) → HasLastValues cmp (unit_entries read) (unit_entries ks)
  set_values {cmp = cmp} o read ks h q = lookup_bare (is_at (cmp q)) ks ∙ ap (λ b. cond b (Some tt) None) (h q) ∙ sym (update_all_pairs (eq_by_cmp_equiv o) (λ _. tt) (λ x y e. refl) read q)

  pub members_from_eq : (eq : K → K → Bool) (cmp : K → K → Ordering) → ((x y : K) → eq x y ≡ is_eq (cmp x y)) → (read ks : List K) → ((q : K) → list_any (eq q) ks ≡ is_member eq read q) → (q : K) → list_any (is_at (cmp q)) ks ≡ is_member (eq_by_cmp cmp) read q
  members_from_eq eq cmp t read ks h = subst (λ (E : K → K → Bool). (q : K) → list_any (E q) ks ≡ is_member E read q) (λ i x y. t x y i) h

  -- keys inserted in turn are entries inserted in turn
  module _ (eq : K → K → Bool) where
    insert_bare : (k : K) (ks : List K) → unit_entries (index_set.insert_key eq ks k) ≡ index_map.insert_entry eq (unit_entries ks) k tt
    insert_bare k [] = refl
    insert_bare k (x ∷ ks) = by (eq k x) (list_any (eq k) ks) (insert_bare k ks)
      where
        by : (a b : Bool) → unit_entries (if b then ks else ks ++ k ∷ []) ≡ index_map.insert_entry eq (unit_entries ks) k tt
            → unit_entries (if a || b then x ∷ ks else x ∷ (ks ++ k ∷ [])) ≡ (if a then (x, tt) ∷ unit_entries ks else (x, tt) ∷ index_map.insert_entry eq (unit_entries ks) k tt)
        by true b h = refl
        by false true h = ap (λ l. (x, tt) ∷ l) h
        by false false h = ap (λ l. (x, tt) ∷ l) h

    all_bare : (done read : List K) → unit_entries (index_set.insert_all eq done read) ≡ index_map.insert_all eq (unit_entries done) (unit_entries read)
    all_bare done [] = refl
    all_bare done (k ∷ read) = all_bare (index_set.insert_key eq done k) read ∙ ap (λ l. index_map.insert_all eq l (unit_entries read)) (insert_bare k done)

    pub gathered_bare : (read ks : List K) → ks ≡ index_set.insert_all eq [] read → unit_entries ks ≡ after_inserts eq (unit_entries read)
    gathered_bare read ks e = ap unit_entries e ∙ all_bare [] read
