-- The laws of maps that keep the order of insertion.
use Rattle.std.proofs.Common.{◌≡◌, ℕ, ◌+◌, ◌<◌, ◌≤◌, ◌^◌, Bool, true, false, not, ◌&&◌, cond, List, [], ◌∷◌, ◌++◌, length, Some, None, refl, sym, ◌∙◌, ap, subst, append_assoc, arith, true≢false}
use Rattle.std.specs.Prelude.{if◌then◌else◌}
use Rattle.std.specs.Bool.{Decides}
use Rattle.std.specs.Cmp.{IsEquivalence}
use Rattle.std.specs.Map.{keys_of}
use Rattle.std.specs.List.{AllByRecursion, AllZip, IsDistinct, list_all}
use Rattle.indexmap.specs.IndexMap.{insert_entry, insert_all}
use Rattle.borsh_codec.specs.Codec.{Codec, Lawful}
use Rattle.borsh_codec.specs.Shapes.{length_prefixed}
use Rattle.borsh_codec.specs.Maps.{after_inserts, are_distinct, IndexMapDecodes, index_entries}
use Rattle.borsh_codec.proofs.Laws.Lists.{and_true, some_if_true}
use Rattle.borsh_codec.proofs.Laws.Rows.{length_prefixed-lawful}
use Rattle.borsh_codec.proofs.Laws.Maps.Counted.{HasEncoding, same_counted, encoded_elements, same_elements, counted_long, counted_encoded}

-- two entries are the same exactly if their keys are equal and their values the same by S
pub record IsKeyedBy {K V : Type 0} (eq : K → K → Bool) (S : V → V → Type 0) (item : Codec (K × V)) : Type 0 where
  pub equiv : IsEquivalence eq
  pub split : (e f : K × V) → item.equivalent e f → (eq e.0 f.0 ≡ true) × S e.1 f.1
  pub build : (e f : K × V) → eq e.0 f.0 ≡ true → S e.1 f.1 → item.equivalent e f

-- ---- entries with no two equal keys are what inserting them in turn leaves

module _ {K V : Type 0} {eq : K → K → Bool} (q : IsEquivalence eq) where
  absent_end : (k : K) (v : V) (es : List (K × V)) → AllByRecursion (λ y. eq k y ≡ false) (keys_of es) → insert_entry eq es k v ≡ es ++ (k, v) ∷ []
  absent_end k v [] h = refl
  absent_end k v (e ∷ es) h = ap (λ b. if b then (e.0, v) ∷ es else e ∷ insert_entry eq es k v) h.0 ∙ ap (λ l. e ∷ l) (absent_end k v es h.1)

  all_end : (P : K → Type 0) (es : List (K × V)) (e : K × V) → AllByRecursion P (keys_of es) → P e.0 → AllByRecursion P (keys_of (es ++ e ∷ []))
  all_end P [] e h p = (p, tt)
  all_end P (f ∷ es) e h p = (h.0, all_end P es e h.1 p)

  -- no key of `es` is equal to one of `done`
  abbrev Apart : List (K × V) → List (K × V) → Type 0
  Apart done es = AllByRecursion (λ k. AllByRecursion (λ y. eq k y ≡ false) (keys_of done)) (keys_of es)

  apart_more : (done : List (K × V)) (e : K × V) (es : List (K × V)) → AllByRecursion (λ y. eq e.0 y ≡ false) (keys_of es) → Apart done es → Apart (done ++ e ∷ []) es
  apart_more done e [] d a = tt
  apart_more done e (f ∷ es) d a = (all_end (λ y. eq f.0 y ≡ false) done e a.0 (q.symm f.0 e.0 ∙ d.0), apart_more done e es d.1 a.1)

  all_distinct : (done es : List (K × V)) → IsDistinct eq (keys_of es) → Apart done es → insert_all eq done es ≡ done ++ es
  unfolding IsDistinct
  all_distinct done [] d a = sym (nil done)
    where
      nil : (l : List (K × V)) → l ++ [] ≡ l
      nil [] = refl
      nil (x ∷ l) = ap (λ y. x ∷ y) (nil l)
  all_distinct done (e ∷ es) d a =
      ap (λ l. insert_all eq l es) (absent_end e.0 e.1 done a.0) ∙ all_distinct (done ++ e ∷ []) es d.1 (apart_more done e es d.0 a.1) ∙ append_assoc done (e ∷ []) es

  apart_nil : (es : List (K × V)) → Apart [] es
  apart_nil [] = tt
  apart_nil (e ∷ es) = (tt, apart_nil es)

  pub gathered_distinct : (es : List (K × V)) → IsDistinct eq (keys_of es) → after_inserts eq es ≡ es
  gathered_distinct es d = all_distinct [] es d (apart_nil es)

  all_inserted : (P : K → Type 0) (k : K) (v : V) (es : List (K × V)) → AllByRecursion P (keys_of es) → P k → AllByRecursion P (keys_of (insert_entry eq es k v))
  all_inserted P k v [] h p = (p, tt)
  all_inserted P k v (e ∷ es) h p = by (eq k e.0) (all_inserted P k v es h.1 p)
    where
      by : (b : Bool) → AllByRecursion P (keys_of (insert_entry eq es k v)) → AllByRecursion P (keys_of (if b then (e.0, v) ∷ es else e ∷ insert_entry eq es k v))
      by true r = h
      by false r = (h.0, r)

  distinct_inserted : (k : K) (v : V) (es : List (K × V)) → IsDistinct eq (keys_of es) → IsDistinct eq (keys_of (insert_entry eq es k v))
  unfolding IsDistinct
  distinct_inserted k v [] d = (tt, tt)
  distinct_inserted k v (e ∷ es) d = by (distinct_inserted k v es d.1) (eq k e.0) refl
    where
      by : IsDistinct eq (keys_of (insert_entry eq es k v)) → (b : Bool) → eq k e.0 ≡ b → IsDistinct eq (keys_of (if b then (e.0, v) ∷ es else e ∷ insert_entry eq es k v))
      by r true i = d
      by r false i = (all_inserted (λ y. eq e.0 y ≡ false) k v es d.0 (q.symm e.0 k ∙ i), r)

  distinct_all : (done es : List (K × V)) → IsDistinct eq (keys_of done) → IsDistinct eq (keys_of (insert_all eq done es))
  distinct_all done [] d = d
  distinct_all done (e ∷ es) d = distinct_all (insert_entry eq done e.0 e.1) es (distinct_inserted e.0 e.1 done d)

  pub distinct_after : (es : List (K × V)) → IsDistinct eq (keys_of (after_inserts eq es))
  unfolding IsDistinct
  distinct_after es = distinct_all [] es tt

  length_inserted : (k : K) (v : V) (es : List (K × V)) → length (insert_entry eq es k v) ≤ length es + 1
  length_inserted k v [] = omega arith
  length_inserted k v (e ∷ es) = by (eq k e.0) (length_inserted k v es)
    where
      by : (b : Bool) → length (insert_entry eq es k v) ≤ length es + 1 → length (if b then (e.0, v) ∷ es else e ∷ insert_entry eq es k v) ≤ length (e ∷ es) + 1
      by true h = omega arith
      by false h = omega arith

  length_all : (done es : List (K × V)) → length (insert_all eq done es) ≤ length done + length es
  length_all done [] = omega arith
  length_all done (e ∷ es) = let h = length_all (insert_entry eq done e.0 e.1) es in let k = length_inserted e.0 e.1 done in omega arith

-- ---- the test for keys of which no two are equal

not_true : (b : Bool) → Decides (not b) (b ≡ false)
not_true true = (λ e. absurd (cc), λ e. absurd (cc))
not_true false = (λ e. refl, λ e. refl)

none_equal : {K : Type 0} (eq : K → K → Bool) (k : K) (ks : List K) → Decides (list_all (λ y. not (eq k y)) ks) (AllByRecursion (λ y. eq k y ≡ false) ks)
none_equal eq k [] = (λ e. tt, λ h. refl)
none_equal eq k (y ∷ ks) =
    let rest = none_equal eq k ks in (
      λ e. (let h = and_true (not (eq k y)) (list_all (λ y. not (eq k y)) ks) e in ((not_true (eq k y)).0 h.0, rest.0 h.1)),
      λ h. ap (λ b. b && list_all (λ y. not (eq k y)) ks) ((not_true (eq k y)).1 h.0) ∙ rest.1 h.1,
    )

pub are_distinct_is : {K : Type 0} (eq : K → K → Bool) (ks : List K) → Decides (are_distinct eq ks) (IsDistinct eq ks)
unfolding IsDistinct
are_distinct_is eq [] = (λ e. tt, λ h. refl)
are_distinct_is eq (k ∷ ks) =
    let here = none_equal eq k ks in
    let rest = are_distinct_is eq ks in (
      λ e. (let h = and_true (list_all (λ y. not (eq k y)) ks) (are_distinct eq ks) e in (here.0 h.0, rest.0 h.1)),
      λ h. ap (λ b. b && are_distinct eq ks) (here.1 h.0) ∙ rest.1 h.1,
    )

-- entries of distinct keys are encoded as a list of entries
pub distinct_encoding : {K V : Type 0} (eq : K → K → Bool) (item : Codec (K × V)) (es : List (K × V)) → IsDistinct eq (keys_of es) → (index_entries eq item).encoding es ≡ (length_prefixed item).encoding es
distinct_encoding eq item es d = ap (λ t. cond t ((length_prefixed item).encoding es) None) ((are_distinct_is eq (keys_of es)).1 d)

module _ {K V : Type 0} (eq : K → K → Bool) (S : V → V → Type 0) (item : Codec (K × V)) (laws : Lawful (K × V) item) (keyed : IsKeyedBy eq S item) where
  -- whether two entries have equal keys is the same of equivalent entries
  same_test : (e f : K × V) → item.equivalent e f → (a b : K × V) → item.equivalent a b → eq e.0 a.0 ≡ eq f.0 b.0
  same_test e f s a b z =
      keyed.equiv.congr e.0 f.0 a.0 (keyed.split e f s).0 ∙ keyed.equiv.symm f.0 a.0 ∙ keyed.equiv.congr a.0 b.0 f.0 (keyed.split a b z).0 ∙ keyed.equiv.symm b.0 f.0

  inserted_same : (e f : K × V) → item.equivalent e f → (es fs : List (K × V)) → AllZip item.equivalent es fs → AllZip item.equivalent (insert_entry eq es e.0 e.1) (insert_entry eq fs f.0 f.1)
  inserted_same e f s [] [] z = (keyed.build e f (keyed.split e f s).0 (keyed.split e f s).1, tt)
  inserted_same e f s [] (b ∷ fs) z = absurd z
  inserted_same e f s (a ∷ es) [] z = absurd z
  inserted_same e f s (a ∷ es) (b ∷ fs) z =
      subst (λ t. AllZip item.equivalent (insert_entry eq (a ∷ es) e.0 e.1) (if t then (b.0, f.1) ∷ fs else b ∷ insert_entry eq fs f.0 f.1)) (same_test e f s a b z.0) (by (eq e.0 a.0) (inserted_same e f s es fs z.1))
    where
      by : (t : Bool) → AllZip item.equivalent (insert_entry eq es e.0 e.1) (insert_entry eq fs f.0 f.1) → AllZip item.equivalent (if t then (a.0, e.1) ∷ es else a ∷ insert_entry eq es e.0 e.1) (if t then (b.0, f.1) ∷ fs else b ∷ insert_entry eq fs f.0 f.1)
      by true h = (keyed.build (a.0, e.1) (b.0, f.1) (keyed.split a b z.0).0 (keyed.split e f s).1, z.1)
      by false h = (z.0, h)

  all_inserted_same : (es fs : List (K × V)) → AllZip item.equivalent es fs → (done more : List (K × V)) → AllZip item.equivalent done more → AllZip item.equivalent (insert_all eq done es) (insert_all eq more fs)
  all_inserted_same [] [] z done more d = d
  all_inserted_same [] (f ∷ fs) z done more d = absurd z
  all_inserted_same (e ∷ es) [] z done more d = absurd z
  all_inserted_same (e ∷ es) (f ∷ fs) z done more d = all_inserted_same es fs z.1 (insert_entry eq done e.0 e.1) (insert_entry eq more f.0 f.1) (inserted_same e f z.0 done more d)

  -- ---- encodings of what is left

  IsEncoded : K × V → Type 0
  IsEncoded e = HasEncoding item e × item.equivalent e e

  encoded_inserted : (e : K × V) → IsEncoded e → (es : List (K × V)) → AllByRecursion IsEncoded es → AllByRecursion IsEncoded (insert_entry eq es e.0 e.1)
  unfolding IsEncoded
  encoded_inserted e i [] h = (i, tt)
  encoded_inserted e i (a ∷ es) h = by (eq e.0 a.0) refl (encoded_inserted e i es h.1)
    where
      moved : eq e.0 a.0 ≡ true → HasEncoding item (a.0, e.1) × item.equivalent (a.0, e.1) (a.0, e.1)
      moved j =
          let value : S e.1 e.1 = (keyed.split e e i.1).1 in
          let alike : item.equivalent (a.0, e.1) e = keyed.build (a.0, e.1) e (keyed.equiv.symm a.0 e.0 ∙ j) value in
          ((i.0.0, laws.equivalent_encoding (a.0, e.1) e alike ∙ i.0.1), keyed.build (a.0, e.1) (a.0, e.1) (keyed.equiv.refl a.0) value)

      by : (b : Bool) → eq e.0 a.0 ≡ b → AllByRecursion IsEncoded (insert_entry eq es e.0 e.1) → AllByRecursion IsEncoded (if b then (a.0, e.1) ∷ es else a ∷ insert_entry eq es e.0 e.1)
      by true j r = (moved j, h.1)
      by false j r = (h.0, r)

  encoded_all : (es : List (K × V)) → AllByRecursion IsEncoded es → (done : List (K × V)) → AllByRecursion IsEncoded done → AllByRecursion IsEncoded (insert_all eq done es)
  encoded_all [] h done d = d
  encoded_all (e ∷ es) h done d = encoded_all es h.1 (insert_entry eq done e.0 e.1) (encoded_inserted e h.0 done d)

  all_both : (P Q : K × V → Type 0) (es : List (K × V)) → AllByRecursion P es → AllByRecursion Q es → AllByRecursion (λ e. P e × Q e) es
  all_both P Q [] h k = tt
  all_both P Q (e ∷ es) h k = ((h.0, k.0), all_both P Q es h.1 k.1)

  all_first : (P Q : K × V → Type 0) (es : List (K × V)) → AllByRecursion (λ e. P e × Q e) es → AllByRecursion P es
  all_first P Q [] h = tt
  all_first P Q (e ∷ es) h = (h.0.0, all_first P Q es h.1)

  -- ---- equivalent entries have equal keys

  tests_same : (e f : K × V) → item.equivalent e f → (es fs : List (K × V)) → AllZip item.equivalent es fs → list_all (λ y. not (eq e.0 y)) (keys_of es) ≡ list_all (λ y. not (eq f.0 y)) (keys_of fs)
  tests_same e f s [] [] z = refl
  tests_same e f s [] (b ∷ fs) z = absurd z
  tests_same e f s (a ∷ es) [] z = absurd z
  tests_same e f s (a ∷ es) (b ∷ fs) z =
      ap (λ t. not t && list_all (λ y. not (eq e.0 y)) (keys_of es)) (same_test e f s a b z.0) ∙ ap (λ t. not (eq f.0 b.0) && t) (tests_same e f s es fs z.1)

  distinct_same : (es fs : List (K × V)) → AllZip item.equivalent es fs → are_distinct eq (keys_of es) ≡ are_distinct eq (keys_of fs)
  distinct_same [] [] z = refl
  distinct_same [] (f ∷ fs) z = absurd z
  distinct_same (e ∷ es) [] z = absurd z
  distinct_same (e ∷ es) (f ∷ fs) z = ap (λ b. b && are_distinct eq (keys_of es)) (tests_same e f z.0 es fs z.1) ∙ ap (λ b. list_all (λ y. not (eq f.0 y)) (keys_of fs) && b) (distinct_same es fs z.1)

  -- ---- the laws

  round_trip : (m : Bool) (a : List (K × V)) (x : List ℕ) → (index_entries eq item).encoding a ≡ Some x → IndexMapDecodes eq item m x a
  round_trip m a x e =
      let p = some_if_true (are_distinct eq (keys_of a)) ((length_prefixed item).encoding a) x e in
      record {
        read = a;
        bytes = (length_prefixed-lawful laws).round_trip m a x p.is;
        entries = sym (gathered_distinct keyed.equiv a ((are_distinct_is eq (keys_of a)).0 p.holds));
      }

  unambiguous : (m : Bool) (x : List ℕ) (a b : List (K × V)) → IndexMapDecodes eq item m x a → IndexMapDecodes eq item m x b → AllZip item.equivalent a b
  unambiguous m x a b h k =
      let both = (length_prefixed-lawful laws).unambiguous m x h.read k.read h.bytes k.bytes in
      let same = all_inserted_same h.read k.read both [] [] tt in
      subst (λ l. AllZip item.equivalent l b) (sym h.entries) (subst (λ l. AllZip item.equivalent (after_inserts eq h.read) l) (sym k.entries) same)

  re_encodable : (m : Bool) (x : List ℕ) (a : List (K × V)) → IndexMapDecodes eq item m x a → HasEncoding (index_entries eq item) a
  unfolding IsEncoded
  re_encodable m x a h =
      let each = all_both (HasEncoding item) (λ e. item.equivalent e e) h.read (encoded_elements laws m x h.read h.bytes) (same_elements laws m x h.read h.bytes) in
      let all = all_first (HasEncoding item) (λ e. item.equivalent e e) (after_inserts eq h.read) (encoded_all h.read each [] tt) in
      let fits : length (after_inserts eq h.read) < 256 ^ 4 = (let le = length_all keyed.equiv [] h.read in let lt = counted_long item m x h.read h.bytes in omega arith) in
      let f = counted_encoded item (after_inserts eq h.read) fits all in
      (f.0, ap (index_entries eq item).encoding h.entries ∙ distinct_encoding eq item (after_inserts eq h.read) (distinct_after keyed.equiv h.read) ∙ f.1)

  pub index_entries-lawful : Lawful (List (K × V)) (index_entries eq item)
  index_entries-lawful = record {
    equivalent_encoding = λ a b h. ap (λ t. cond t ((length_prefixed item).encoding a) None) (distinct_same a b h) ∙ ap (λ o. cond (are_distinct eq (keys_of b)) o None) ((length_prefixed-lawful laws).equivalent_encoding a b h);
    prefix_free = λ m x z a b h k. (same_counted laws m x z h.read k.read h.bytes k.bytes).0;
    empty = λ m x a e h. absurd (true≢false (sym e));
    non_empty = λ m a e h. (length_prefixed-lawful laws).non_empty m h.read refl h.bytes;
    round_trip = round_trip;
    unambiguous = unambiguous;
    re_encodable = re_encodable;
    canonical = λ x a e h. absurd (true≢false (sym e));
    refused = λ v e. absurd (true≢false (sym e));
  }
