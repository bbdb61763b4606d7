-- How many bytes the items of an iterator have, and the entries of a hashed map, in whichever order.
use Rattle.std.specs.Prelude.{length, IfSome}
use Rattle.std.proofs.Common.{◌≡◌, ℕ, ◌+◌, Bool, false, true, List, [], ◌∷◌, Option, Some, None, refl, sym, ap, subst, arith, length-append}
use Rattle.std.proofs.lemmas.List.Sorted.{length_permutation}
use Rattle.std.specs.declared.cmp.Ordering.{Ordering}
use Rattle.std.specs.declared.cmp.Ordering.TheVariants.{Less, Equal, Greater}
use Rattle.std.specs.Ordering.{is_eq, eq_by_cmp, match_ordering}
use Rattle.std.specs.Cmp.{IsTotalOrder}
use Rattle.std.specs.Map.{keys_of}
use Rattle.std.specs.BTreeMap.{insert_entry}
use Rattle.std.specs.Iterator.{AlwaysYields}
use Rattle.std.specs.List.{AllByRecursion, IsDistinct}
use Rattle.borsh_codec.specs.Codec.{Codec}
use Rattle.borsh_codec.specs.Maps.{key_only, sorted_by_key, unit_entries}
use Rattle.borsh_codec.specs.Shapes.{append_encodings, concat_encodings, unsigned_encoding, length_prefixed, refused_if}
use Rattle.borsh_codec.specs.Writing.{IsLength, TellsLength}
use Rattle.borsh_codec.proofs.Laws.Lists.{joined_some}
use Rattle.borsh_codec.proofs.LengthSteps.{length_is, length_joined, tells_is}
use Rattle.borsh_codec.proofs.ReadMaps.{keys-bare_entries}
use Rattle.borsh_codec.proofs.SortedRefs.{all_by_key, by_key_permutes}
use Rattle.borsh_codec.proofs.WriteMaps.{counted-bare}
use Rattle.borsh_ser.proofs.Items.{Encodings, next_of, end_of}

-- the same length, by another name
as_long : {o : Option (List ℕ)} {n m : ℕ} → n ≡ m → IsLength o n → IsLength o m
as_long {o = o} e l = subst (λ n. IsLength o n) e l

module _ {I A : Type 0} (steps : I → Option A → I → Type 0) (encoding : A → Option (List ℕ)) where
  -- the sum is how many bytes the count and those items have that came; the others are still to come
  pub record LengthLeft (count : ℕ) (first now : I) (sum : ℕ) : Type 0 where
    pub left : (es : Encodings) → AlwaysYields steps encoding first es → (fs : Encodings) × AlwaysYields steps encoding now fs × ((n : ℕ) → IsLength (concat_encodings (λ e. e) fs) n → IsLength (append_encodings (unsigned_encoding 4 count) (concat_encodings (λ e. e) es)) (sum + n))

module _ {I A : Type 0} {steps : I → Option A → I → Type 0} {encoding : A → Option (List ℕ)} {count : ℕ} where
  pub length_none : {first : I} {sum : ℕ} → IsLength (unsigned_encoding 4 count) sum → LengthLeft steps encoding count first first sum
  length_none c = record { left = λ es y. (es, y, λ n l. length_joined c l) }

  -- one more item came
  pub length_added : {first now next : I} {x : A} {sum m : ℕ} (longer : ℕ) → longer ≡ sum + m → LengthLeft steps encoding count first now sum → steps now (Some x) next → IsLength (encoding x) m → LengthLeft steps encoding count first next longer
  length_added {sum = sum} {m = m} longer e i s p = record { left = λ es y. (let l = i.left es y in let n = next_of steps encoding l.0 l.1 s in (n.0, n.1, λ k h. (let e : sum + (m + k) ≡ longer + k = omega (arith, e) in as_long e (l.2 (m + k) (length_is (sym n.2) (length_joined p h)))))) }

  -- no item is left
  pub length_done : {first now next : I} {sum : ℕ} (es : Encodings) → LengthLeft steps encoding count first now sum → steps now None next → AlwaysYields steps encoding first es → IsLength (append_encodings (unsigned_encoding 4 count) (concat_encodings (λ e. e) es)) sum
  length_done {sum = sum} es i s y =
      let l = i.left es y in
      let e : sum + 0 ≡ sum = omega arith in
      as_long e (l.2 0 (record { bytes = []; is = end_of steps encoding l.0 l.1 s; long = refl }))

-- the lengths of two encodings, from that of both
parted : {o p : Option (List ℕ)} {n : ℕ} → IsLength (append_encodings o p) n → (i : ℕ) × (j : ℕ) × IsLength o i × IsLength p j × (n ≡ i + j)
parted {o = o} {p = p} l =
    let j = joined_some o p l.bytes l.is in
    (length j.first, length j.second, record { bytes = j.first; is = j.left; long = refl }, record { bytes = j.second; is = j.right; long = refl }, omega (arith, l.long, ap length j.whole, length-append j.first j.second))

module _ {K V : Type 0} {R : K → K → Ordering} (o : IsTotalOrder R) (f : K × V → Option (List ℕ)) where
  inserted : (k : K) (v : V) (es : List (K × V)) {i j : ℕ} → AllByRecursion (λ y. eq_by_cmp R k y ≡ false) (keys_of es) → IsLength (f (k, v)) i → IsLength (concat_encodings f es) j → IsLength (concat_encodings f (insert_entry R es k v)) (i + j)
  inserted k v [] a p q = length_joined p q
  inserted k v (e ∷ es) {i} {j} a p q = by (λ m t. inserted k v es {i = i} {j = m} a.1 p t) (R k e.0) refl
    where
      by : ((m : ℕ) → IsLength (concat_encodings f es) m → IsLength (concat_encodings f (insert_entry R es k v)) (i + m)) → (r : Ordering) → R k e.0 ≡ r → IsLength (concat_encodings f (match_ordering r ((k, v) ∷ e ∷ es) ((e.0, v) ∷ es) (e ∷ insert_entry R es k v))) (i + j)
      by h Less c = length_joined p q
      by h Equal c = absurd (let n : is_eq (R k e.0) ≡ true = ap is_eq c in let m : is_eq (R k e.0) ≡ false = a.0 in cc)
      by h Greater c =
          let t = parted q in
          let s : t.0 + (i + t.1) ≡ i + j = omega (arith, t.4) in
          as_long s (length_joined t.2 (h t.1 t.3))

  by_key : (es : List (K × V)) {n : ℕ} → IsDistinct (eq_by_cmp R) (keys_of es) → IsLength (concat_encodings f es) n → IsLength (concat_encodings f (sorted_by_key R es)) n
  unfolding IsDistinct
  by_key [] d l = l
  by_key (e ∷ es) d l =
      let t = parted l in
      as_long (sym t.4) (inserted e.0 e.1 (sorted_by_key R es) (all_by_key o (λ y. eq_by_cmp R e.0 y ≡ false) es d.0) t.2 (by_key es d.1 t.3))

module _ {K : Type 0} {R : K → K → Ordering} (o : IsTotalOrder R) (eq : K → K → Bool) (t : (x y : K) → eq x y ≡ is_eq (R x y)) where
  -- entries have as many bytes by ascending key as in any order
  pub tells_sorted : {V : Type 0} (item : Codec (K × V)) (es : List (K × V)) (r : Option ℕ) → IsDistinct eq (keys_of es) → TellsLength ((length_prefixed item).encoding es) r → TellsLength ((length_prefixed item).encoding (sorted_by_key R es)) r
  tells_sorted item es None d h = tt
  tells_sorted item es (Some n) d h =
      let e : IsDistinct (eq_by_cmp R) (keys_of es) = subst (λ (E : K → K → Bool). IsDistinct E (keys_of es)) (λ i x y. t x y i) d in
      let p = parted h in
      let m : length es ≡ length (sorted_by_key R es) = sym (length_permutation es (sorted_by_key R es) (by_key_permutes o es e)) in
      as_long (sym p.4) (length_joined (subst (λ k. IsLength (unsigned_encoding 4 k) p.0) m p.2) (by_key o item.encoding es e p.3))

  -- and so have the keys of a set
  pub tells_sorted_keys : (c : Codec K) (ks : List K) (r : Option ℕ) → IsDistinct eq ks → TellsLength ((length_prefixed c).encoding ks) r → TellsLength ((length_prefixed (key_only c)).encoding (sorted_by_key R (unit_entries ks))) r
  tells_sorted_keys c ks r d h = tells_sorted (key_only c) (unit_entries ks) r (subst (IsDistinct eq) (sym (keys-bare_entries ks)) d) (tells_is r (counted-bare c ks) h)

-- keys whose encodings aren't empty are not refused
pub tells_allowed : {A : Type 0} (refused : Bool) (c : Codec A) (v : A) (r : Option ℕ) → IfSome r (λ n. refused ≡ false) → TellsLength (c.encoding v) r → TellsLength ((refused_if refused c).encoding v) r
tells_allowed refused c v None e h = tt
tells_allowed refused c v (Some n) e h = rw e h
