-- Sets and maps of which two elements don't ascend: in the JSON that says them an element falls.
use Rattle.std.proofs.Common.{◌≡◌, inl, inr, ℕ, suc, zero, ◌≤◌, ◌^◌, List, [], ◌∷◌, ◌++◌, length, map, take, drop, replicate, Bool, true, false, Option, Some, refl, sym, ◌∙◌, ap, subst, arith, append_assoc, append-nil, length-append}
use Rattle.std.specs.{Prelude.{ℤ, pos, codes}, List.Sorted.{IsStrictlySortedBy}, declared.cmp.Ordering.TheVariants.{Less}}
use Rattle.json.specs.Json.{Json, null, array, Items}
use Rattle.borsh_walks.specs.Container.{first, later, first_variant, later_variant, tag}
use Rattle.borsh_values.specs.Nodes.{Opens}
use Rattle.borsh_values.proofs.MemberLaws.{copies_of, same_front}
use Rattle.borsh_json.specs.{Descents.{HasDescent, PrimitivesDescend}, Forms.{Form, primitive, sequence, tuple, choice, named, unnamed, no_fields, shape_of_form, shapes, HasNoBytes, IsByte, IsMap}, Frames.{IsListKind}, InOrder.{Falls}, Only.{AreOnly, none_only, empty_only, opened_only}, Ordered.{a_value, IsAtLeast}, Represents.{SaysFirst, HaveBytes, none_left, next_part}, Table.{Lengths, Keys, texts, numbers, Kind, utf8, byte_list, row, entries, IsHex, AreKeys, SequenceKind, a_text, some_bytes, an_object, some_elements, nullable, by_name, primitive_kind, DefinedKind, HasKind, Part, list_parts, Entry, entry_parts, key_json, key_order, IsArray, Says}}
use Rattle.borsh_json.proofs.{BytesFall.{bytes_fallen}, CutLaws.{Front, IsRead, nothing_read, empty_read, node_read, copies_read, only_read, shorter}, DescentLaws.{front_of, packed_alone}, FormKinds.{form_known, map_elements, shaped}, FoundLaws.{full_list, full_primitive, zero_part}, InOrderLaws.{IsKindOfList, list_kind, keys_one, string_no_set}, KeyRanks.{keys_rise, key_parts}, LeafLaws.{primitive_sized}, Lockstep.{AreBytes, behind, before as bytes_before, AreNamed, list_named, named_front, defined, Match, no_names, silent, named_so, paired, match_list, match_entries, match_row, match_fields, listed, sized, longer, in_four, array_counts}, NameLaws.{keys_full}, NoJsonLaws.{exact}, OrderLaws.{clash}, OrderNumbers.{long_tag, one_low}, ReachedLaws.{entries_joined}, ReaderLaws.{split, uncons}}

-- ---- lists
two_of : {A : Type 0} (n : ℕ) (l : List A) → suc (suc n) ≤ length l → (front : List A) × (p : A) × (q : A) × (after : List A) × (l ≡ front ++ p ∷ q ∷ after) × (length front ≡ n)
two_of n [] h = absurd (omega (arith, h))
two_of zero (p ∷ []) h = absurd (omega (arith, h))
two_of zero (p ∷ q ∷ l) h = ([], p, q, l, refl, refl)
two_of (suc n) (p ∷ l) h = let t = two_of n l (omega (arith, h)) in (p ∷ t.0, t.1, t.2, t.3, ap (λ l. p ∷ l) t.4, ap suc t.5)

-- what is behind a front is behind all bytes that are no fewer
cut_front : (xs ys us vs : List ℕ) → xs ++ ys ≡ us ++ vs → length us ≤ length xs → (w : List ℕ) × (xs ≡ us ++ w) × (vs ≡ w ++ ys)
cut_front xs ys [] vs e l = (xs, refl, sym e)
cut_front [] ys (u ∷ us) vs e l = absurd (omega (arith, l))
cut_front (x ∷ xs) ys (u ∷ us) vs e l =
    let q : x ≡ u = cc in
    let t = cut_front xs ys us vs (let s : xs ++ ys ≡ us ++ vs = cc in s) (omega (arith, l)) in
    (t.0, ap (λ l. x ∷ l) t.1 ∙ ap (λ x. x ∷ (us ++ t.0)) q, t.2)

renamed : (p : Part) (y : List ℕ) → p.0 ≡ y → p ≡ (y, p.1)
renamed (z, j) y e = ap (λ z. (z, j)) e

named_behind : (e : List ℕ) (qs rs : List Part) → AreNamed e (qs ++ rs) → AreNamed e rs
named_behind e [] rs h = h
named_behind e (q ∷ qs) rs h = named_behind e qs rs h.1

sorted_two : (keys : Keys) (front : List Entry) (p q : Entry) (after : List Entry) → IsStrictlySortedBy (key_order keys) (front ++ p ∷ q ∷ after) → key_order keys p q ≡ Less
unfolding IsStrictlySortedBy
sorted_two keys [] p q after h = h.0.0
sorted_two keys (e ∷ front) p q after h = sorted_two keys front p q after h.1

texts_alone : (keys : Keys) (p q : Entry) → key_order keys p q ≡ Less → key_order keys (p.0, null) (q.0, null) ≡ Less
texts_alone texts p q h = h
texts_alone (numbers n) p q h = h

module _ (F : List ℕ → Option Form) where
  -- ---- what JSON says is read part by part
  module _ (x : List ℕ) (j : Json) (own bs : List ℕ) (qs ps : List Part) (xs : List (List ℕ)) (full : HasNoBytes F x → ⊥) (m : Match F ps xs) (small : AreBytes own) (next : (names : List (List ℕ)) → Match F (qs ++ ps) names → IsRead F false names bs) where
    read_front : (f : Form) → F x ≡ Some f → (names : List (List ℕ)) → Front (shape_of_form f) own names → Match F (qs ++ ps) (names ++ xs) → IsRead F false (x ∷ xs) (own ++ bs)
    read_front f c names o n = node_read f own names full c o (λ t. cc) (next (names ++ xs) n)

    read_none : (f : Form) → F x ≡ Some f → Front (shape_of_form f) own [] → qs ≡ [] → IsRead F false (x ∷ xs) (own ++ bs)
    read_none f c o e = read_front f c [] o (subst (λ (qs : List Part). Match F (qs ++ ps) xs) (sym e) m)

    read_one : (f : Form) → F x ≡ Some f → (y : List ℕ) (i : Json) → Front (shape_of_form f) own (y ∷ []) → qs ≡ (y, i) ∷ [] → IsRead F false (x ∷ xs) (own ++ bs)
    read_one f c y i o e = read_front f c (y ∷ []) o (subst (λ (qs : List Part). Match F (qs ++ ps) (y ∷ xs)) (sym e) (named_so m))

    read_silent : (f : Form) → F x ≡ Some f → (y : List ℕ) → Front (shape_of_form f) own (y ∷ []) → HasNoBytes F y → qs ≡ [] → IsRead F false (x ∷ xs) (own ++ bs)
    read_silent f c y o z e = read_front f c (y ∷ []) o (subst (λ (qs : List Part). Match F (qs ++ ps) (y ∷ xs)) (sym e) (silent z m))

    read_row : (f : Form) → F x ≡ Some f → (names : List (List ℕ)) → Front (shape_of_form f) own names → Says F (row names) j own qs → IsRead F false (x ∷ xs) (own ++ bs)
    read_row f c names o s = read_front f c names o (match_row F names s.1 qs s.3 m)

    module _ (w lo hi : ℕ) (e : List ℕ) (c : F x ≡ Some (sequence w lo hi e)) where
      read_bytes : (cs : List ℕ) → IsByte F e → lo ≤ length cs → length cs ≤ hi → own ≡ tag w (pos (length cs)) ++ cs → qs ≡ [] → IsRead F false (x ∷ xs) (own ++ bs)
      read_bytes cs b low high o q =
          let n = length cs in
          let l = tag w (pos n) in
          let fine = behind l cs (subst (λ b. AreBytes b) o small) in
          let r = next xs (subst (λ (qs : List Part). Match F (qs ++ ps) xs) (sym q) m) in
          let body = copies_read F 0 n b.1 (copies_of (shapes F) 0 n cs (shaped (F e) b.1) (omega arith) fine) r in
          subst (λ b. IsRead F false (x ∷ xs) b) (sym (ap (λ o. o ++ bs) o ∙ append_assoc l cs bs)) (node_read (sequence w lo hi e) l (replicate n e) full c (n, [], low, high, sym (append-nil l), (refl, refl)) (λ t. cc) body)

      read_array : IsArray (record { width = w; least = lo; greatest = hi }) e j own qs → IsRead F false (x ∷ xs) (own ++ bs)
      read_array a = read_front (sequence w lo hi e) c (replicate (length qs) e) (length qs, [], a.3.0, a.3.1, a.3.2, (refl, refl)) (match_list F e qs (subst (λ (l : List Part). AreNamed e l) (sym a.2) (list_named e a.0)) m)

    read_value : (f : Form) (kind : Kind) → DefinedKind F x f kind → F x ≡ Some f → Says F kind j own qs → IsRead F false (x ∷ xs) (own ++ bs)
    read_value (primitive n) kind d c s =
        let t = sized F (primitive_kind x n) n j own qs (primitive_sized x n) (subst (λ (k : Kind). Says F k j own qs) d s) in
        read_none (primitive n) c (t.0, small, refl) t.1
    read_value (sequence w lo hi e) kind (a_text t b) c s = read_bytes w lo hi e c s.0 b s.3.0 s.3.1 s.3.2 s.4
    read_value (sequence w lo hi e) kind (some_bytes t b) c (inl s) = read_bytes w lo hi e c s.0 b s.2.0 s.2.1 s.2.2 s.3
    read_value (sequence w lo hi e) kind (some_bytes t b) c (inr s) = read_array w lo hi e c s
    read_value (sequence w lo hi e) kind (an_object {k = k} {v = v} {keys = keys} y a) c s =
        read_front (sequence w lo hi e) c (replicate (length s.1) e) (length s.1, [], s.5.0, s.5.1, s.5.2, (refl, refl))
        (subst (λ (l : List Part). Match F (l ++ ps) (replicate (length s.1) e ++ xs)) (sym s.6) (match_entries F keys e k v (keys_full F k keys a) (map_elements F w lo hi e c y) s.1 m))
    read_value (sequence w lo hi e) kind (some_elements a b y z) c s = read_array w lo hi e c s
    read_value (tuple ys) kind d c s = let t = subst (λ (k : Kind). Says F k j own qs) d s in read_row (tuple ys) c ys (t.0, refl) t
    read_value (unnamed []) kind d c s = let t = subst (λ (k : Kind). Says F k j own qs) d s in read_row (unnamed []) c [] (t.0, refl) t
    read_value (unnamed (p ∷ [])) kind d c s = let t = subst (λ (k : Kind). Says F k j own qs) d s in read_one (unnamed (p ∷ [])) c p j (t.0, refl) t.1
    read_value (unnamed (p ∷ q ∷ ys)) kind d c s = let t = subst (λ (k : Kind). Says F k j own qs) d s in read_row (unnamed (p ∷ q ∷ ys)) c (p ∷ q ∷ ys) (t.0, refl) t
    read_value no_fields kind d c s = let t = subst (λ (k : Kind). Says F k j own qs) d s in read_row no_fields c [] (t.0, refl) t
    read_value (named fs) kind d c s =
        let t = subst (λ (k : Kind). Says F k j own qs) d s in
        read_front (named fs) c (map (λ (f : List ℕ × List ℕ). f.1) fs) (t.1, refl) (match_fields F fs t.2 qs t.5 m)
    read_value (choice w vs) kind (nullable {p = p} o) c s =
        let us : List (ℤ × List ℕ × List ℕ) = (pos 0, codes "None", o.0.0) ∷ (pos 1, codes "Some", p) ∷ [] in
        let f = choice 1 us in
        elim s [
          | inl t ↦ read_silent f o.0.1 o.0.0 (pos 0, o.0.0, first_variant, t.1, refl) o.0.2.1 t.2
          | inr t ↦ read_one f o.0.1 p j (pos 1, p, later_variant first_variant, t.1, refl) t.2
        ]
    read_value (choice w vs) kind (by_name n) c s = elim s.6 [
      | inl a ↦ read_silent (choice w vs) c s.3 (s.1, s.3, listed F s.4, s.5, refl) a.1 a.2
      | inr a ↦ read_one (choice w vs) c s.3 a.0 (s.1, s.3, listed F s.4, s.5, refl) a.3
    ]

  pub says_read : {ps : List Part} {xs : List (List ℕ)} {bs : List ℕ} → HaveBytes F ps bs → Match F ps xs → AreBytes bs → IsRead F false xs bs
  says_read none_left no_names small = nothing_read
  says_read h (silent z m) small = empty_read z (says_read h m small)
  says_read h (paired {k = k} {v = v} full c m) small = node_read (tuple (k ∷ v ∷ [])) [] (k ∷ v ∷ []) (λ z. full (zero_part F (shaped (F _) c) z first)) c (refl, refl) (λ t. cc) (says_read h m small)
  says_read (next_part {bs = bs} {j = j} {ps = ps} kind own qs (inl z) s r) (named_so {x = x} {xs = xs} m) small =
      let t = subst (λ (k : Kind). Says F k j own qs) z.1 s in
      subst (λ o. IsRead F false (x ∷ xs) (o ++ bs)) (sym t.1) (empty_read z.0 (says_read r (subst (λ (qs : List Part). Match F (qs ++ ps) xs) (sym t.2) m) (behind own bs small)))
  says_read (next_part {bs = bs} {j = j} {ps = ps} kind own qs (inr h) s r) (named_so {x = x} {xs = xs} m) small = read_value x j own bs qs ps xs h.0 m (bytes_before own bs small) (λ names n. says_read r n (behind own bs small)) h.1 kind h.3 h.2 s

  pair_read : {once : Bool} {e k v bs : List ℕ} {xs : List (List ℕ)} → F e ≡ Some (tuple (k ∷ v ∷ [])) → IsRead F once (e ∷ xs) bs → IsRead F once (k ∷ v ∷ xs) bs
  pair_read {e = e} c (empty_read z r) = let d = shaped (F e) c in empty_read (zero_part F d z first) (empty_read (zero_part F d z (later first)) r)
  pair_read {once = once} {k = k} {v = v} {xs = xs} c (node_read {bs = bs} f own ps n d o t r) =
      let g : Some f ≡ Some (tuple (k ∷ v ∷ [])) = sym d ∙ c in
      let q : f ≡ tuple (k ∷ v ∷ []) = cc in
      let u = subst (λ (f : Form). Front (shape_of_form f) own ps) q o in
      subst (λ o. IsRead F once (k ∷ v ∷ xs) (o ++ bs)) (sym u.0) (subst (λ ps. IsRead F once (ps ++ xs) bs) u.1 r)

  -- ---- values that are passed
  bytes_only : (n : ℕ) (e : List ℕ) {xs : List (List ℕ)} {bs : List ℕ} → F e ≡ Some (primitive 1) → AreOnly F xs bs → xs ≡ replicate n e → length bs ≡ n
  bytes_only zero e c none_only q = refl
  bytes_only (suc n) e c none_only q = let s : [] ≡ e ∷ replicate n e = q in cc
  bytes_only zero e c (empty_only {x = x} {xs = xs} z a) q = let s : x ∷ xs ≡ [] = q in cc
  bytes_only (suc n) e c (empty_only {x = x} {xs = xs} z a) q =
      let s : x ∷ xs ≡ e ∷ replicate n e = q in
      let h : x ≡ e = cc in
      absurd (full_primitive F c (subst (λ x. HasNoBytes F x) h z.1))
  bytes_only zero e c (opened_only {x = x} {xs = xs} f own ps o a) q = let s : x ∷ xs ≡ [] = q in cc
  bytes_only (suc n) e c (opened_only {x = x} {bs = bs} {xs = xs} f own ps o a) q =
      let s : x ∷ xs ≡ e ∷ replicate n e = q in
      let h : x ≡ e = cc in
      let r : xs ≡ replicate n e = cc in
      let g : Some f ≡ Some (primitive 1) = sym o.1 ∙ ap F h ∙ c in
      let k : f ≡ primitive 1 = cc in
      let u = subst (λ (f : Form). Opens (shapes F) (shape_of_form f) own ps) k o.2 in
      let m = bytes_only n e c a (ap (λ ps. ps ++ xs) u.2 ∙ r) in
      let l = length-append own bs in
      let one = u.0 in
      omega (arith, l, m, one)

  -- ---- names of kinds
  text_name : {x e : List ℕ} {l : Lengths} (kind : Kind) (m : Lengths) → SequenceKind F x l e kind → kind ≡ utf8 m → (x ≡ codes "String") × IsByte F e
  text_name kind m (a_text s b) q = (s.0, b)
  text_name kind m (some_bytes s b) q = cc
  text_name kind m (an_object y a) q = cc
  text_name kind m (some_elements a b y z) q = cc

  object_of : {x e : List ℕ} {l : Lengths} (kind : Kind) (m : Lengths) (keys : Keys) (k v : List ℕ) → SequenceKind F x l e kind → kind ≡ entries m keys k v → IsMap F x k v × AreKeys F k keys
  object_of kind m keys k v (a_text s b) q = cc
  object_of kind m keys k v (some_bytes s b) q = cc
  object_of {x = x} kind m keys k v (an_object {k = j} {v = w} {keys = ks} y a) q =
      let s : j ≡ k = cc in
      let t : w ≡ v = cc in
      let u : ks ≡ keys = cc in
      (subst (λ w. IsMap F x k w) t (subst (λ j. IsMap F x j w) s y), subst (λ (ks : Keys). AreKeys F k ks) u (subst (λ j. AreKeys F j ks) s a))
  object_of kind m keys k v (some_elements a b y z) q = cc

  -- ---- two elements that don't ascend
  module _ (x : List ℕ) (i : Json) (own bs : List ℕ) (qs ps : List Part) (kind : Kind) (has : HasKind F x kind) (says : Says F kind i own qs) (more : HaveBytes F (qs ++ ps) bs) (small : AreBytes (own ++ bs)) (passed : ℕ) (d : HasDescent F x (own ++ bs) passed) where
    abbrev behind_count : List ℕ
    behind_count = d.middle ++ (d.first ++ d.after)

    -- behind the count
    counted : (n : ℕ) (cs : List ℕ) → own ≡ tag 4 (pos n) ++ cs → n ≤ 4294967295 → (n ≡ d.count) × (cs ++ bs ≡ behind_count)
    counted n cs o h =
        let s = same_front (tag 4 (pos n)) (tag 4 (pos d.count)) (cs ++ bs) behind_count (sym (append_assoc (tag 4 (pos n)) cs bs) ∙ ap (λ o. o ++ bs) (sym o) ∙ d.bytes_are) (long_tag 4 (pos n) ∙ sym (long_tag 4 (pos d.count))) in
        let max : 256 ^ 4 ≡ 4294967296 = refl in
        (one_low 4 n d.count (omega (arith, h, max)) (let g = d.fits in omega (arith, g, max)) s.0, s.1)

    -- an array
    keyed_falls : (f2 r3 : List ℕ) (j : Json) → HaveBytes F ((d.e, j) ∷ []) f2 → AreBytes f2 → d.after ≡ f2 ++ r3 → IsAtLeast F (a_value d.k ∷ []) (d.first ++ f2) f2
    keyed_falls f2 r3 j h small e =
        let left = only_read F d.element in
        let right = says_read h (named_so no_names) small in
        let short : (ys zs : List (List ℕ)) → IsRead F true (d.k ∷ ys) d.first → IsRead F false (d.k ∷ zs) f2 → IsAtLeast F (a_value d.k ∷ []) d.first f2 = λ ys zs p q. shorter F d.after r3 d.falls ys zs d.first f2 refl e p q in
        let found : IsAtLeast F (a_value d.k ∷ []) d.first f2 = elim d.keys.1 [
          | inl s ↦ short [] [] (subst (λ k. IsRead F true (k ∷ []) d.first) (sym s.1) left) (subst (λ k. IsRead F false (k ∷ []) f2) (sym s.1) right)
          | inr m ↦ short (m.0 ∷ []) (m.0 ∷ []) (pair_read m.1 left) (pair_read m.1 right)
        ] in
        subst (λ r. IsAtLeast F (a_value d.k ∷ []) (d.first ++ f2) r) (append-nil f2) (longer F f2 [] found)

    -- the parts of the elements before two that don't ascend, and those of the first of these
    apart : (front ones rest : List Part) (m : ℕ) → qs ≡ front ++ (ones ++ rest) → m ≡ passed → Match F (front ++ []) (replicate m d.e ++ []) → Match F ones (d.e ∷ []) → bs ≡ behind_count
        → HaveBytes F ones d.first × HaveBytes F (rest ++ ps) d.after × AreBytes d.after
    apart front ones rest m q k f g is =
        let all = subst (λ l. AreBytes l) is (behind own bs small) in
        let left = behind d.middle (d.first ++ d.after) all in
        let before = subst (λ (n : ℕ). Match F front (replicate n d.e)) k (subst (λ l. Match F front l) (append-nil (replicate m d.e)) (subst (λ (l : List Part). Match F l (replicate m d.e ++ [])) (append-nil front) f)) in
        let s = split F more front ((ones ++ rest) ++ ps) (ap (λ (l : List Part). l ++ ps) q ∙ append_assoc front (ones ++ rest) ps) in
        let u = exact F (replicate passed d.e) d.middle front s.0 s.1 (d.first ++ d.after) d.elements before s.2 all (sym s.4 ∙ is) in
        let t = split F s.3 ones (rest ++ ps) (append_assoc ones rest ps) in
        let v = exact F (d.e ∷ []) d.first ones t.0 t.1 d.after d.element g t.2 left (sym t.4 ∙ u.1) in
        (subst (λ b. HaveBytes F ones b) v.0 t.2, subst (λ b. HaveBytes F (rest ++ ps) b) v.1 t.3, behind d.first d.after left)

    array_falls : (items : Items) → IsListKind kind → i ≡ array items → qs ≡ list_parts d.e items → Falls F x i (suc passed)
    array_falls items l a q =
        let e = d.e in
        let o = array_counts F x e kind i items own qs has d.keys.0 l a says in
        let c = counted (length qs) [] o.1 o.0 in
        let two = two_of passed qs (let m = d.more in let n = c.0 in omega (arith, m, n)) in
        let front = two.0 in
        let p = two.1 in
        let r = two.2 in
        let after = two.3 in
        let names = subst (λ (l : List Part). AreNamed e l) (sym q ∙ two.4) (list_named e items) in
        let rest = named_behind e front (p ∷ r ∷ after) names in
        let s = apart front (p ∷ []) (r ∷ after) (length front) two.4 two.5 (match_list F e front (named_front e front (p ∷ r ∷ after) names) no_names) (subst (λ y. Match F (p ∷ []) (y ∷ [])) rest.0 (named_so no_names)) c.1 in
        let w = split F s.1 (r ∷ []) (after ++ ps) refl in
        let second = subst (λ (r : Part). HaveBytes F (r ∷ []) w.0) (renamed r e rest.1.0) w.2 in
        inr (record {
          e = e;
          k = d.k;
          items = items;
          before = front;
          left = p.1;
          right = r.1;
          after = after;
          first = d.first;
          second = w.0;
          keys = d.keys;
          is_array = a;
          parts = sym q ∙ two.4 ∙ ap (λ (p : Part). front ++ p ∷ r ∷ after) (renamed p e rest.0) ∙ ap (λ (r : Part). front ++ (e, p.1) ∷ r ∷ after) (renamed r e rest.1.0);
          index_is = ap suc (sym two.5);
          left_says = subst (λ (p : Part). HaveBytes F (p ∷ []) d.first) (renamed p e rest.0) s.0;
          right_says = second;
          falls = keyed_falls w.0 w.1 r.1 second (bytes_before w.0 w.1 (subst (λ l. AreBytes l) w.4 s.2)) w.4;
        })

    -- digits
    digits_fall : (l : Lengths) (cs : List ℕ) → kind ≡ byte_list l d.e → IsHex i cs → own ≡ tag 4 (pos (length cs)) ++ cs → length cs ≤ 4294967295 → IsByte F d.e → Falls F x i (suc passed)
    digits_fall l cs q hex o h byte = elim d.keys.1 [
      | inr m ↦ absurd (clash (F d.e) byte.1 m.1 (λ z. cc))
      | inl set ↦ (let c = counted (length cs) cs o h in
          let m = bytes_only passed d.e byte.1 d.elements refl in
          let n = bytes_only 1 d.e byte.1 d.element refl in
          let k = d.more in
          let z = c.0 in
          let a = cut_front cs bs d.middle (d.first ++ d.after) c.1 (omega (arith, m, k, z)) in
          let j = ap (λ l. length l) a.1 ∙ length-append d.middle a.0 in
          let b = cut_front a.0 bs d.first d.after (sym a.2) (omega (arith, m, n, k, z, j)) in
          let g = ap (λ l. length l) b.1 ∙ length-append d.first b.0 in
          let f = front_of 1 b.0 (omega (arith, m, n, k, z, j, g)) in
          let second = take 1 b.0 in
          let after = drop 1 b.0 in
          let falls = subst (λ k. IsAtLeast F (a_value k ∷ []) (d.first ++ d.after) d.after) set.1 d.falls in
          let next : d.after ≡ second ++ (after ++ bs) = b.2 ∙ ap (λ l. l ++ bs) f.0 ∙ append_assoc second after bs in
          let alone = packed_alone F d.e 0 byte.1 d.first second d.after (after ++ bs) n f.1 (subst (λ r. IsAtLeast F (a_value d.e ∷ []) (d.first ++ d.after) r) next falls) in
          let fall : PrimitivesDescend F d.e 1 cs (suc passed) = record {
            before = d.middle;
            first = d.first;
            second = second;
            after = after;
            some = omega arith;
            passed = omega (arith, m);
            bytes_are = a.1 ∙ ap (λ l. d.middle ++ l) (b.1 ∙ ap (λ l. d.first ++ l) f.0);
            first_is = n;
            second_is = f.1;
            falls = alone;
          } in
          let v = bytes_fallen F d.e byte cs (suc passed) fall in
          inl (l, d.e, d.middle, v.0, v.1, after, subst (λ (k : Kind). HasKind F x k) q has, (d.keys.0, set.0), subst (λ b. IsHex i b) v.2 hex, ap suc (sym m), v.3))
    ]

    -- an object
    entries_fall : (l : Lengths) (keys : Keys) (k v : List ℕ) → kind ≡ entries l keys k v → ⊥
    entries_fall l keys k v q =
        let e = d.e in
        let s = subst (λ (kind : Kind). Says F kind i own qs) q says in
        let h = subst (λ (kind : Kind). HasKind F x kind) q has in
        let f = form_known F (entries l keys k v) (sequence 4 0 4294967295 e) h d.keys.0 (λ z. cc) in
        let y = object_of (entries l keys k v) l keys k v (defined F (sequence 4 0 4294967295 e) d.keys.0 (full_list F d.keys.0) h) refl in
        let same : e ≡ f.0 = (let g = f.1 in cc) in
        let tup : F e ≡ Some (tuple (k ∷ v ∷ [])) = ap F same ∙ f.2 in
        let full = keys_full F k keys y.1 in
        let o = in_four F l f.0 e f.1 (length s.1) [] own s.5 in
        let c = counted (length s.1) [] o.1 o.0 in
        let two = two_of passed s.1 (let m = d.more in let n = c.0 in omega (arith, m, n)) in
        let p = two.1 in
        let r = two.2 in
        let ones : List Part = (k, key_json keys p.0) ∷ (v, p.1) ∷ [] in
        let rest : List Part = (k, key_json keys r.0) ∷ (v, r.1) ∷ entry_parts keys k v two.3 in
        let is : qs ≡ entry_parts keys k v two.0 ++ (ones ++ rest) = s.6 ∙ ap (λ (es : List Entry). entry_parts keys k v es) two.4 ∙ entries_joined keys k v two.0 (p ∷ r ∷ two.3) in
        let t = apart (entry_parts keys k v two.0) ones rest (length two.0) is two.5 (match_entries F keys e k v full tup two.0 no_names) (paired full tup (named_so (named_so no_names))) c.1 in
        let left = uncons F t.0 in
        let right = uncons F t.1 in
        let key : d.k ≡ k = keys_one F x e e d.k k d.keys (d.keys.0, inr (v, tup, y.0.3)) in
        let falls = subst (λ k. IsAtLeast F (a_value k ∷ []) (d.first ++ d.after) d.after) key d.falls in
        let there = subst (λ l. IsAtLeast F (a_value k ∷ []) l d.after) (ap (λ l. l ++ d.after) left.3 ∙ append_assoc left.0 left.2 d.after) falls in
        keys_rise F k keys p.0 r.0 left.0 right.0 (left.2 ++ d.after) right.2 y.1
        (subst (λ (qs : List Part). SaysFirst F k (key_json keys p.0) left.0 qs) (key_parts F k keys (key_json keys p.0) left.0 left.1 y.1 left.4) left.4)
        (subst (λ (qs : List Part). SaysFirst F k (key_json keys r.0) right.0 qs) (key_parts F k keys (key_json keys r.0) right.0 right.1 y.1 right.4) right.4)
        (texts_alone keys p r (sorted_two keys two.0 p r two.3 (subst (λ (es : List Entry). IsStrictlySortedBy (key_order keys) es) two.4 s.4)))
        (subst (λ l. IsAtLeast F (a_value k ∷ []) (left.0 ++ (left.2 ++ d.after)) l) right.3 there)

    list_falls : IsKindOfList F d.e kind → Falls F x i (suc passed)
    list_falls (inl (l, q)) =
        let t = text_name kind l (defined F (sequence 4 0 4294967295 d.e) d.keys.0 (full_list F d.keys.0) has) q in
        absurd (elim d.keys.1 [ inl set ↦ string_no_set x d.e t.0 set.0 | inr m ↦ clash (F d.e) t.1.1 m.1 (λ z. cc) ])
    list_falls (inr (inl (l, inl q))) =
        let f = form_known F (byte_list l d.e) (sequence 4 0 4294967295 d.e) (subst (λ (kind : Kind). HasKind F x kind) q has) d.keys.0 (λ z. cc) in
        elim (subst (λ (kind : Kind). Says F kind i own qs) q says) [
          | inl s ↦ (let o = in_four F l d.e d.e f.0 (length s.0) s.0 own s.2 in digits_fall l s.0 q s.1 o.1 o.0 f.1)
          | inr s ↦ array_falls s.0 (l, d.e, inr q) s.1 s.2
        ]
    list_falls (inr (inl (l, inr q))) = let s = subst (λ (kind : Kind). Says F kind i own qs) q says in array_falls s.0 (l, d.e, inl q) s.1 s.2
    list_falls (inr (inr (l, keys, k, v, q))) = absurd (entries_fall l keys k v q)

    pub falls_there : Falls F x i (suc passed)
    falls_there = list_falls (list_kind F x d.e kind has d.keys.0)
