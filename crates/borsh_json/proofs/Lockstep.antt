-- JSON that says bytes is in order if they were checked: it has the parts that are due, in the same order.
use Rattle.std.proofs.{Common.{◌≡◌, inl, inr, ℕ, suc, zero, ◌-◌, ◌*◌, ◌<◌, ◌≤◌, List, [], ◌∷◌, ◌++◌, length, map, replicate, drop, Option, Some, None, refl, sym, ◌∙◌, ap, subst, arith, append_assoc, append-nil, length-append}, Math.Nat.{suc-mul, zero-mul}, lemmas.List.{length-replicate}}
use Rattle.std.specs.{Prelude.{ℤ, pos, codes, All, IfSome}, List.{AllByRecursion}}
use Rattle.json.specs.Json.{Json, array, string, Items, no_items, item, Members}
use Rattle.borsh_walks.specs.Container.{Shape, first, later, IsListedVariant, first_variant, later_variant, tag}
use Rattle.borsh_walks.specs.Container as shape
use Rattle.borsh_values.specs.{Nodes.{packed_size, OpensElements, Opens}, Cursor.{OpensOnce}}
use Rattle.borsh_values.proofs.MemberLaws.{same_front}
use Rattle.borsh_json.specs.{Checked.{Due, one, ascending, IsOnly, AreChecked, empty, plain, collection, packed, elements_end, next_element}, Descents.{HasKeys, PrimitivesDescend}, Forms.{Form, primitive, sequence, tuple, choice, named, unnamed, no_fields, shape_of_form, shapes, HasNoBytes, IsList, IsByte}, Found.{IsSet}, Frames.{AreInOrder, IsListKind}, InOrder.{DigitsFall, ItemsFall, Falls, InOrder}, Leaves.{HasSize}, Ordered.{Compared, a_value, IsAtLeast, all_equal, first_above, first_equal}, Represents.{SaysFirst, HaveBytes, none_left, next_part}, Table.{Lengths, Keys, Kind, no_bytes, truth, whole, float, raw, utf8, byte_list, list, row, inner, fields, optional, variants, entries, primitive_kind, a_text, some_bytes, an_object, some_elements, nullable, by_name, DefinedKind, HasKind, IsPrefixed, Part, row_parts, list_parts, field_parts, IsVariant, this, that, Entry, entry_parts, IsArray, Says}}
use Rattle.borsh_json.proofs.{BytesFall.{bytes_descend}, DescentLaws.{all_left, all_right, packed_alone}, FormKinds.{map_elements, form_known, shaped}, FoundLaws.{full_list, full_primitive, list_element, zero_part}, InOrderLaws.{items_said, keys_one, whole_in_order}, WrittenLaws.{divided}, LeafLaws.{primitive_sized, float_length}, NameLaws.{keys_full, packed_primitive}, OrderLaws.{clash, moved}, OrderNumbers.{long_tag}, ReaderLaws.{mapped, field_front, uncons, split, no_parts}, RepresentsLaws.{hex_one, kind_one, bytes_one}}

-- all bytes are below 256
abbrev pub AreBytes : List ℕ → Type 0
AreBytes bytes = All (λ b. b < 256) bytes

pub behind : (xs ys : List ℕ) → AreBytes (xs ++ ys) → AreBytes ys
behind xs ys h = all_right (λ b. b < 256) xs ys h

pub before : (xs ys : List ℕ) → AreBytes (xs ++ ys) → AreBytes xs
before xs ys h = all_left (λ b. b < 256) xs ys h

-- ---- names of what is due
abbrev due_names : List Due → List (List ℕ)
due_names [] = []
due_names (one x ∷ ds) = x ∷ due_names ds
due_names (ascending e k n b ∷ ds) = replicate n e ++ due_names ds

due_parts : (xs : List (List ℕ)) (ds : List Due) → due_names (map one xs ++ ds) ≡ xs ++ due_names ds
due_parts [] ds = refl
due_parts (x ∷ xs) ds = ap (λ l. x ∷ l) (due_parts xs ds)

-- the parts are all of one name
abbrev pub AreNamed : List ℕ → List Part → Type 0
AreNamed e qs = AllByRecursion (λ (q : Part). q.0 ≡ e) qs

pub list_named : (e : List ℕ) (js : Items) → AreNamed e (list_parts e js)
list_named e no_items = tt
list_named e (item j js) = (refl, list_named e js)

pub named_front : (e : List ℕ) (qs rs : List Part) → AreNamed e (qs ++ rs) → AreNamed e qs
named_front e [] rs h = tt
named_front e (q ∷ qs) rs h = (h.0, named_front e qs rs h.1)

-- parts of a row, one after another
pub row_front : (x : List ℕ) (xs : List (List ℕ)) (js : Items) (qs : List Part) → row_parts (x ∷ xs) js ≡ Some qs → (j : Json) × (is : Items) × (ps : List Part) × (row_parts xs is ≡ Some ps) × (qs ≡ (x, j) ∷ ps)
row_front x xs no_items qs e = cc
row_front x xs (item j js) qs e = let m = mapped (λ ps. (x, j) ∷ ps) (row_parts xs js) e in (j, js, m.0, m.1, sym m.2)

module _ (F : List ℕ → Option Form) where
  abbrev C : List ℕ → Option Shape
  C = shapes F

  pub defined : {x : List ℕ} {kind : Kind} (d : Form) → F x ≡ Some d → (HasNoBytes F x → ⊥) → HasKind F x kind → DefinedKind F x d kind
  defined d c n (inl h) = absurd (n h.0)
  defined {x = x} {kind = kind} d c n (inr h) =
      let g : Some h.1 ≡ Some d = sym h.2 ∙ c in
      let e : h.1 ≡ d = cc in
      subst (λ d. DefinedKind F x d kind) e h.3

  -- ---- parts and names
  -- the parts have these names, but for values without bytes, which are no parts, and tuples of two, which may be two parts if the first has bytes
  pub data Match : List Part → List (List ℕ) → Type 0 where
    no_names : Match [] []
    silent : {x : List ℕ} {ps : List Part} {xs : List (List ℕ)} → HasNoBytes F x → Match ps xs → Match ps (x ∷ xs)
    named_so : {x : List ℕ} {j : Json} {ps : List Part} {xs : List (List ℕ)} → Match ps xs → Match ((x, j) ∷ ps) (x ∷ xs)
    paired : {e k v : List ℕ} {ps : List Part} {xs : List (List ℕ)} → (HasNoBytes F k → ⊥) → F e ≡ Some (tuple (k ∷ v ∷ [])) → Match ps (k ∷ v ∷ xs) → Match ps (e ∷ xs)

  pub match_list : (e : List ℕ) (qs : List Part) {ps : List Part} {xs : List (List ℕ)} → AreNamed e qs → Match ps xs → Match (qs ++ ps) (replicate (length qs) e ++ xs)
  match_list e [] a m = m
  match_list e (q ∷ qs) {ps = ps} {xs = xs} a m = subst (λ y. Match (q ∷ (qs ++ ps)) (y ∷ (replicate (length qs) e ++ xs))) a.0 (named_so (match_list e qs a.1 m))

  pub match_entries : (keys : Keys) (e k v : List ℕ) → (HasNoBytes F k → ⊥) → F e ≡ Some (tuple (k ∷ v ∷ [])) → (es : List Entry) {ps : List Part} {xs : List (List ℕ)} → Match ps xs → Match (entry_parts keys k v es ++ ps) (replicate (length es) e ++ xs)
  match_entries keys e k v full c [] m = m
  match_entries keys e k v full c (x ∷ es) m = paired full c (named_so (named_so (match_entries keys e k v full c es m)))

  pub match_row : (xs : List (List ℕ)) (js : Items) (qs : List Part) {ps : List Part} {ys : List (List ℕ)} → row_parts xs js ≡ Some qs → Match ps ys → Match (qs ++ ps) (xs ++ ys)
  match_row [] no_items qs {ps = ps} {ys = ys} e m = subst (λ (qs : List Part). Match (qs ++ ps) ys) (let q : [] ≡ qs = cc in q) m
  match_row [] (item j js) qs e m = cc
  match_row (x ∷ xs) js qs {ps = ps} {ys = ys} e m =
      let f = row_front x xs js qs e in
      subst (λ (qs : List Part). Match (qs ++ ps) (x ∷ (xs ++ ys))) (sym f.4) (named_so (match_row xs f.1 f.2 f.3 m))

  pub match_fields : (fs : List (List ℕ × List ℕ)) (ms : Members) (qs : List Part) {ps : List Part} {ys : List (List ℕ)} → field_parts fs ms ≡ Some qs → Match ps ys → Match (qs ++ ps) (map (λ (f : List ℕ × List ℕ). f.1) fs ++ ys)
  match_fields [] ms qs {ps = ps} {ys = ys} e m = subst (λ (qs : List Part). Match (qs ++ ps) ys) (let q : [] ≡ qs = cc in q) m
  match_fields (f ∷ fs) ms qs {ps = ps} {ys = ys} e m =
      let t = field_front f fs ms qs e in
      subst (λ (qs : List Part). Match (qs ++ ps) (f.1 ∷ (map (λ (f : List ℕ × List ℕ). f.1) fs ++ ys))) (sym t.4) (named_so (match_fields fs ms t.1 t.3 m))

  -- ---- what is due
  -- the definition of a value that opens in one way only
  only_one : {x own : List ℕ} {parts : List (List ℕ)} (f : Form) → F x ≡ Some f → IsOnly F x own parts → (b : List ℕ) (ms : List (List ℕ)) (r s : List ℕ) → Opens C (shape_of_form f) b ms → b ++ r ≡ own ++ s → (b ≡ own) × (r ≡ s) × (ms ≡ parts)
  only_one {own = own} {parts = parts} f c o =
      let g : Some o.0 ≡ Some f = sym o.1 ∙ c in
      let q : o.0 ≡ f = cc in
      subst (λ f. OpensOnce C (shape_of_form f) own parts) q o.2

  ended : {e k all : List ℕ} {b : Option (List ℕ)} {ds : List Due} → AreChecked F (ascending e k zero b ∷ ds) all → AreChecked F ds all
  ended (elements_end a) = a

  next : {e k all : List ℕ} {n : ℕ} {b : Option (List ℕ)} {ds : List Due} → AreChecked F (ascending e k (suc n) b ∷ ds) all → IfSome b (λ earlier. IsAtLeast F (a_value k ∷ []) earlier all → ⊥) × AreChecked F (one e ∷ ascending e k n (Some all) ∷ ds) all
  next (next_element f a) = (f, a)

  skipped : {x all : List ℕ} {ds : List Due} → HasNoBytes F x → AreChecked F (one x ∷ ds) all → AreChecked F ds all
  skipped z (empty h a) = a
  skipped z (plain own parts full needs only a) = absurd (full z)
  skipped z (collection own n keys p only a) = absurd (full_list F keys.0 z)
  skipped z (packed own n set size rise only a) = absurd (full_list F set.0 z)

  parted : {e k v all : List ℕ} {ds : List Due} → F e ≡ Some (tuple (k ∷ v ∷ [])) → AreChecked F (one e ∷ ds) all → AreChecked F (one k ∷ one v ∷ ds) all
  parted {e} c (empty z a) = let d = shaped (F e) c in empty (zero_part F d z first) (empty (zero_part F d z (later first)) a)
  parted {e} {k} {v} {all} {ds} c (plain {bs = bs} own parts full needs only a) =
      let o = only_one (tuple (k ∷ v ∷ [])) c only [] (k ∷ v ∷ []) (own ++ bs) bs (refl, refl) refl in
      subst (λ l. AreChecked F (one k ∷ one v ∷ ds) l) (sym o.1) (subst (λ (l : List (List ℕ)). AreChecked F (map one l ++ ds) bs) (sym o.2) a)
  parted c (collection own n keys p only a) = absurd (clash (F _) c keys.0 (λ q. cc))
  parted c (packed own n set size rise only a) = absurd (clash (F _) c set.0 (λ q. cc))

  -- the next name that is due
  due_first : (ds others : List Due) (x : List ℕ) (xs : List (List ℕ)) (all : List ℕ) → due_names ds ≡ x ∷ xs → AreChecked F (ds ++ others) all → (es : List Due) × (due_names es ≡ xs) × AreChecked F (one x ∷ (es ++ others)) all
  due_first [] others x xs all q a = cc
  due_first (one y ∷ ds) others x xs all q a =
      let s : y ≡ x = cc in
      let t : due_names ds ≡ xs = cc in
      (ds, t, subst (λ y. AreChecked F (one y ∷ (ds ++ others)) all) s a)
  due_first (ascending e k zero b ∷ ds) others x xs all q a = due_first ds others x xs all q (ended a)
  due_first (ascending e k (suc n) b ∷ ds) others x xs all q a =
      let g : e ∷ (replicate n e ++ due_names ds) ≡ x ∷ xs = q in
      let s : e ≡ x = cc in
      let t : replicate n e ++ due_names ds ≡ xs = cc in
      (ascending e k n (Some all) ∷ ds, t, subst (λ y. AreChecked F (one y ∷ (ascending e k n (Some all) ∷ ds ++ others)) all) s (next a).1)

  due_end : (ds others : List Due) (all : List ℕ) → due_names ds ≡ [] → AreChecked F (ds ++ others) all → AreChecked F others all
  due_end [] others all q a = a
  due_end (one y ∷ ds) others all q a = cc
  due_end (ascending e k zero b ∷ ds) others all q a = due_end ds others all q (ended a)
  due_end (ascending e k (suc n) b ∷ ds) others all q a = let g : e ∷ (replicate n e ++ due_names ds) ≡ [] = q in cc

  -- in front of the first of the parts; or behind all that was due, where there is none
  abbrev IsReached : List Part → List Due → List ℕ → Type 0
  IsReached [] others all = AreChecked F others all
  IsReached (p ∷ ps) others all = (ds : List Due) × Match ps (due_names ds) × AreChecked F (one p.0 ∷ (ds ++ others)) all

  reached : {ps : List Part} {xs : List (List ℕ)} → Match ps xs → (ds others : List Due) (all : List ℕ) → due_names ds ≡ xs → AreChecked F (ds ++ others) all → IsReached ps others all
  reached no_names ds others all q a = due_end ds others all q a
  reached (silent {x = x} {xs = xs} z m) ds others all q a =
      let f = due_first ds others x xs all q a in
      reached m f.0 others all f.1 (skipped z f.2)
  reached (named_so {x = x} {ps = ps} {xs = xs} m) ds others all q a =
      let f = due_first ds others x xs all q a in
      (f.0, subst (λ l. Match ps l) (sym f.1) m, f.2)
  reached (paired {e = e} {k = k} {v = v} {xs = xs} full c m) ds others all q a =
      let f = due_first ds others e xs all q a in
      reached m (one k ∷ one v ∷ f.0) others all (ap (λ l. k ∷ v ∷ l) f.1) (parted c f.2)

  -- ---- numbers in a row
  pub sized : (k : Kind) (n : ℕ) (j : Json) (own : List ℕ) (qs : List Part) → HasSize k n → Says F k j own qs → (length own ≡ n) × (qs ≡ [])
  sized no_bytes n j own qs h s = absurd h
  sized truth n j own qs h s = (ap (λ l. length l) s.2 ∙ sym h, s.3)
  sized (whole m signed non_zero) n j own qs h s = (ap (λ l. length l) s.2.2 ∙ long_tag m s.2.0 ∙ sym h.0, s.3)
  sized (float f) n j own qs h s = (float_length f s.0 own s.2 ∙ sym h, s.3)
  sized (raw m) n j own qs h s = (s.1 ∙ sym h, s.2)
  sized (utf8 l) n j own qs h s = absurd h
  sized (byte_list l e) n j own qs h s = absurd h
  sized (list l e) n j own qs h s = absurd h
  sized (row xs) n j own qs h s = absurd h
  sized (inner y) n j own qs h s = absurd h
  sized (fields fs) n j own qs h s = absurd h
  sized (optional y) n j own qs h s = absurd h
  sized (variants w vs) n j own qs h s = absurd h
  sized (entries l keys k v) n j own qs h s = absurd h

  number_said : {e own : List ℕ} {j : Json} {qs : List Part} (n : ℕ) → F e ≡ Some (primitive (suc n)) → SaysFirst F e j own qs → (length own ≡ suc n) × (qs ≡ [])
  number_said {e} {own} {j} {qs} n c s =
      let k : s.0 ≡ primitive_kind e (suc n) = defined (primitive (suc n)) c (full_primitive F c) s.1 in
      sized (primitive_kind e (suc n)) (suc n) j own qs (primitive_sized e (suc n)) (subst (λ (k : Kind). Says F k j own qs) k s.2)

  -- the parts match what is due of the bytes; the first of them may be numbers that were passed with the list that has them
  pub data Locked (others : List Due) (left : List ℕ) : List Part → List ℕ → Type 0 where
    due : {ps : List Part} {bytes : List ℕ} (ds : List Due) → Match ps (due_names ds) → AreChecked F (ds ++ others) (bytes ++ left) → Locked others left ps bytes
    number : {e bs : List ℕ} {j : Json} {ps : List Part} (n : ℕ) (own : List ℕ) → F e ≡ Some (primitive (suc n)) → length own ≡ suc n → Locked others left ps bs → Locked others left ((e, j) ∷ ps) (own ++ bs)

  numbers_said : (e : List ℕ) (n : ℕ) → F e ≡ Some (primitive (suc n)) → (qs : List Part) → AreNamed e qs → {bs : List ℕ} → HaveBytes F qs bs → (length bs ≡ length qs * suc n) × ((others : List Due) (left : List ℕ) (ps : List Part) (rest : List ℕ) → Locked others left ps rest → Locked others left (qs ++ ps) (bs ++ rest))
  numbers_said e n c [] a h =
      let z = no_parts F h refl in
      (ap (λ l. length l) z ∙ sym (zero-mul (suc n)), λ others left ps rest k. subst (λ l. Locked others left ps (l ++ rest)) (sym z) k)
  numbers_said e n c (q ∷ qs) a h =
      let d : F q.0 ≡ Some (primitive (suc n)) = ap F a.0 ∙ c in
      let u = uncons F {x = q.0} {j = q.1} h in
      let s = number_said {e = q.0} {own = u.0} {j = q.1} {qs = u.1} n d u.4 in
      let t = numbers_said e n c qs a.1 (subst (λ (l : List Part). HaveBytes F (l ++ qs) u.2) s.1 u.5) in
      let l = ap (λ l. length l) u.3 ∙ length-append u.0 u.2 in
      let m = suc-mul (length qs) (suc n) in
      let x = s.0 in
      let y = t.0 in
      (omega (arith, l, m, x, y), λ others left ps rest k. subst (λ l. Locked others left (q ∷ (qs ++ ps)) l) (sym (ap (λ l. l ++ rest) u.3 ∙ append_assoc u.0 u.2 rest)) (number n u.0 d s.0 (t.1 others left ps rest k)))

  -- ---- what JSON says, as the definition opens it
  -- JSON says the own bytes and the parts, behind which are others; more bytes of them are in the definition's own, which then has these names; so the parts match what is due
  pub record Opened (s : Shape) (own bs : List ℕ) (qs ps : List Part) : Type 0 where
    pub more : List ℕ
    pub rest : List ℕ
    pub names : List (List ℕ)
    pub bytes_are : bs ≡ more ++ rest
    pub opens : Opens C s (own ++ more) names
    -- those that are left have the bytes behind the definition's own
    pub said : (xs : List (List ℕ)) → Match ps xs → HaveBytes F (qs ++ ps) bs → (front : List Part) × (left : List Part) × (qs ++ ps ≡ front ++ left) × Match left (names ++ xs) × HaveBytes F left rest
    pub locked : (others : List Due) (left : List ℕ) (ds : List Due) (xs : List (List ℕ)) → due_names ds ≡ names ++ xs → Match ps xs → AreChecked F (ds ++ others) (rest ++ left) → Locked others left (qs ++ ps) bs

  module _ (own bs : List ℕ) (qs ps : List Part) where
    parts_open : (s : Shape) (names : List (List ℕ)) → Opens C s own names → ((xs : List (List ℕ)) → Match ps xs → Match (qs ++ ps) (names ++ xs)) → Opened s own bs qs ps
    parts_open s names o m = record {
      more = [];
      rest = bs;
      names = names;
      bytes_are = refl;
      opens = subst (λ b. Opens C s b names) (sym (append-nil own)) o;
      said = λ xs n h. ([], qs ++ ps, refl, m xs n, h);
      locked = λ others left ds xs e n a. due ds (subst (λ l. Match (qs ++ ps) l) (sym e) (m xs n)) a;
    }

    none_open : (s : Shape) → Opens C s own [] → qs ≡ [] → Opened s own bs qs ps
    none_open s o e = parts_open s [] o (λ xs m. subst (λ (qs : List Part). Match (qs ++ ps) xs) (sym e) m)

    one_opens : (s : Shape) (x : List ℕ) (j : Json) → Opens C s own (x ∷ []) → qs ≡ (x, j) ∷ [] → Opened s own bs qs ps
    one_opens s x j o e = parts_open s (x ∷ []) o (λ xs m. subst (λ (qs : List Part). Match (qs ++ ps) (x ∷ xs)) (sym e) (named_so m))

    silent_opens : (s : Shape) (x : List ℕ) → Opens C s own (x ∷ []) → HasNoBytes F x → qs ≡ [] → Opened s own bs qs ps
    silent_opens s x o z e = parts_open s (x ∷ []) o (λ xs m. subst (λ (qs : List Part). Match (qs ++ ps) (x ∷ xs)) (sym e) (silent z m))

  module _ (w lo hi : ℕ) (e : List ℕ) where
    numbers_open : (n k : ℕ) (own cs : List ℕ) → F e ≡ Some (primitive (suc n)) → lo ≤ k → k ≤ hi → own ≡ tag w (pos k) ++ cs → length cs ≡ k * suc n → AreBytes own → Opens C (shape.sequence w lo hi e) own []
    numbers_open n k own cs c low high o l small =
        let s = behind (tag w (pos k)) cs (subst (λ b. AreBytes b) o small) in
        (k, cs, low, high, o, subst (λ m. OpensElements m e k cs []) (sym (ap (λ d. packed_size d) (shaped (F e) c))) (l, s, refl))

    pub elements_open : (k : ℕ) (own : List ℕ) → packed_size (C e) ≡ 0 → lo ≤ k → k ≤ hi → own ≡ tag w (pos k) ++ [] → Opens C (shape.sequence w lo hi e) own (replicate k e)
    elements_open k own z low high o = (k, [], low, high, o, subst (λ m. OpensElements m e k [] (replicate k e)) (sym z) (refl, refl))

    abbrev lengths : Lengths
    lengths = record { width = w; least = lo; greatest = hi }

    text_opens : (own cs : List ℕ) → IsByte F e → IsPrefixed lengths (length cs) cs own → AreBytes own → Opens C (shape.sequence w lo hi e) own []
    text_opens own cs b p small = numbers_open 0 (length cs) own cs b.1 p.0 p.1 p.2 (omega arith) small

    array_opens : (j : Json) (own bs : List ℕ) (qs ps : List Part) → IsArray lengths e j own qs → HaveBytes F (qs ++ ps) bs → AreBytes (own ++ bs) → (m : ℕ) → packed_size (C e) ≡ m → Opened (shape.sequence w lo hi e) own bs qs ps
    array_opens j own bs qs ps a h small zero z =
        parts_open own bs qs ps (shape.sequence w lo hi e) (replicate (length qs) e) (elements_open (length qs) own z a.3.0 a.3.1 a.3.2) (λ xs m. match_list e qs (subst (λ (l : List Part). AreNamed e l) (sym a.2) (list_named e a.0)) m)
    array_opens j own bs qs ps a h small (suc n) z =
        let c = packed_primitive F e (suc n) n (sym z) refl in
        let t = split F h qs ps refl in
        let v = numbers_said e n c qs (subst (λ (l : List Part). AreNamed e l) (sym a.2) (list_named e a.0)) t.2 in
        let is : own ++ t.0 ≡ tag w (pos (length qs)) ++ t.0 = ap (λ b. b ++ t.0) (a.3.2 ∙ append-nil (tag w (pos (length qs)))) in
        let fine = before (own ++ t.0) t.1 (subst (λ b. AreBytes b) (ap (λ b. own ++ b) t.4 ∙ sym (append_assoc own t.0 t.1)) small) in
        record {
          more = t.0;
          rest = t.1;
          names = [];
          bytes_are = t.4;
          opens = numbers_open n (length qs) (own ++ t.0) t.0 c a.3.0 a.3.1 is v.0 fine;
          said = λ xs m k. (qs, ps, refl, m, t.3);
          locked = λ others left ds xs q m k. subst (λ l. Locked others left (qs ++ ps) l) (sym t.4) (v.1 others left ps t.1 (due ds (subst (λ l. Match ps l) (sym q) m) k));
        }

  pub listed : {k : ℤ} {v p : List ℕ} {vs : List (ℤ × List ℕ × List ℕ)} → IsVariant k v p vs → IsListedVariant k p (map (λ (v : ℤ × List ℕ × List ℕ). (v.0, v.2)) vs)
  listed this = first_variant
  listed (that i) = later_variant (listed i)

  row_opens : (xs : List (List ℕ)) (j : Json) (own bs : List ℕ) (qs ps : List Part) → Says F (row xs) j own qs → Opened (shape.product xs) own bs qs ps
  row_opens xs j own bs qs ps t = parts_open own bs qs ps (shape.product xs) xs (t.0, refl) (λ ys m. match_row xs t.1 qs t.3 m)

  pub value_opens : (x : List ℕ) (f : Form) (kind : Kind) (j : Json) (own bs : List ℕ) (qs ps : List Part) → DefinedKind F x f kind → F x ≡ Some f → Says F kind j own qs → HaveBytes F (qs ++ ps) bs → AreBytes (own ++ bs) → Opened (shape_of_form f) own bs qs ps
  value_opens x (primitive n) kind j own bs qs ps d c s h small =
      let t = sized (primitive_kind x n) n j own qs (primitive_sized x n) (subst (λ (k : Kind). Says F k j own qs) d s) in
      none_open own bs qs ps (shape.primitive n) (t.0, before own bs small, refl) t.1
  value_opens x (sequence w lo hi e) kind j own bs qs ps (a_text t b) c s h small = none_open own bs qs ps (shape.sequence w lo hi e) (text_opens w lo hi e own s.0 b s.3 (before own bs small)) s.4
  value_opens x (sequence w lo hi e) kind j own bs qs ps (some_bytes t b) c (inl s) h small = none_open own bs qs ps (shape.sequence w lo hi e) (text_opens w lo hi e own s.0 b s.2 (before own bs small)) s.3
  value_opens x (sequence w lo hi e) kind j own bs qs ps (some_bytes t b) c (inr s) h small = array_opens w lo hi e j own bs qs ps s h small (packed_size (C e)) refl
  value_opens x (sequence w lo hi e) kind j own bs qs ps (an_object {k = k} {v = v} {keys = keys} m a) c s h small =
      let t = map_elements F w lo hi e c m in
      parts_open own bs qs ps (shape.sequence w lo hi e) (replicate (length s.1) e) (elements_open w lo hi e (length s.1) own (ap (λ d. packed_size d) (shaped (F e) t)) s.5.0 s.5.1 s.5.2) (λ xs n. subst (λ (l : List Part). Match (l ++ ps) (replicate (length s.1) e ++ xs)) (sym s.6) (match_entries keys e k v (keys_full F k keys a) t s.1 n))
  value_opens x (sequence w lo hi e) kind j own bs qs ps (some_elements a b y z) c s h small = array_opens w lo hi e j own bs qs ps s h small (packed_size (C e)) refl
  value_opens x (tuple xs) kind j own bs qs ps d c s h small = row_opens xs j own bs qs ps (subst (λ (k : Kind). Says F k j own qs) d s)
  value_opens x (unnamed []) kind j own bs qs ps d c s h small = row_opens [] j own bs qs ps (subst (λ (k : Kind). Says F k j own qs) d s)
  value_opens x (unnamed (p ∷ [])) kind j own bs qs ps d c s h small =
      let t = subst (λ (k : Kind). Says F k j own qs) d s in
      one_opens own bs qs ps (shape.product (p ∷ [])) p j (t.0, refl) t.1
  value_opens x (unnamed (p ∷ q ∷ xs)) kind j own bs qs ps d c s h small = row_opens (p ∷ q ∷ xs) j own bs qs ps (subst (λ (k : Kind). Says F k j own qs) d s)
  value_opens x no_fields kind j own bs qs ps d c s h small = row_opens [] j own bs qs ps (subst (λ (k : Kind). Says F k j own qs) d s)
  value_opens x (named fs) kind j own bs qs ps d c s h small =
      let t = subst (λ (k : Kind). Says F k j own qs) d s in
      parts_open own bs qs ps (shape_of_form (named fs)) (map (λ (f : List ℕ × List ℕ). f.1) fs) (t.1, refl) (λ ys m. match_fields fs t.2 qs t.5 m)
  value_opens x (choice w vs) kind j own bs qs ps (nullable {p = p} o) c s h small =
      let us : List (ℤ × List ℕ × List ℕ) = (pos 0, codes "None", o.0.0) ∷ (pos 1, codes "Some", p) ∷ [] in
      let g : Some (choice w vs) ≡ Some (choice 1 us) = sym c ∙ o.0.1 in
      let q : choice w vs ≡ choice 1 us = cc in
      subst (λ (f : Form). Opened (shape_of_form f) own bs qs ps) (sym q) (elim s [
        | inl t ↦ silent_opens own bs qs ps (shape_of_form (choice 1 us)) o.0.0 (pos 0, o.0.0, first_variant, t.1, refl) o.0.2.1 t.2
        | inr t ↦ one_opens own bs qs ps (shape_of_form (choice 1 us)) p j (pos 1, p, later_variant first_variant, t.1, refl) t.2
      ])
  value_opens x (choice w vs) kind j own bs qs ps (by_name n) c s h small = elim s.6 [
    | inl a ↦ silent_opens own bs qs ps (shape_of_form (choice w vs)) s.3 (s.1, s.3, listed s.4, s.5, refl) a.1 a.2
    | inr a ↦ one_opens own bs qs ps (shape_of_form (choice w vs)) s.3 a.0 (s.1, s.3, listed s.4, s.5, refl) a.3
  ]

  -- ---- the lockstep
  module _ (others : List Due) (left : List ℕ) {x : List ℕ} {j : Json} {own bs : List ℕ} {qs ps : List Part} (says : SaysFirst F x j own qs) (more : HaveBytes F (qs ++ ps) bs) (small : AreBytes (own ++ bs)) where
    opened : {front cs : List ℕ} {parts : List (List ℕ)} → (HasNoBytes F x → ⊥) → IsOnly F x front parts → own ++ (bs ++ left) ≡ front ++ cs → (ds : List Due) (xs : List (List ℕ)) → due_names ds ≡ parts ++ xs → Match ps xs → AreChecked F (ds ++ others) cs → Locked others left (qs ++ ps) bs
    opened {front} {cs} full only e ds xs q m a =
        let o = value_opens x only.0 says.0 j own bs qs ps (defined only.0 only.1 full says.1) only.1 says.2 more small in
        let is = append_assoc own o.more (o.rest ++ left) ∙ ap (λ l. own ++ l) (sym (append_assoc o.more o.rest left) ∙ ap (λ l. l ++ left) (sym o.bytes_are)) in
        let u = only.2 (own ++ o.more) o.names (o.rest ++ left) cs o.opens (is ∙ e) in
        o.locked others left ds xs (q ∙ ap (λ l. l ++ xs) (sym u.2)) m (subst (λ l. AreChecked F (ds ++ others) l) (sym u.1) a)

    follow : (ds : List Due) {all : List ℕ} → AreChecked F (one x ∷ (ds ++ others)) all → own ++ (bs ++ left) ≡ all → Match ps (due_names ds) → Locked others left (qs ++ ps) bs
    follow ds {all} (empty z a) e m =
        let k : HasKind F x no_bytes = inl (z, refl) in
        let s = subst (λ (k : Kind). Says F k j own qs) (kind_one F says.1 k) says.2 in
        let b : bs ++ left ≡ all = ap (λ o. o ++ (bs ++ left)) (sym s.1) ∙ e in
        subst (λ (l : List Part). Locked others left (l ++ ps) bs) (sym s.2) (due ds m (subst (λ l. AreChecked F (ds ++ others) l) (sym b) a))
    follow ds {all} (plain {bs = cs} front parts full needs only a) e m = opened full only e (map one parts ++ ds) (due_names ds) (due_parts parts ds) m (subst (λ (l : List Due). AreChecked F l cs) (sym (append_assoc (map one parts) ds others)) a)
    follow ds {all} (collection {e = y} {k = k} front n keys p only a) e m = opened (full_list F keys.0) only e (ascending y k n None ∷ ds) (due_names ds) refl m a
    follow ds {all} (packed front n set size rise only a) e m = opened (full_list F set.0) only e ds (due_names ds) refl m a

  module _ {others : List Due} {left : List ℕ} where
    -- behind the own bytes of the first part
    onward : {x all own bs : List ℕ} {j : Json} {qs ps : List Part} → Locked others left ((x, j) ∷ ps) all → SaysFirst F x j own qs → HaveBytes F (qs ++ ps) bs → AreBytes (own ++ bs) → all ≡ own ++ bs → Locked others left (qs ++ ps) bs
    onward {all = all} {own = own} {bs = bs} (due ds m a) s h small e =
        let r = reached m ds others (all ++ left) refl a in
        follow others left s h small r.0 r.2 (sym (ap (λ l. l ++ left) e ∙ append_assoc own bs left)) r.1
    onward {own = own} {bs = bs} {ps = ps} (number {bs = cs} n front c l k) s h small e =
        let t = number_said n c s in
        let q = same_front front own cs bs e (l ∙ sym t.0) in
        subst (λ (l : List Part). Locked others left (l ++ ps) bs) (sym t.1) (subst (λ b. Locked others left ps b) q.1 k)

    -- all parts are passed, and so is what was due of their bytes
    passed : {ps : List Part} {bytes : List ℕ} → HaveBytes F ps bytes → Locked others left ps bytes → AreBytes bytes → AreChecked F others left
    passed none_left (due ds m a) small = reached m ds others left refl a
    passed (next_part {bs = bs} kind own qs h s r) k small = passed r (onward k (kind, h, s) r small refl) (behind own bs small)

  -- ---- elements that ascend
  pub longer : {ts : List Compared} {bs cs : List ℕ} (more most : List ℕ) → IsAtLeast F ts bs cs → IsAtLeast F ts (bs ++ more) (cs ++ most)
  longer more most all_equal = all_equal
  longer more most (first_above {t = t} {ts = ts} l r bs cs us f) = moved F {ts = t ∷ ts} refl (sym (append_assoc l bs more)) (sym (append_assoc r cs most)) (first_above l r (bs ++ more) (cs ++ most) us f)
  longer more most (first_equal {t = t} {ts = ts} {bs = bs} {cs = cs} l r us f h) = moved F {ts = t ∷ ts} refl (sym (append_assoc l bs more)) (sym (append_assoc r cs most)) (first_equal l r us f (longer more most h))

  longer_keys : (k xs ys more : List ℕ) → IsAtLeast F (a_value k ∷ []) (xs ++ ys) ys → IsAtLeast F (a_value k ∷ []) (xs ++ (ys ++ more)) (ys ++ more)
  longer_keys k xs ys more h = subst (λ l. IsAtLeast F (a_value k ∷ []) l (ys ++ more)) (append_assoc xs ys more) (longer more more h)

  -- two neighbours have these bytes, and the key of the second is above that of the first
  abbrev AreAbove : List ℕ → Part → Part → Type 0
  AreAbove k p q =
      (xs : List ℕ) × (ys : List ℕ) × (tail : List ℕ) × HaveBytes F (p ∷ []) xs × HaveBytes F (q ∷ []) ys
      × (IsAtLeast F (a_value k ∷ []) (xs ++ (ys ++ tail)) (ys ++ tail) → ⊥)

  module _ (e k : List ℕ) (ds : List Due) (left : List ℕ) where
    -- one element is passed
    up : (q : Part) (qs : List Part) (n : ℕ) (b : Option (List ℕ)) (bytes : List ℕ) → q.0 ≡ e → HaveBytes F (q ∷ qs) bytes → AreBytes bytes → AreChecked F (ascending e k (suc n) b ∷ ds) (bytes ++ left) → (xs : List ℕ) × (ys : List ℕ) × HaveBytes F (q ∷ []) xs × HaveBytes F qs ys × (bytes ≡ xs ++ ys) × AreChecked F (ascending e k n (Some (bytes ++ left)) ∷ ds) (ys ++ left)
    up q qs n b bytes same h small a =
        let t = split F h (q ∷ []) qs refl in
        let others : List Due = ascending e k n (Some (bytes ++ left)) ∷ ds in
        let m : Match (q ∷ []) (e ∷ []) = subst (λ y. Match (q ∷ []) (y ∷ [])) same (named_so {x = q.0} {j = q.1} no_names) in
        let c = subst (λ l. AreChecked F (one e ∷ others) l) (ap (λ l. l ++ left) t.4 ∙ append_assoc t.0 t.1 left) (next a).1 in
        (t.0, t.1, t.2, t.3, t.4, passed t.2 (due (one e ∷ []) m c) (before t.0 t.1 (subst (λ b. AreBytes b) t.4 small)))

    climb : (front : List Part) (p q : Part) (after : List Part) (b : Option (List ℕ)) (bytes : List ℕ) → AreNamed e (front ++ p ∷ q ∷ after) → HaveBytes F (front ++ p ∷ q ∷ after) bytes → AreBytes bytes → AreChecked F (ascending e k (length (front ++ p ∷ q ∷ after)) b ∷ ds) (bytes ++ left) → AreAbove k p q
    climb [] p q after b bytes same h small a =
        let t = up p (q ∷ after) (suc (length after)) b bytes same.0 h small a in
        let s = split F t.3 (q ∷ []) after refl in
        let f = (next t.5).0 in
        let is : t.1 ++ left ≡ s.0 ++ (s.1 ++ left) = ap (λ l. l ++ left) s.4 ∙ append_assoc s.0 s.1 left in
        let all : bytes ++ left ≡ t.0 ++ (s.0 ++ (s.1 ++ left)) = ap (λ l. l ++ left) t.4 ∙ append_assoc t.0 t.1 left ∙ ap (λ l. t.0 ++ l) is in
        (t.0, s.0, s.1 ++ left, t.2, s.2, λ c. f (subst (λ l. IsAtLeast F (a_value k ∷ []) (bytes ++ left) l) (sym is) (subst (λ l. IsAtLeast F (a_value k ∷ []) l (s.0 ++ (s.1 ++ left))) (sym all) c)))
    climb (o ∷ front) p q after b bytes same h small a =
        let t = up o (front ++ p ∷ q ∷ after) (length (front ++ p ∷ q ∷ after)) b bytes same.0 h small a in
        climb front p q after (Some (bytes ++ left)) t.1 same.1 t.3 (behind t.0 t.1 (subst (λ b. AreBytes b) t.4 small)) t.5

  -- ---- a list as an array
  -- a list of any length has its count in four bytes
  pub in_four : (l : Lengths) (d e : List ℕ) → sequence 4 0 4294967295 e ≡ sequence l.width l.least l.greatest d → (k : ℕ) (cs own : List ℕ) → IsPrefixed l k cs own → (k ≤ 4294967295) × (own ≡ tag 4 (pos k) ++ cs)
  in_four l d e q k cs own p =
      let w : l.width ≡ 4 = cc in
      let g : l.greatest ≡ 4294967295 = cc in
      (subst (λ n. k ≤ n) g p.1, p.2 ∙ ap (λ w. tag w (pos k) ++ cs) w)

  pub array_counts : (x e : List ℕ) (kind : Kind) (j : Json) (items : Items) (own : List ℕ) (qs : List Part) → HasKind F x kind → IsList F x e → IsListKind kind → j ≡ array items → Says F kind j own qs → (length qs ≤ 4294967295) × (own ≡ tag 4 (pos (length qs)) ++ [])
  array_counts x e kind j items own qs h c (l, d, inl k) a s =
      let f = form_known F (list l d) (sequence 4 0 4294967295 e) (subst (λ (k : Kind). HasKind F x k) k h) c (λ z. cc) in
      let t = subst (λ (k : Kind). Says F k j own qs) k s in
      in_four l d e f (length qs) [] own t.3
  array_counts x e kind j items own qs h c (l, d, inr k) a s =
      let f = form_known F (byte_list l d) (sequence 4 0 4294967295 e) (subst (λ (k : Kind). HasKind F x k) k h) c (λ z. cc) in
      elim (subst (λ (k : Kind). Says F k j own qs) k s) [
        | inl t ↦ (let q : array items ≡ string _ = sym a ∙ t.1.1 in cc)
        | inr t ↦ in_four l d e f.0 (length qs) [] own t.3
      ]

  -- ---- nothing falls
  pub falls_list : {x : List ℕ} {j : Json} {index : ℕ} → Falls F x j index → (e : List ℕ) × IsList F x e
  falls_list (inl d) = (d.1, d.7.0)
  falls_list (inr f) = (f.e, f.keys.0)

  -- a byte is in its list
  bytes_packed : {x : List ℕ} (l : Lengths) (d e : List ℕ) → HasKind F x (byte_list l d) → IsList F x e → packed_size (C e) ≡ 0 → ⊥
  bytes_packed l d e h c p =
      let f = form_known F (byte_list l d) (sequence 4 0 4294967295 e) h c (λ z. cc) in
      let same : d ≡ e = (let q = f.0 in cc) in
      let q : 0 ≡ 1 = sym p ∙ ap (λ d. packed_size d) (shaped (F e) (subst (λ e. IsByte F e) same f.1).1) in
      omega (arith, q)

  -- an element that falls isn't above the one before it
  fallen : {x : List ℕ} {j : Json} {index : ℕ} (f : ItemsFall F x j index) (k : List ℕ) → f.k ≡ k → AreAbove k (f.e, f.left) (f.e, f.right) → ⊥
  fallen f k key r =
      let c = subst (λ k. IsAtLeast F (a_value k ∷ []) (f.first ++ f.second) f.second) key f.falls in
      let d = subst (λ ys. IsAtLeast F (a_value k ∷ []) (r.0 ++ ys) ys) (bytes_one F f.right_says r.4) (subst (λ xs. IsAtLeast F (a_value k ∷ []) (xs ++ f.second) f.second) (bytes_one F f.left_says r.3) c) in
      r.5 (longer_keys k r.0 r.1 r.2 d)

  module _ (left : List ℕ) (ps : List Part) {x : List ℕ} {j : Json} {own bs : List ℕ} {qs : List Part} (says : SaysFirst F x j own qs) (more : HaveBytes F (qs ++ ps) bs) (small : AreBytes (own ++ bs)) (index : ℕ) where
    -- elements that come next
    items_rise : ItemsFall F x j index → {e k front cs : List ℕ} {n : ℕ} {ds : List Due} → HasKeys F x e k → packed_size (C e) ≡ 0 → IsOnly F x front (replicate n e) → AreChecked F (ascending e k n None ∷ ds) cs → own ++ (bs ++ left) ≡ front ++ cs → ⊥
    items_rise f {e} {k} {front} {cs} {n} {ds} keys p only a eq =
        let said = items_said F x j index says.0 own qs f says.1 says.2 in
        let o = array_counts x e says.0 j f.items own qs says.1 keys.0 said.0 f.is_array says.2 in
        let u = only_one (sequence 4 0 4294967295 e) keys.0 only own (replicate (length qs) e) (bs ++ left) cs (elements_open 4 0 4294967295 e (length qs) own p (omega arith) o.0 o.1) eq in
        let same : f.e ≡ e = list_element F x e 4 0 4294967295 keys.0 f.e f.keys.0 in
        let key : f.k ≡ k = keys_one F x f.e e f.k k f.keys keys in
        let count : n ≡ length qs = sym (length-replicate n e) ∙ ap (λ (l : List (List ℕ)). length l) (sym u.2) ∙ length-replicate (length qs) e in
        let t = split F more qs ps refl in
        let is : cs ≡ t.0 ++ (t.1 ++ left) = sym u.1 ∙ ap (λ l. l ++ left) t.4 ∙ append_assoc t.0 t.1 left in
        let parts : qs ≡ f.before ++ (f.e, f.left) ∷ (f.e, f.right) ∷ f.after = said.1 ∙ f.parts in
        let all_e : AreNamed e qs = subst (λ (l : List Part). AreNamed e l) (sym said.1) (subst (λ y. AreNamed y (list_parts f.e f.items)) same (list_named f.e f.items)) in
        let there = subst (λ n. AreChecked F (ascending e k n None ∷ ds) (t.0 ++ (t.1 ++ left))) count (subst (λ l. AreChecked F (ascending e k n None ∷ ds) l) is a) in
        let fine = before t.0 t.1 (subst (λ b. AreBytes b) t.4 (behind own bs small)) in
        let r = climb e k ds (t.1 ++ left) f.before (f.e, f.left) (f.e, f.right) f.after None t.0 (subst (λ (l : List Part). AreNamed e l) parts all_e) (subst (λ (l : List Part). HaveBytes F l t.0) parts t.2) fine (subst (λ (l : List Part). AreChecked F (ascending e k (length l) None ∷ ds) (t.0 ++ (t.1 ++ left))) parts there) in
        fallen f k key r

    module _ (cs : List ℕ) {e front : List ℕ} (n : ℕ) (set : IsSet F x e) (size : F e ≡ Some (primitive (suc n))) (rise : (i : ℕ) → PrimitivesDescend F e (suc n) (drop 4 front) i → ⊥) (only : IsOnly F x front []) (eq : own ++ (bs ++ left) ≡ front ++ cs) where
      -- numbers as an array
      numbers_rise : ItemsFall F x j index → ⊥
      numbers_rise f =
          let said = items_said F x j index says.0 own qs f says.1 says.2 in
          let o = array_counts x e says.0 j f.items own qs says.1 set.0 said.0 f.is_array says.2 in
          let same : f.e ≡ e = list_element F x e 4 0 4294967295 set.0 f.e f.keys.0 in
          let keys : HasKeys F x e e = (set.0, inl (set.1, refl)) in
          let key : f.k ≡ e = keys_one F x f.e e f.k e f.keys keys in
          let t = split F more qs ps refl in
          let p : Part = (f.e, f.left) in
          let q : Part = (f.e, f.right) in
          let parts : qs ≡ f.before ++ p ∷ q ∷ f.after = said.1 ∙ f.parts in
          let all_e : AreNamed e qs = subst (λ (l : List Part). AreNamed e l) (sym said.1) (subst (λ y. AreNamed y (list_parts f.e f.items)) same (list_named f.e f.items)) in
          let v = numbers_said e n size qs all_e t.2 in
          let is : own ++ t.0 ≡ tag 4 (pos (length qs)) ++ t.0 = ap (λ b. b ++ t.0) (o.1 ∙ append-nil (tag 4 (pos (length qs)))) in
          let there : (own ++ t.0) ++ (t.1 ++ left) ≡ own ++ (bs ++ left) = append_assoc own t.0 (t.1 ++ left) ∙ ap (λ l. own ++ l) (sym (append_assoc t.0 t.1 left) ∙ ap (λ l. l ++ left) (sym t.4)) in
          let fine = before (own ++ t.0) t.1 (subst (λ b. AreBytes b) (ap (λ b. own ++ b) t.4 ∙ sym (append_assoc own t.0 t.1)) small) in
          let u = only_one (sequence 4 0 4294967295 e) set.0 only (own ++ t.0) [] (t.1 ++ left) cs (numbers_open 4 0 4294967295 e n (length qs) (own ++ t.0) t.0 size (omega arith) o.0 is v.0 fine) (there ∙ eq) in
          let body : drop 4 front ≡ t.0 = ap (λ b. drop 4 b) (sym u.0 ∙ is) in
          let a = split F t.2 f.before (p ∷ q ∷ f.after) parts in
          let b = split F a.3 (p ∷ []) (q ∷ f.after) refl in
          let c = split F b.3 (q ∷ []) f.after refl in
          let passed_by = (numbers_said e n size f.before (named_front e f.before (p ∷ q ∷ f.after) (subst (λ (l : List Part). AreNamed e l) parts all_e)) a.2).0 in
          let one_is = (numbers_said e n size (p ∷ []) (same, tt) b.2).0 in
          let two_is = (numbers_said e n size (q ∷ []) (same, tt) c.2).0 in
          let first_is = bytes_one F b.2 f.left_says in
          let second_is = bytes_one F c.2 f.right_says in
          let i = f.index_is in
          let w = suc-mul 0 (suc n) in
          let z = zero-mul (suc n) in
          let one_n : 1 * suc n ≡ suc n = omega (arith, w, z) in
          let one_long : length f.first ≡ suc n = ap (λ l. length l) (sym first_is) ∙ one_is ∙ one_n in
          let two_long : length f.second ≡ suc n = ap (λ l. length l) (sym second_is) ∙ two_is ∙ one_n in
          let falls = subst (λ k. IsAtLeast F (a_value k ∷ []) (f.first ++ f.second) f.second) key f.falls in
          let alone = packed_alone F e n size f.first f.second f.second [] one_long two_long (subst (λ r. IsAtLeast F (a_value e ∷ []) (f.first ++ f.second) r) (sym (append-nil f.second)) falls) in
          let at : length f.before ≡ index - 1 = omega (arith, i) in
          rise index (subst (λ l. PrimitivesDescend F e (suc n) l index) (sym body) (record {
            before = a.0;
            first = f.first;
            second = f.second;
            after = c.1;
            some = omega (arith, i);
            passed = passed_by ∙ ap (λ i. i * suc n) at;
            bytes_are = a.4 ∙ ap (λ l. a.0 ++ l) (b.4 ∙ ap (λ l. l ++ b.1) first_is ∙ ap (λ l. f.first ++ l) (c.4 ∙ ap (λ l. l ++ c.1) second_is));
            first_is = one_long;
            second_is = two_long;
            falls = alone;
          }))

      -- bytes as digits
      digits_rise : DigitsFall F x j index → ⊥
      digits_rise d =
          let f = form_known F (byte_list d.0 d.1) (sequence 4 0 4294967295 e) d.6 set.0 (λ z. cc) in
          let same : d.1 ≡ e = list_element F x e 4 0 4294967295 set.0 d.1 d.7.0 in
          let byte = subst (λ e. IsByte F e) same f.1 in
          elim (subst (λ (k : Kind). Says F k j own qs) (kind_one F says.1 d.6) says.2) [
            | inl s ↦ (let o = in_four d.0 d.1 e f.0 (length s.0) s.0 own s.2 in
                let u = only_one (sequence 4 0 4294967295 e) set.0 only own [] (bs ++ left) cs (numbers_open 4 0 4294967295 e 0 (length s.0) own s.0 byte.1 (omega arith) o.0 o.1 (omega arith) (before own bs small)) eq in
                let body : drop 4 front ≡ s.0 = ap (λ b. drop 4 b) (sym u.0 ∙ o.1) in
                let g : Some (primitive (suc n)) ≡ Some (primitive 1) = sym size ∙ byte.1 in
                let num : suc n ≡ 1 = cc in
                let fine = behind (tag 4 (pos (length s.0))) s.0 (subst (λ b. AreBytes b) o.1 (before own bs small)) in
                let falls = bytes_descend F e byte d.2 d.5 s.0 d.3 d.4 index fine (hex_one s.1 d.8) d.9 d.10 in
                rise index (subst (λ l. PrimitivesDescend F e (suc n) l index) (sym body) (subst (λ n. PrimitivesDescend F e n s.0 index) (sym num) falls)))
            | inr s ↦ (let q : array s.0 ≡ string _ = sym s.1 ∙ d.8.1 in cc)
          ]

    none_falls : {all : List ℕ} {ds : List Due} → Falls F x j index → AreChecked F (one x ∷ ds) all → own ++ (bs ++ left) ≡ all → ⊥
    none_falls f (empty z a) e = full_list F (falls_list f).1 z
    none_falls (inl d) (plain front parts full needs only a) e = needs (byte_list d.0 d.1) d.6 (d.0, d.1, inr refl) d.1 d.1 (d.7.0, inl (d.7.1, refl))
    none_falls (inr f) (plain front parts full needs only a) e = needs says.0 says.1 (items_said F x j index says.0 own qs f says.1 says.2).0 f.e f.k f.keys
    none_falls (inl d) (collection {e = y} front n keys p only a) e = bytes_packed d.0 d.1 y d.6 keys.0 p
    none_falls (inr f) (collection front n keys p only a) e = items_rise f keys p only a e
    none_falls (inl d) (packed {bs = cs} front n set size rise only a) e = digits_rise cs n set size rise only e d
    none_falls (inr f) (packed {bs = cs} front n set size rise only a) e = numbers_rise cs n set size rise only e f

  module _ {others : List Due} {left : List ℕ} where
    rises : {x all own bs : List ℕ} {j : Json} {qs ps : List Part} → Locked others left ((x, j) ∷ ps) all → SaysFirst F x j own qs → HaveBytes F (qs ++ ps) bs → AreBytes (own ++ bs) → all ≡ own ++ bs → (index : ℕ) → Falls F x j index → ⊥
    rises {all = all} {own = own} {bs = bs} {ps = ps} (due ds m a) s h small e index f = none_falls left ps s h small index f (reached m ds others (all ++ left) refl a).2 (sym (ap (λ l. l ++ left) e ∙ append_assoc own bs left))
    rises {x = x} (number n front c l k) s h small e index f = clash (F x) c (falls_list f).1 (λ q. cc)

    all_in_order : {ps : List Part} {bytes : List ℕ} → HaveBytes F ps bytes → Locked others left ps bytes → AreBytes bytes → AreInOrder F ps
    all_in_order none_left k small = tt
    all_in_order (next_part {x = x} {bs = bs} {j = j} {ps = ps} kind own qs h s r) k small =
        let t = all_in_order r (onward k (kind, h, s) r small refl) (behind own bs small) in
        let d = divided F (λ x i. (index : ℕ) → Falls F x i index → ⊥) qs ps t in
        (whole_in_order F x j own qs (kind, h, s) d.0 (rises k (kind, h, s) r small refl), d.1)

  -- JSON that says bytes that were checked has what has to ascend in order
  pub in_order : (root : List ℕ) (j : Json) (bytes : List ℕ) → AreBytes bytes → HaveBytes F ((root, j) ∷ []) bytes → AreChecked F (one root ∷ []) bytes → InOrder F root j
  in_order root j bytes small h a = (all_in_order {others = []} {left = []} h (due (one root ∷ []) (named_so no_names) (subst (λ l. AreChecked F (one root ∷ []) l) (sym (append-nil bytes)) a)) small).0
