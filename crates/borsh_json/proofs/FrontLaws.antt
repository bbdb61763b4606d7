-- The JSON of a value of which the beginning was written: what it says, with any that may follow.
use Rattle.std.proofs.{Common.{◌≡◌, inr, ℕ, suc, zero, ◌≤◌, List, [], ◌∷◌, ◌++◌, length, map, replicate, Option, Some, None, refl, sym, ◌∙◌, ap, subst, arith, append-nil, ℤ, pos, bytes_eq, Less}, lemmas.Cmp.{nat_list_cmp_total, int_cmp_total}, lemmas.List.Sorted.{IsPermutation-refl}}
use Rattle.std.specs.{List.{AllByRecursion, IsDistinct}, List.Sorted.{IsStrictlySortedBy}, Str.Parse.{signed_digits_value}}
use Rattle.json.specs.{Token.{Token}, Json.{Json, null, array, object, Items, Members, no_members, member}, Tree.{json_tokens}}
use Rattle.borsh_walks.specs.Container.{tag}
use Rattle.borsh_json.specs.{declared.output.LongNumbers.{LongNumbers}, declared.output.Output.{Output}, Forms.{Form, HasNoBytes}, Frames.{Wanted, AreNext}, Leaves.{Adds, long_of, AreWritten}, Represents.{HaveBytes}, Table.{Lengths, Keys, texts, numbers, Kind, list, row, inner, fields, optional, variants, entries, HasKind, Part, row_parts, list_parts, field_parts, Entry, entries_of, key_order, IsVariant, Says}, Writes.{Rest, items_rest, members_rest, value_rest, entries_rest, AreMembers, AreAbove, IsFront, WritesFront}}
use Rattle.borsh_json.proofs.{FieldLaws.{keys_of, next_all}, FormKinds.{form_found}, FrameLaws.{length_map}, NullLaws.{may_be_null}, OpeningLaws.{list_row, list_length, row_fits, some_one}, ReaderLaws.{field_back}, WrittenLaws.{next_written}}

-- ---- the parts of what follows
pub copies : {A : Type 0} (n : ℕ) (x : A) → length (replicate n x) ≡ n
copies zero x = refl
copies (suc n) x = ap suc (copies n x)

-- items of so many copies of a name
listed : (k : ℕ) (e : List ℕ) (js : Items) (qs : List Part) → row_parts (replicate k e) js ≡ Some qs → (qs ≡ list_parts e js) × (length qs ≡ k)
listed k e js qs r =
    let n : length (list_parts [] js) ≡ k = row_fits (replicate k e) js qs r ∙ copies k e in
    let p : qs ≡ list_parts e js = some_one (list_parts e js) qs (sym (list_row e js) ∙ ap (λ i. row_parts (replicate i e) js) n ∙ r) in
    (p, ap (λ l. length l) p ∙ list_length e js ∙ n)

-- members in the order of the fields
member_keys : (ws : List Wanted) (ms : Members) (qs : List Part) → AreMembers ws ms qs → keys_of ms ≡ map (λ (w : Wanted). w.0) ws
member_keys [] ms qs a = ap (λ ms. keys_of ms) a.0
member_keys (w ∷ ws) ms qs a = ap (λ ms. keys_of ms) a.3 ∙ ap (λ l. w.0 ∷ l) (member_keys ws a.1 a.2 a.5)

member_found : (ws : List Wanted) (rest ms : Members) (qs : List Part) → AreNext ws rest ms → AreMembers ws rest qs → field_parts ws ms ≡ Some qs
member_found [] rest ms qs n a = ap (λ l. Some l) (sym a.1)
member_found (w ∷ ws) rest ms qs n a =
    let e : member w.0 n.0 n.1 ≡ member w.0 a.0 a.1 = sym n.2 ∙ a.3 in
    let i : n.0 ≡ a.0 = cc in
    let r : n.1 ≡ a.1 = cc in
    let f = member_found ws a.1 ms a.2 (subst (λ (m : Members). AreNext ws m ms) r n.4) a.5 in
    field_back w ws ms a.0 a.2 (n.3 ∙ ap (λ j. Some j) i) f ∙ ap (λ l. Some l) (sym a.4)

named : (ws : List Wanted) (ms : Members) (qs : List Part) → IsDistinct bytes_eq (map (λ (w : Wanted). w.0) ws) → AreMembers ws ms qs → (length (entries_of ms) ≡ length ws) × (field_parts ws ms ≡ Some qs)
named ws ms qs d a =
    let k = member_keys ws ms qs a in
    let m = length_map (λ (e : List ℕ × Json). e.0) (entries_of ms) in
    let n = length_map (λ (w : Wanted). w.0) ws in
    let l = ap (λ xs. length xs) k in
    (omega (arith, l, m, n), member_found ws ms ms qs (next_all ws ms d k) a)

-- keys one above the other
less_any : (keys : Keys) (s t : List ℕ) (i j k l : Json) → key_order keys (s, i) (t, j) ≡ Less → key_order keys (s, k) (t, l) ≡ Less
less_any texts s t i j k l e = e
less_any (numbers n) s t i j k l e = e

less_on : (keys : Keys) (a b c : Entry) → key_order keys a b ≡ Less → key_order keys b c ≡ Less → key_order keys a c ≡ Less
less_on texts a b c e f = nat_list_cmp_total.trans a.0 b.0 c.0 e f
less_on (numbers n) a b c e f = int_cmp_total.trans (signed_digits_value 10 a.0) (signed_digits_value 10 b.0) (signed_digits_value 10 c.0) e f

above : (keys : Keys) (a : Entry) (es : List Entry) → AreAbove keys (Some a.0) es → AllByRecursion (λ e. key_order keys a e ≡ Less) es
above keys a [] h = tt
above keys a (e ∷ es) h =
    let l : key_order keys a e ≡ Less = less_any keys a.0 e.0 null null a.1 e.1 h.0 in
    (l, onward keys a e l es (above keys e es h.1))
  where
    onward : (keys : Keys) (a e : Entry) → key_order keys a e ≡ Less → (es : List Entry) → AllByRecursion (λ f. key_order keys e f ≡ Less) es → AllByRecursion (λ f. key_order keys a f ≡ Less) es
    onward keys a e l [] h = tt
    onward keys a e l (f ∷ es) h = (less_on keys a e f l h.0, onward keys a e l es h.1)

rising : (keys : Keys) (last : Option (List ℕ)) (es : List Entry) → AreAbove keys last es → IsStrictlySortedBy (key_order keys) es
unfolding IsStrictlySortedBy
rising keys last [] h = tt
rising keys last (e ∷ es) h = (above keys e es h.1, rising keys (Some e.0) es h.1)

module _ (F : List ℕ → Option Form) (x own : List ℕ) where
  pub front_written : (r : Rest) (front : List Token) (old new : Output) → IsFront F (long_of old) x own r front → Adds front old new → WritesFront F x own r old new
  front_written r front old new w a = record { front = front; adds = a; whole = w }

  -- ---- a bracket, or nothing, and then what may follow
  items_front : {long : LongNumbers} (xs : List (List ℕ)) (kind : Kind) → HasKind F x kind → ((js : Items) (qs : List Part) → row_parts xs js ≡ Some qs → Says F kind (array js) own qs) → IsFront F long x own (items_rest xs) (Token.begin_array ∷ [])
  items_front xs kind h s n ts qs ps bs m b = (array m.0, ap (λ l. Token.begin_array ∷ l) (sym m.1), m.3, (let d = m.4 in omega (arith, d)), next_written F kind own qs h (s m.0 qs m.2) (λ e s q. cc) b)

  members_front : {long : LongNumbers} (ws : List Wanted) (kind : Kind) → HasKind F x kind → ((ms : Members) (qs : List Part) → AreMembers ws ms qs → Says F kind (object ms) own qs) → IsFront F long x own (members_rest ws) (Token.begin_object ∷ [])
  members_front ws kind h s n ts qs ps bs m b = (object m.0, ap (λ l. Token.begin_object ∷ l) (sym m.1), m.3, (let d = m.4 in omega (arith, d)), next_written F kind own qs h (s m.0 qs m.2) (λ e s q. cc) b)

  value_front : {long : LongNumbers} (p : List ℕ) → ((j : Json) (ps : List Part) (bs : List ℕ) → AreWritten F long ((p, j) ∷ ps) bs → AreWritten F long ((x, j) ∷ ps) (own ++ bs)) → IsFront F long x own (value_rest (p ∷ [])) []
  value_front {long = long} p s n ts qs ps bs m b =
      let one = m.6 ∙ ap (λ l. (p, m.0) ∷ l) m.7.1 in
      (m.0, sym (m.5 ∙ ap (λ t. json_tokens m.0 ++ t) m.7.0 ∙ append-nil (json_tokens m.0)), m.3, (let d = m.4 in omega (arith, d)), s m.0 ps bs (subst (λ (l : List Part). AreWritten F long (l ++ ps) bs) one b))

  -- ---- each kind
  pub row_front : {long : LongNumbers} (xs : List (List ℕ)) → HasKind F x (row xs) → own ≡ [] → IsFront F long x own (items_rest xs) (Token.begin_array ∷ [])
  row_front xs h o = items_front xs (row xs) h (λ js qs r. (o, js, refl, r))

  pub newtype_front : {long : LongNumbers} (p : List ℕ) → HasKind F x (inner p) → own ≡ [] → IsFront F long x own (value_rest (p ∷ [])) []
  newtype_front p h o = value_front p (λ j ps bs b. next_written F (inner p) own ((p, j) ∷ []) h (o, refl) (λ e s q. ((λ a b k. cc), (λ f k. cc))) b)

  pub object_front : {long : LongNumbers} (fs : List Wanted) → HasKind F x (fields fs) → IsDistinct bytes_eq (map (λ (f : Wanted). f.0) fs) → own ≡ [] → IsFront F long x own (members_rest fs) (Token.begin_object ∷ [])
  object_front fs h d o = members_front fs (fields fs) h (λ ms qs m. let n = named fs ms qs d m in (d, o, ms, refl, n.0, n.1))

  pub list_front : {long : LongNumbers} (l : Lengths) (e : List ℕ) (k : ℕ) → HasKind F x (list l e) → l.least ≤ k → k ≤ l.greatest → own ≡ tag l.width (pos k) ++ [] → IsFront F long x own (items_rest (replicate k e)) (Token.begin_array ∷ [])
  list_front l e k h low high o = items_front (replicate k e) (list l e) h (λ js qs r.
      let p = listed k e js qs r in
      let n = p.1 in
      (js, refl, p.0, (omega (arith, n, low), omega (arith, n, high), o ∙ ap (λ i. tag l.width (pos i) ++ []) (sym n))))

  pub map_front : {long : LongNumbers} (l : Lengths) (keys : Keys) (k v e : List ℕ) (n : ℕ) → HasKind F x (entries l keys k v) → l.least ≤ n → n ≤ l.greatest → own ≡ tag l.width (pos n) ++ [] → IsFront F long x own (entries_rest keys k v e n None) (Token.begin_object ∷ [])
  map_front l keys k v e n h low high o d ts qs ps bs m b =
      let es = entries_of m.0 in
      let c = m.2 in
      let t : Says F (entries l keys k v) (object m.0) own qs = (m.0, es, refl, IsPermutation-refl es, rising keys None es m.3, (omega (arith, c, low), omega (arith, c, high), o ∙ ap (λ i. tag l.width (pos i) ++ []) (sym c)), m.4) in
      (object m.0, ap (λ l. Token.begin_object ∷ l) (sym m.1), m.5, (let i = m.6 in omega (arith, i)), next_written F (entries l keys k v) own qs h t (λ e s q. cc) b)

  -- an option's value is never `null`
  pub some_front : {long : LongNumbers} (p : List ℕ) → HasKind F x (optional p) → own ≡ 1 ∷ [] → IsFront F long x own (value_rest (p ∷ [])) []
  some_front p h o =
      let f = form_found F (optional p) h (λ e. cc) in
      value_front p (λ j ps bs b. next_written F (optional p) own ((p, j) ∷ []) h (inr ((λ z. f.2.1 (may_be_null F 128 p ps bs (subst (λ (j : Json). HaveBytes F ((p, j) ∷ ps) bs) z b.0))), o, refl)) (λ e s q. ((λ a b k. cc), (λ f k. cc))) b)

  pub variant_front : {long : LongNumbers} (w : ℕ) (vs : List (ℤ × List ℕ × List ℕ)) (k : ℤ) (v p : List ℕ) → HasKind F x (variants w vs) → IsDistinct bytes_eq (map (λ (v : ℤ × List ℕ × List ℕ). v.1) vs) → IsVariant k v p vs → (HasNoBytes F p → ⊥) → own ≡ tag w k → IsFront F long x own (members_rest ((v, p) ∷ [])) (Token.begin_object ∷ [])
  variant_front w vs k v p h d i z o = members_front ((v, p) ∷ []) (variants w vs) h (λ ms qs m.
      let none = m.5 in
      let one : object ms ≡ object (member v m.0 no_members) = ap object (m.3 ∙ ap (λ r. member v m.0 r) none.0) in
      (d, k, v, p, i, o, inr (m.0, one, z, m.4 ∙ ap (λ l. (p, m.0) ∷ l) none.1)))
