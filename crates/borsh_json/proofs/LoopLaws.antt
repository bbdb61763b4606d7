-- The reader's next part.
use Rattle.std.proofs.Common.{◌≡◌, inl, ℕ, suc, zero, ◌+◌, ◌-◌, ◌<◌, List, [], ◌∷◌, ◌++◌, length, map, false, Option, Some, None, refl, sym, ◌∙◌, ap, subst, arith, append_assoc, append-nil, length-append, IsSome, MatchOption, Result, Ok, Err, MatchResult, slice_get, Bor, bytes_eq}
use Rattle.std.specs.List.{IsDistinct, list_any}
use Rattle.json.specs.{Token.{Token}, Json.{Json, object, Items, no_items, item, Members}, Find.{BeginsWith, get_member}}
use Rattle.borsh_plan.specs.declared.named.Named.{Named}
use Rattle.borsh_json.specs.{declared.error.ReadError.{ReadError}, declared.kinds.Entries.{Entries as FoundEntries}, declared.parts.Next.{Next}, declared.parts.Next.TheVariants.{Part, Missing, End}, declared.position.Key.{Key}, declared.position.Key.TheVariants.{None as NoKey, Name, Entry as EntryOf}, declared.position.Parts.{Parts}, declared.position.Parts.TheVariants.{Root, List as Elements, Row, Object, Entries as MapEntries, Newtype, Some as Present, Variant}, declared.position.Part.{Part as FoundPart}, declared.position.Place.{Place}, declared.sources.Source.{Source}, Forms.{Form, form_of, field_bytes}, Frames.{FailsRead, name_step, first_steps, last_steps, steps_at, Left, items_left, fields_left, entries_left, Wanted, IsWanted, IsObject, IsMapPlace, IsKey, HasItems, HasFields, HasEntries, NoneLeft, IsLeft, AreEntriesOf, HasLeft, SaysOn, IsPlaceOf, IsPlaceIn, IsDoing, SaysAll, IsNext, DeniesKey, IsNextEntry}, InOrder.{field as field_step, place as place_step, element as element_step, AreSteps}, NoValue.{SaysOwn, LacksField, HasOther}, Places.{IsAt, AreKeysOf}, Represents.{SaysFirst, HaveBytes, none_left, next_part}, Table.{Keys, Kind, inner, fields, HasKind, Part as JsonPart, row_parts, field_parts, Entry, key_json, entry_parts, Says}}
use Rattle.borsh_json.proofs.{EachLaws.{fields_only}, ReaderLaws.{object_one, fields_joined, fields_count}, RepresentsLaws.{kind_one}, StepLaws.{item_front, fields_end, left_there, items_left_none, entries_left_none, no_row, no_entries}}

-- a key that isn't that of an entry is of no map
no_map : (p : Parts) (key : Key) (f : List ℕ) → ((es : FoundEntries) → key ≡ EntryOf es → ⊥) → IsKey p key f → IsMapPlace p → ⊥
no_map (MapEntries es c) key f n k m = n es k
no_map parts key f n k m = absurd m

map_place : (F : List ℕ → Option Form) (ns : List Named) (p : Parts) (s : Source) (keys : Keys) (k v : List ℕ) (es : List Entry) → AreEntriesOf F ns p s keys k v es → IsMapPlace p
map_place F ns (MapEntries m c) s keys k v es a = tt
map_place F ns parts s keys k v es a = absurd a

-- the field's name
field_is : (p : Parts) (key : Key) (f field : List ℕ) → ((name : Bor (List ℕ)) → key ≡ Name name → field ≡ name.now) → IsObject p → IsKey p key f → field ≡ f
field_is (Object at fs) key f field n o k = n k.0 k.1 ∙ k.2
field_is parts key f field n o k = absurd o

no_rows : (x : List ℕ) (xs : List (List ℕ)) (ps : List JsonPart) → row_parts (x ∷ xs) no_items ≡ Some ps → ⊥
no_rows x xs ps e = cc

-- the key of an entry is of a map
of_map : (p : Parts) (key : Key) (f : List ℕ) (m : FoundEntries) → key ≡ EntryOf m → IsKey p key f → IsMapPlace p
of_map Root key f m e k = let q : NoKey ≡ EntryOf m = sym k ∙ e in cc
of_map (Elements at c) key f m e k = let q : NoKey ≡ EntryOf m = sym k ∙ e in cc
of_map (Row at c) key f m e k = let q : NoKey ≡ EntryOf m = sym k ∙ e in cc
of_map (Object at fs) key f m e k = let q : Name k.0 ≡ EntryOf m = sym k.1 ∙ e in cc
of_map (MapEntries es c) key f m e k = tt
of_map (Newtype at) key f m e k = let q : NoKey ≡ EntryOf m = sym k ∙ e in cc
of_map (Present at) key f m e k = let q : NoKey ≡ EntryOf m = sym k ∙ e in cc
of_map (Variant v at) key f m e k = let q : Name v ≡ EntryOf m = sym k ∙ e in cc

object_or_map : (p : Parts) → IsObject p → IsMapPlace p → ⊥
object_or_map (Object at fs) o m = m
object_or_map parts o m = o

module _ (F : List ℕ → Option Form) (ns : List Named) where
  -- the entries of the place are those of its key
  entries_here : (p : Parts) (key : Key) (f : List ℕ) (m : FoundEntries) (s : Source) (keys : Keys) (k v : List ℕ) (es : List Entry) → key ≡ EntryOf m → IsKey p key f → AreEntriesOf F ns p s keys k v es → IsAt ns m.key k × IsAt ns m.value v × AreKeysOf F ns k (form_of m.key_definition.now) m.key_kind keys × HasEntries m.key_kind s es × ((t : Source) (rest : List Entry) → HasEntries m.key_kind t rest → AreEntriesOf F ns p t keys k v rest)
  entries_here (MapEntries n c) key f m s keys k v es e q a =
      let r : EntryOf n ≡ EntryOf m = sym q ∙ e in
      let d : n ≡ m = cc in
      subst (λ (m : FoundEntries). IsAt ns m.key k × IsAt ns m.value v × AreKeysOf F ns k (form_of m.key_definition.now) m.key_kind keys × HasEntries m.key_kind s es × ((t : Source) (rest : List Entry) → HasEntries m.key_kind t rest → AreEntriesOf F ns (MapEntries n c) t keys k v rest)) d
      (a.0, a.1, a.2, a.3, λ t rest h. (a.0, a.1, a.2, h))
  entries_here parts key f m s keys k v es e q a = absurd a

no_length : (w : Wanted) (rest ws : List Wanted) (es : List Entry) → ws ≡ w ∷ rest → length ws ≡ length es → es ≡ [] → ⊥
no_length w rest ws es e l z = let a = ap (λ (l : List Wanted). length l) e in let b = ap (λ (l : List Entry). length l) z in absurd (omega (arith, a, b, l))

fewer : (w : Wanted) (rest ws : List Wanted) (e : Entry) (more es : List Entry) → ws ≡ w ∷ rest → length ws ≡ length es → es ≡ e ∷ more → length rest ≡ length more
fewer w rest ws e more es p l q = let a = ap (λ (l : List Wanted). length l) p in let b = ap (λ (l : List Entry). length l) q in omega (arith, a, b, l)

get_behind : (gs : List Wanted) (f : Wanted) (fs : List Wanted) → slice_get (gs ++ f ∷ fs) (length gs) ≡ Some f
get_behind [] f fs = refl
get_behind (g ∷ gs) f fs = get_behind gs f fs

pub fields_same : (fs gs : List Wanted) → fields fs ≡ fields gs → fs ≡ gs
fields_same fs gs e = cc

-- ---- one more part was begun
module _ (F : List ℕ → Option Form) (ns : List Named) where
  counted : (b c : ℕ) (ds : List JsonPart) (z : JsonPart) → c ≡ b + 1 → b ≡ length ds → c ≡ length (ds ++ z ∷ [])
  counted b c ds z e h = let l = length-append ds (z ∷ []) in omega (arith, l, e, h)

  begun_part : (p : Parts) (b c : ℕ) (kind : Kind) (i : Json) (ds : List JsonPart) (z : JsonPart) → (IsMapPlace p → ⊥) → c ≡ b + 1 → IsPlaceOf F ns p b kind i ds → IsPlaceOf F ns p c kind i (ds ++ z ∷ [])
  begun_part Root b c kind i ds z n e h = h
  begun_part (Elements at m) b c kind i ds z n e h = (h.0, counted b c ds z e h.1, h.2)
  begun_part (Row at m) b c kind i ds z n e h = (h.0, h.1, counted b c ds z e h.2)
  begun_part (Object at fs) b c kind i ds z n e h = (h.0, counted b c ds z e h.1)
  begun_part (MapEntries es m) b c kind i ds z n e h = absurd (n tt)
  begun_part (Newtype at) b c kind i ds z n e h = (h.0, h.1, counted b c ds z e h.2)
  begun_part (Present at) b c kind i ds z n e h = h
  begun_part (Variant v at) b c kind i ds z n e h = h

  -- of a map, behind its key
  begun_entry : (p : Parts) (b c : ℕ) (kind : Kind) (i : Json) (ds : List JsonPart) (k z : JsonPart) → IsMapPlace p → c ≡ b + 1 → IsPlaceOf F ns p b kind i ds → IsPlaceOf F ns p c kind i (ds ++ k ∷ z ∷ [])
  begun_entry (MapEntries es n) b c kind i ds k z m e h = (h.0, h.1, h.2, h.3, h.4, (let l = length-append ds (k ∷ z ∷ []) in let t = h.5 in omega (arith, l, e, t)))
  begun_entry parts b c kind i ds k z m e h = absurd m

  part_begun : (d : ℕ) (p q : Place) (x : List ℕ) (kind : Kind) (i : Json) (ds : List JsonPart) (z : JsonPart) → q.parts ≡ p.parts → q.begun ≡ p.begun + 1 → (IsMapPlace p.parts → ⊥) → IsPlaceIn F ns d p x kind i ds → IsPlaceIn F ns d q x kind i (ds ++ z ∷ [])
  part_begun zero p q x kind i ds z e b n h = (e ∙ h.0, h.1)
  part_begun (suc d) p q x kind i ds z e b n h = (h.0, subst (λ (t : Parts). IsPlaceOf F ns t q.begun kind i (ds ++ z ∷ [])) (sym e) (begun_part p.parts p.begun q.begun kind i ds z n b h.1))

  entry_begun : (d : ℕ) (p q : Place) (x : List ℕ) (kind : Kind) (i : Json) (ds : List JsonPart) (k z : JsonPart) → q.parts ≡ p.parts → q.begun ≡ p.begun + 1 → IsMapPlace p.parts → IsPlaceIn F ns d p x kind i ds → IsPlaceIn F ns d q x kind i (ds ++ k ∷ z ∷ [])
  entry_begun zero p q x kind i ds k z e b m h = (e ∙ h.0, h.1)
  entry_begun (suc d) p q x kind i ds k z e b m h = (h.0, subst (λ (t : Parts). IsPlaceOf F ns t q.begun kind i (ds ++ k ∷ z ∷ [])) (sym e) (begun_entry p.parts p.begun q.begun kind i ds k z m b h.1))

  -- the kind's JSON says it
  items_more : (kind : Kind) (i : Json) (own : List ℕ) (ds : List JsonPart) (y : List ℕ) (xs : List (List ℕ)) (k : Json) (js : Items) → SaysOn F ns kind i own ds (items_left (y ∷ xs) (item k js)) → SaysOn F ns kind i own (ds ++ (y, k) ∷ []) (items_left xs js)
  items_more kind i own ds y xs k js s =
      let m = item_front y xs k js s.0 s.1 in
      (m.0, m.1, subst (λ (l : List JsonPart). Says F kind i own l) (ap (λ l. ds ++ l) m.2 ∙ sym (append_assoc ds ((y, k) ∷ []) m.0)) s.2)

  fields_more : (kind : Kind) (i : Json) (own : List ℕ) (ds : List JsonPart) (gs : List Wanted) (f : Wanted) (fs : List Wanted) (ms : Members) (n m : ℕ) (k : Json) → get_member f.0 ms ≡ Some k → n ≡ suc m → SaysOn F ns kind i own ds (fields_left gs (f ∷ fs) ms n) → SaysOn F ns kind i own (ds ++ (f.1, k) ∷ []) (fields_left (gs ++ f ∷ []) fs ms m)
  fields_more kind i own ds gs f fs ms n m k g e s =
      let a = append_assoc gs (f ∷ []) fs in
      (s.0 ∙ ap (λ l. fields l) (sym a), subst (λ (l : List Wanted). IsDistinct bytes_eq (map (λ (f : Wanted). f.0) l)) (sym a) s.1, s.2, s.3, fields_joined gs f ms k ds s.4 g, (let l = length-append gs (f ∷ []) in let t = s.5 in omega (arith, l, e, t)))

  entries_more : (kind : Kind) (i : Json) (own : List ℕ) (ds : List JsonPart) (keys : Keys) (k v s : List ℕ) (j : Json) (es : List Entry) → SaysOn F ns kind i own ds (entries_left keys k v ((s, j) ∷ es)) → SaysOn F ns kind i own (ds ++ (k, key_json keys s) ∷ (v, j) ∷ []) (entries_left keys k v es)
  entries_more kind i own ds keys k v s j es h = subst (λ (l : List JsonPart). Says F kind i own l) (sym (append_assoc ds ((k, key_json keys s) ∷ (v, j) ∷ []) (entry_parts keys k v es))) h

  -- a key has the bytes that it says
  pub alone : (x : List ℕ) (i : Json) (own : List ℕ) → SaysFirst F x i own [] → HaveBytes F ((x, i) ∷ []) own
  alone x i own s = subst (λ (l : List ℕ). HaveBytes F ((x, i) ∷ []) l) (append-nil own) (next_part s.0 own [] s.1 s.2 none_left)

  -- the step to a field that is missing
  missing_step : (p : Parts) (b c : ℕ) (kind : Kind) (i : Json) (ds : List JsonPart) (gs : List Wanted) (f : Wanted) (fs : List Wanted) → IsObject p → c ≡ b + 1 → length gs ≡ length ds → kind ≡ fields (gs ++ f ∷ fs) → IsPlaceOf F ns p b kind i ds → first_steps p c ++ last_steps p ≡ field_step f.0 ∷ []
  missing_step (Object at os) b c kind i ds gs f fs o e l k h =
      let names : List Wanted = map field_bytes os.now.items in
      let all = fields_same names (gs ++ f ∷ fs) (sym h.0 ∙ k) in
      let n : c - 1 ≡ length gs = (let t = h.1 in omega (arith, t, e, l)) in
      ap (λ n. name_step (slice_get names n) ++ []) n ∙ ap (λ (l : List Wanted). name_step (slice_get l (length gs)) ++ []) all ∙ ap (λ (o : Option Wanted). name_step o ++ []) (get_behind gs f fs)
  missing_step parts b c kind i ds gs f fs o e l k h = absurd o

  -- the steps to the key of an entry
  key_steps : (p : Parts) (b c : ℕ) (kind : Kind) (i : Json) (ds : List JsonPart) → IsMapPlace p → c ≡ b + 1 → IsPlaceOf F ns p b kind i ds → AreSteps kind i (length ds) (first_steps p c ++ place_step 0 ∷ [])
  key_steps (MapEntries es n) b c kind i ds m e h =
      let t : c - 1 ≡ b = omega (arith, e) in
      subst (λ (k : Kind). AreSteps k i (length ds) (element_step (c - 1) ∷ place_step 0 ∷ [])) (sym h.4) (b, inl (sym h.5, ap (λ n. element_step n ∷ place_step 0 ∷ []) t))
  key_steps parts b c kind i ds m e h = absurd m

  -- ---- the end of a place
  says_all : (d : ℕ) (p : Place) (x : List ℕ) (kind : Kind) (i : Json) (own : List ℕ) (ds : List JsonPart) → IsPlaceIn F ns d p x kind i ds → Says F kind i own ds → SaysAll F ns d x i own ds
  says_all zero p x kind i own ds h s = subst (λ (k : Kind). Says F k i own ds) h.1 s
  says_all (suc d) p x kind i own ds h s = (kind, h.0, s)

  -- an object with a member that is no field
  too_many : (d : ℕ) (p : Place) (x : List ℕ) (kind : Kind) (i : Json) (ds : List JsonPart) (fs : List Wanted) (ms : Members) (name : List ℕ) → kind ≡ fields fs → i ≡ object ms → IsSome (get_member name ms) → list_any (λ (f : Wanted). bytes_eq name f.0) fs ≡ false → IsPlaceIn F ns d p x kind i ds → HasOther F x i name
  too_many zero p x kind i ds fs ms name k o g n h = let q : inner x ≡ fields fs = sym h.1 ∙ k in cc
  too_many (suc d) p x kind i ds fs ms name k o g n h = (fs, ms, subst (λ (k : Kind). HasKind F x k) k h.0, o, g, n)

  pub other_none : (x : List ℕ) (i : Json) (name : List ℕ) → HasOther F x i name → SaysOwn F x i → ⊥
  other_none x i name h s =
      let g = s.2 in
      let v = subst (λ (k : Kind). Says F k i s.0 s.1) (kind_one F g.1 h.2) g.2 in
      fields_only h.0 v.2 s.1 v.0 v.4 v.5 name (subst (λ ms. IsSome (get_member name ms)) (object_one i h.1 v.2 h.3 v.3) h.4) h.5

module _ (F : List ℕ → Option Form) (ns : List Named) (d : ℕ) (x : List ℕ) (i : Json) (own : List ℕ) (ds : List JsonPart) (kind : Kind) where
  pub place_end : (p : Place) (s : Source) (l : Left) → ((ws : List Wanted) → IsWanted F ns p.parts p.begun ws → ws ≡ []) → HasLeft F ns p.parts p.begun s l → SaysOn F ns kind i own ds l → IsPlaceIn F ns d p x kind i ds → (NoneLeft s → SaysAll F ns d x i own ds) × ((name : List ℕ) → IsLeft s name → HasOther F x i name)
  place_end p s (items_left xs js) w h says is =
      let e : xs ≡ [] = h.2 ∙ ap (λ l. map (λ (w : Wanted). w.1) l) (w h.0 h.1) in
      let q = no_row js says.0 (subst (λ (l : List (List ℕ)). row_parts l js ≡ Some says.0) e says.1) in
      let t = subst (λ (l : List JsonPart). Says F kind i own l) (ap (λ l. ds ++ l) q ∙ append-nil ds) says.2 in
      (λ n. says_all F ns d p x kind i own ds is t, λ name l. absurd (items_left_none s js name h.3 l))
  place_end p s (fields_left gs fs ms n) w h says is =
      let e : fs ≡ [] = w fs h.1 in
      let a : gs ++ fs ≡ gs = ap (λ l. gs ++ l) e ∙ append-nil gs in
      let count : length (gs ++ fs) ≡ length gs = ap (λ (l : List Wanted). length l) a in
      let t = says.5 in (
        λ z. says_all F ns d p x kind i own ds is (subst (λ (k : Kind). Says F k i own ds) (sym says.0) (says.1, says.2, ms, says.3, (let m = fields_end s gs ms n (subst (λ (l : List Wanted). HasFields s gs l ms n) e h.2) z in omega (arith, m, t, count)), ap (λ (l : List Wanted). field_parts l ms) a ∙ says.4)),
        λ name l. let there = left_there s gs fs ms n name h.2 l in too_many F ns d p x kind i ds (gs ++ fs) ms name says.0 says.3 there.0 (subst (λ (l : List Wanted). list_any (λ (f : Wanted). bytes_eq name f.0) l ≡ false) (sym a) there.1) is,
      )
  place_end p s (entries_left keys k v es) w h says is =
      let e : es ≡ [] = no_entries es (ap (λ (l : List Wanted). length l) (sym (w h.0 h.1)) ∙ h.2) in
      let t = subst (λ (l : List JsonPart). Says F kind i own l) (ap (λ l. ds ++ entry_parts keys k v l) e ∙ append-nil ds) says in
      (λ n. says_all F ns d p x kind i own ds is t, λ name l. absurd (none_there name l p.parts h.3))
    where
      none_there : (name : List ℕ) → IsLeft s name → (q : Parts) → AreEntriesOf F ns q s keys k v es → ⊥
      none_there name l (MapEntries m n) a = entries_left_none m.key_kind s es name a.3 l
      none_there name l parts a = a

  module _ (out : List ℕ) (p q : Place) (s t : Source) (part : FoundPart)
      (wanted : (ws : List Wanted) → IsWanted F ns p.parts p.begun ws → (w : Wanted) × (rest : List Wanted) × (ws ≡ w ∷ rest) × IsAt ns part.at w.1 × IsKey p.parts part.key w.0 × IsWanted F ns q.parts q.begun rest)
      (same : q.parts ≡ p.parts) (begun : q.begun ≡ p.begun + 1) where
    module _ (field : List ℕ) (name : (name : Bor (List ℕ)) → part.key ≡ Name name → field ≡ name.now) (single : (es : FoundEntries) → part.key ≡ EntryOf es → ⊥) where
      pub part_next : (o : Option (List Token)) (n : Next)
          → ((js : Items) → HasItems s js → MatchOption o (js ≡ no_items) (λ e. (i : Json) × (rest : Items) × (js ≡ item i rest) × BeginsWith e i × HasItems t rest))
          → ((gs : List Wanted) (f : Wanted) (fs : List Wanted) (ms : Members) (c : ℕ) → HasFields s gs (f ∷ fs) ms c → field ≡ f.0 → MatchOption o (get_member f.0 ms ≡ None) (λ e. (i : Json) × (m : ℕ) × (get_member f.0 ms ≡ Some i) × BeginsWith e i × (c ≡ suc m) × HasFields t (gs ++ f ∷ []) fs ms m))
          → MatchOption o (n ≡ Missing) (λ e. n ≡ Part part.at e)
          → (l : Left) → HasLeft F ns p.parts p.begun s l → SaysOn F ns kind i own ds l → IsPlaceIn F ns d p x kind i ds → IsNext F ns d x i own ds q t out out n
      part_next None n of_items of_fields found (items_left xs js) h says is =
          let w = wanted h.0 h.1 in
          let e : xs ≡ w.0.1 ∷ map (λ (w : Wanted). w.1) w.1 = h.2 ∙ ap (λ l. map (λ (w : Wanted). w.1) l) w.2 in
          let g1 = subst (λ (l : List (List ℕ)). row_parts l js ≡ Some h.4) e h.5 in
          let g2 = subst (λ (k : Items). row_parts (w.0.1 ∷ map (λ (w : Wanted). w.1) w.1) k ≡ Some h.4) (of_items js h.3) g1 in
          absurd (no_rows w.0.1 (map (λ (w : Wanted). w.1) w.1) h.4 g2)
      part_next (Some e) n of_items of_fields found (items_left xs js) h says is =
          let w = wanted h.0 h.1 in
          let ys = map (λ (w : Wanted). w.1) w.1 in
          let k : xs ≡ w.0.1 ∷ ys = h.2 ∙ ap (λ l. map (λ (w : Wanted). w.1) l) w.2 in
          let m = of_items js h.3 in
          let says1 = subst (λ (l : List (List ℕ)). SaysOn F ns kind i own ds (items_left l js)) k says in
          let says2 = subst (λ (j : Items). SaysOn F ns kind i own ds (items_left (w.0.1 ∷ ys) j)) m.2 says1 in
          let more = items_more F ns kind i own ds w.0.1 ys m.0 m.1 says2 in
          let doing : IsDoing F ns q t d x i own (ds ++ (w.0.1, m.0) ∷ []) = record {
            left = items_left ys m.1;
            here = (w.1, w.5, refl, m.4, more.0, more.1, λ z. h.6 (subst IsMapPlace same z));
            kind = kind;
            says = more;
            is_place = part_begun F ns d p q x kind i ds (w.0.1, m.0) same begun h.6 is;
          } in
          subst (λ (n : Next). IsNext F ns d x i own ds q t out out n) (sym found) ([], [], w.0.1, m.0, none_left, sym (append-nil out), w.3, m.3, doing)
      part_next None n of_items of_fields found (fields_left gs fs ms c) h says is =
          let w = wanted fs h.1 in
          let f = field_is p.parts part.key w.0.0 field name h.0 w.4 in
          let g = of_fields gs w.0 w.1 ms c (subst (λ (l : List Wanted). HasFields s gs l ms c) w.2 h.2) f in
          subst (λ (n : Next). IsNext F ns d x i own ds q t out out n) (sym found) (missing d w.0 w.1 g h.0 (subst (λ (l : List Wanted). SaysOn F ns kind i own ds (fields_left gs l ms c)) w.2 says) is)
        where
          missing : (d : ℕ) (f : Wanted) (fs : List Wanted) → get_member f.0 ms ≡ None → IsObject p.parts → SaysOn F ns kind i own ds (fields_left gs (f ∷ fs) ms c) → IsPlaceIn F ns d p x kind i ds → (name : List ℕ) × LacksField F x i name × (0 < d) × (steps_at q ≡ field_step name ∷ [])
          missing zero f fs g o says is = let e : inner x ≡ fields (gs ++ f ∷ fs) = sym is.1 ∙ says.0 in cc
          missing (suc d) f fs g o says is = (
            f.0,
            (gs ++ f ∷ fs, length gs, f, ms, subst (λ (k : Kind). HasKind F x k) says.0 is.0, get_behind gs f fs, refl, says.3, g),
            omega arith,
            subst (λ (r : Parts). first_steps r q.begun ++ last_steps r ≡ field_step f.0 ∷ []) (sym same) (missing_step F ns p.parts p.begun q.begun kind i ds gs f fs o begun (fields_count gs ms ds says.4) says.0 is.1),
          )
      part_next (Some e) n of_items of_fields found (fields_left gs fs ms c) h says is =
          let w = wanted fs h.1 in
          let f = field_is p.parts part.key w.0.0 field name h.0 w.4 in
          let g = of_fields gs w.0 w.1 ms c (subst (λ (l : List Wanted). HasFields s gs l ms c) w.2 h.2) f in
          let doing : IsDoing F ns q t d x i own (ds ++ (w.0.1, g.0) ∷ []) = record {
            left = fields_left (gs ++ w.0 ∷ []) w.1 ms g.1;
            here = (subst IsObject (sym same) h.0, w.5, g.5);
            kind = kind;
            says = fields_more F ns kind i own ds gs w.0 w.1 ms c g.1 g.0 g.2 g.4 (subst (λ (l : List Wanted). SaysOn F ns kind i own ds (fields_left gs l ms c)) w.2 says);
            is_place = part_begun F ns d p q x kind i ds (w.0.1, g.0) same begun (object_or_map p.parts h.0) is;
          } in
          subst (λ (n : Next). IsNext F ns d x i own ds q t out out n) (sym found) ([], [], w.0.1, g.0, none_left, sym (append-nil out), w.3, g.3, doing)
      part_next o n of_items of_fields found (entries_left keys k v es) h says is =
          let w = wanted h.0 h.1 in
          absurd (no_map p.parts part.key w.0.0 single w.4 (map_place F ns p.parts s keys k v es h.3))

    -- the next entry of a map
    module _ (new : List ℕ) (m : FoundEntries) (key : part.key ≡ EntryOf m) where
      pub entry_next : (r : Result Next ReadError)
          → ((keys : Keys) (k v : List ℕ) (es : List Entry) → IsAt ns m.value v → AreKeysOf F ns k (form_of m.key_definition.now) m.key_kind keys → HasEntries m.key_kind s es → MatchResult r (λ n. IsNextEntry F ns keys k v es m.key_kind t out new n) (λ e. (s : List ℕ) × (j : Json) × (rest : List Entry) × (es ≡ (s, j) ∷ rest) × FailsRead F k (key_json keys s) e))
          → (l : Left) → HasLeft F ns p.parts p.begun s l → SaysOn F ns kind i own ds l → IsPlaceIn F ns d p x kind i ds → MatchResult r (λ n. IsNext F ns d x i own ds q t out new n) (λ e. DeniesKey F ns d x i own ds q e)
      entry_next r g (items_left xs js) h says is = let w = wanted h.0 h.1 in absurd (h.6 (of_map p.parts part.key w.0.0 m key w.4))
      entry_next r g (fields_left gs fs ms c) h says is = let w = wanted fs h.1 in absurd (object_or_map p.parts h.0 (of_map p.parts part.key w.0.0 m key w.4))
      entry_next (Err e) g (entries_left keys k v es) h says is =
          let w = wanted h.0 h.1 in
          let z = entries_here F ns p.parts part.key w.0.0 m s keys k v es key w.4 h.3 in
          let a = g keys k v es z.1 z.2 z.3 in
          denied d a.0 a.1 a.2 (subst (λ (l : List Entry). SaysOn F ns kind i own ds (entries_left keys k v l)) a.3 says) is (of_map p.parts part.key w.0.0 m key w.4) a.4
        where
          denied : (d : ℕ) (s : List ℕ) (j : Json) (rest : List Entry) → SaysOn F ns kind i own ds (entries_left keys k v ((s, j) ∷ rest)) → IsPlaceIn F ns d p x kind i ds → IsMapPlace p.parts → FailsRead F k (key_json keys s) e → DeniesKey F ns d x i own ds q e
          denied zero s j rest says is m a = absurd (subst IsMapPlace is.0 m)
          denied (suc d) s j rest says is m a = (
            kind,
            k,
            key_json keys s,
            omega arith,
            is.0,
            inl ((v, j) ∷ entry_parts keys k v rest, subst (λ (l : List JsonPart). Says F kind i own l) (sym (append_assoc ds ((k, key_json keys s) ∷ []) ((v, j) ∷ entry_parts keys k v rest))) says),
            subst (λ (r : Parts). AreSteps kind i (length ds) (first_steps r q.begun ++ place_step 0 ∷ [])) (sym same) (key_steps F ns p.parts p.begun q.begun kind i ds m begun is.1),
            a,
          )
      entry_next (Ok Missing) g (entries_left keys k v es) h says is =
          let w = wanted h.0 h.1 in
          let z = entries_here F ns p.parts part.key w.0.0 m s keys k v es key w.4 h.3 in
          absurd (no_length w.0 w.1 h.0 es w.2 h.2 (g keys k v es z.1 z.2 z.3))
      entry_next (Ok End) g (entries_left keys k v es) h says is =
          let w = wanted h.0 h.1 in
          let z = entries_here F ns p.parts part.key w.0.0 m s keys k v es key w.4 h.3 in
          absurd (g keys k v es z.1 z.2 z.3)
      entry_next (Ok (Part at e)) g (entries_left keys k v es) h says is =
          let w = wanted h.0 h.1 in
          let z = entries_here F ns p.parts part.key w.0.0 m s keys k v es key w.4 h.3 in
          let a = g keys k v es z.1 z.2 z.3 in
          let says2 = subst (λ (l : List Entry). SaysOn F ns kind i own ds (entries_left keys k v l)) a.4 says in
          let doing : IsDoing F ns q t d x i own (ds ++ (k, key_json keys a.0) ∷ (v, a.1) ∷ []) = record {
            left = entries_left keys k v a.2;
            here = (w.1, w.5, fewer w.0 w.1 h.0 (a.0, a.1) a.2 es w.2 h.2 a.4, subst (λ (p : Parts). AreEntriesOf F ns p t keys k v a.2) (sym same) (z.4 t a.2 a.7));
            kind = kind;
            says = entries_more F ns kind i own ds keys k v a.0 a.1 a.2 says2;
            is_place = entry_begun F ns d p q x kind i ds (k, key_json keys a.0) (v, a.1) same begun (of_map p.parts part.key w.0.0 m key w.4) is;
          } in
          ((k, key_json keys a.0) ∷ [], a.3, v, a.1, alone F ns k (key_json keys a.0) a.3 a.8, a.9, a.5, a.6, doing)
