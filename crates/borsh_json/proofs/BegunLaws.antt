-- Values of which the beginning was written, by what the code found of their kinds.
use Rattle.std.proofs.Common.{◌≡◌, ◌⊎◌, inl, inr, ℕ, suc, zero, ◌-◌, ◌<◌, ◌≤◌, List, [], ◌∷◌, ◌++◌, length, map, replicate, drop, Option, Some, None, refl, sym, ◌∙◌, ap, subst, arith, string_bytes, pos, Result, Ok, Err, String, Vec, option_map, slice_get, Global, bytes_eq, Bor}
use Rattle.std.specs.List.{IsDistinct}
use Rattle.json.specs.Token.{Token}
use Rattle.borsh_walks.specs.Container.{Shape, sequence as sequence_shape, product, tag, references}
use Rattle.borsh_values.specs.{Nodes.{packed_size, Opens, OpensElements, IsCountOf}, Walks.{IsCounted}}
use Rattle.borsh_plan.specs.declared.named.Named.{Named}
use Rattle.borsh_values.proofs.WalkedLaws.{read_count}
use Rattle.borsh_json.specs.{declared.error.WriteError.{WriteError}, declared.error.WriteError.TheVariants.{Refused}, declared.error.Refusal.{Refusal}, declared.kinds.Elements.{Elements as FoundElements}, declared.kinds.Entries.{Entries as FoundEntries}, declared.kinds.Flaw.{Flaw}, declared.kinds.Kind.{Kind as Found}, declared.kinds.Kind.TheVariants.{List as ListKind, Map as MapKind, Row as RowKind, Newtype as NewtypeKind, Object as ObjectKind, Refused as RefusedKind}, declared.order.Ordered.{Ordered}, declared.output.Output.{Output}, declared.position.Parts.{Parts}, declared.position.Parts.TheVariants.{Root, List as Elements, Row, Object, Entries as MapEntries, Newtype, Some as Present, Variant}, declared.position.Place.{Place}, declared.sources.EntryKey.{EntryKey}, Forms.{Form, sequence, shape_of_form, shapes, field_bytes, tuple, unnamed, named, no_fields}, Frames.{Wanted, name_step}, InOrder.{element, place}, Inside.{LeadTo}, Leaves.{IsOpenedAs, RefusesValue, long_of}, NoJson.{IsAbout, IsNoJson}, Places.{IsAt, IsUnsayable, IsKindOf, IsRefusalOf, lengths_of}, Table.{Lengths, list, entries, row, inner, fields}, Writes.{Rest, items_rest, members_rest, value_rest, entries_rest, names_of_rest, IsFront, BeginsAt, AreCalled, begins_of, IsRestOf, IsRest, WritesValue, WritesStruct, ArePartsOf}}
use Rattle.borsh_json.proofs.{FormKinds.{form_known}, FrontLaws.{copies, front_written, row_front, newtype_front, object_front, list_front, map_front}, OpeningLaws.{flaw_refuses, second_map, second_copies}, PartsLaws.{names_of}, ReaderLaws.{uncons}}

-- ---- the steps to parts
taken : (i : ℕ) → suc i - 1 ≡ i
taken i = omega arith

element_leads : (f : Form) (own : List ℕ) (l : Lengths) (e : List ℕ) (i : ℕ) → f ≡ sequence l.width l.least l.greatest e → LeadTo f own i (element (suc i - 1) ∷ [])
element_leads f own l e i g = subst (λ (f : Form). LeadTo f own i (element (suc i - 1) ∷ [])) (sym g) (ap (λ n. element n ∷ []) (taken i))

row_shape : (f : Form) (xs : List (List ℕ)) → (f ≡ tuple xs) ⊎ ((f ≡ unnamed xs) ⊎ ((f ≡ no_fields) × (xs ≡ []))) → shape_of_form f ≡ product xs
row_shape f xs (inl e) = ap shape_of_form e
row_shape f xs (inr (inl e)) = ap shape_of_form e
row_shape f xs (inr (inr e)) = ap shape_of_form e.0 ∙ ap product (sym e.1)

row_leads : (f : Form) (xs : List (List ℕ)) (own : List ℕ) (i : ℕ) → (f ≡ tuple xs) ⊎ ((f ≡ unnamed xs) ⊎ ((f ≡ no_fields) × (xs ≡ []))) → LeadTo f own i (place (suc i - 1) ∷ [])
row_leads f xs own i (inl e) = subst (λ (f : Form). LeadTo f own i (place (suc i - 1) ∷ [])) (sym e) (ap (λ n. place n ∷ []) (taken i))
row_leads f xs own i (inr (inl e)) = subst (λ (f : Form). LeadTo f own i (place (suc i - 1) ∷ [])) (sym e) (ap (λ n. place n ∷ []) (taken i))
row_leads f xs own i (inr (inr e)) = subst (λ (f : Form). LeadTo f own i (place (suc i - 1) ∷ [])) (sym e.0) (ap (λ n. place n ∷ []) (taken i))

field_leads : (fs : List Wanted) (i : ℕ) → i < length (map (λ (w : Wanted). w.1) fs) → LeadTo (named fs) [] i (name_step (slice_get fs (suc i - 1)))
field_leads fs i l = let h = there fs i l in (h.0, h.1, ap (λ k. name_step (slice_get fs k)) (taken i) ∙ ap name_step h.1)
  where
    there : (fs : List Wanted) (i : ℕ) → i < length (map (λ (w : Wanted). w.1) fs) → (f : Wanted) × (slice_get fs i ≡ Some f)
    there [] i l = absurd (omega (arith, l))
    there (f ∷ fs) zero l = (f, refl)
    there (f ∷ fs) (suc i) l = there fs i (omega (arith, l))

module _ (F : List ℕ → Option Form) (ns : List Named) (x : List ℕ) (f : Form) where
  -- no JSON says a value of a name that none can be said of
  none_says : (own : List ℕ) → IsUnsayable F x → IsNoJson F x own
  none_says own u j ps bs b = let s = uncons F b in let k = s.4 in u k.0 j s.0 s.1 k.1 k.2

  -- whose values have no JSON, for a flaw of their definition
  pub flaw_refused : (flaw : Flaw) (refusal : Refusal) → IsKindOf F ns x f (RefusedKind flaw) → IsRefusalOf flaw refusal → RefusesValue F x [] (Refused refusal)
  flaw_refused flaw refusal k e = (flaw_refuses F x (λ r. IsAbout F r x) (λ text n. n) (λ n. n) flaw refusal k.1 e, none_says [] k.0)

  new_place : (parts : Parts) (p : Place) (r : Rest) → p.parts ≡ parts → p.begun ≡ 0 → p.last ≡ None → IsRestOf F ns parts 0 None r → IsRest F ns p r
  new_place parts p r a b c i =
      subst (λ (q : Parts). IsRestOf F ns q p.begun p.last r) (sym a)
      (subst (λ (k : ℕ). IsRestOf F ns parts k p.last r) (sym b)
      (subst (λ (l : Option EntryKey). IsRestOf F ns parts 0 l r) (sym c) i))

  -- the bracket of a place was written, or there was no memory for it
  pub value_begun : (kind : Found) (own : List ℕ) (parts : Parts) (r : Rest) (old new : Output) (result : Result (Option Place) WriteError) → ((es : FoundEntries) (n : ℕ) → parts ≡ MapEntries es n → (order : Ordered) × (kind ≡ MapKind es order)) → IsRestOf F ns parts 0 None r → IsFront F (long_of old) x own r (begins_of parts) → Opens (shapes F) (shape_of_form f) own (names_of_rest r) → AreCalled f own parts (names_of_rest r) → BeginsAt parts old new result → WritesValue F ns kind x f own old new result
  value_begun kind own parts r old new (Ok None) m i w o a b = absurd b
  value_begun kind own parts r old new (Ok (Some p)) m i w o a b = (r, new_place parts p r b.0 b.1 b.2 i, front_written F x own r (begins_of parts) old new w b.3, o, (b.4, b.2, (λ es n e. m es n (sym b.0 ∙ e)), b.1), subst (λ (q : Parts). AreCalled f own q (names_of_rest r)) (sym b.0) a)
  value_begun kind own parts r old new (Err e) m i w o a b = subst (λ (e : WriteError). RefusesValue F x own e) (sym b) tt

  struct_begun : (kind : Found) (parts : Parts) (r : Rest) (old new : Output) (result : Result (Option Place) WriteError) → ((es : FoundEntries) (n : ℕ) → parts ≡ MapEntries es n → ⊥) → IsRestOf F ns parts 0 None r → IsFront F (long_of old) x [] r (begins_of parts) → shape_of_form f ≡ product (names_of_rest r) → AreCalled f [] parts (names_of_rest r) → BeginsAt parts old new result → WritesStruct F ns x f kind old new result
  struct_begun kind parts r old new (Ok None) m i w s a b = absurd b
  struct_begun kind parts r old new (Ok (Some p)) m i w s a b = (r, new_place parts p r b.0 b.1 b.2 i, front_written F x [] r (begins_of parts) old new w b.3, s, (b.4, b.2, (λ es n e. absurd (m es n (sym b.0 ∙ e))), b.1), subst (λ (q : Parts). AreCalled f [] q (names_of_rest r)) (sym b.0) a)
  struct_begun kind parts r old new (Err e) m i w s a b = subst (λ (e : WriteError). RefusesValue F x [] e) (sym b) tt

  -- ---- structs and tuples
  module _ (at : ℕ) (i : IsAt ns at x) (d : F x ≡ Some f) (old new : Output) (result : Result (Option Place) WriteError) where
    row_begun : (n : ℕ) → IsKindOf F ns x f (RowKind n) → BeginsAt (Row at n) old new result → WritesStruct F ns x f (RowKind n) old new result
    row_begun n k b =
        let refs = references (shape_of_form f) in
        let r = items_rest (map (λ (w : Wanted). w.1) (map (λ y. ([], y)) refs)) in
        let same = second_map refs in
        let t = form_known F (row refs) f k.0 d (λ e. cc) in
        struct_begun (RowKind n) (Row at n) r old new result (λ es n e. cc)
        (map (λ y. ([], y)) refs, (x, f, i, d, k.1, refl), refl)
        (subst (λ (xs : List (List ℕ)). IsFront F (long_of old) x [] (items_rest xs) (Token.begin_array ∷ [])) (sym same) (row_front F x [] refs k.0 refl))
        (row_shape f refs t ∙ ap product (sym same)) (λ i z. row_leads f refs [] i t) b

    newtype_begun : (p : ℕ) → IsKindOf F ns x f (NewtypeKind p) → BeginsAt (Newtype p) old new result → WritesStruct F ns x f (NewtypeKind p) old new result
    newtype_begun p k b =
        let t = form_known F (inner k.0) f k.2 d (λ e. cc) in
        struct_begun (NewtypeKind p) (Newtype p) (value_rest (k.0 ∷ [])) old new result (λ es n e. cc)
        (([], k.0) ∷ [], (k.0, k.1, refl), refl)
        (newtype_front F x [] k.0 k.2 refl)
        (ap shape_of_form t) (λ i z. subst (λ (f : Form). LeadTo f [] i (place (suc i - 1) ∷ [])) (sym t) (ap (λ n. place n ∷ []) (taken i))) b

    object_begun : (fs : Bor (Vec (String Global × String Global) Global)) → IsKindOf F ns x f (ObjectKind fs) → BeginsAt (Object at fs) old new result → WritesStruct F ns x f (ObjectKind fs) old new result
    object_begun fs k b =
        let all : List Wanted = map field_bytes fs.now.items in
        let g = form_known F (fields all) f k.0 d (λ e. cc) in
        let u = subst (λ (l : List (List ℕ)). IsDistinct bytes_eq l) (sym (names_of (λ (f : String Global × String Global). string_bytes f.0) (λ f. string_bytes f.1) fs.now.items)) k.1 in
        struct_begun (ObjectKind fs) (Object at fs) (members_rest all) old new result (λ es n e. cc)
        (all, (x, i, d ∙ ap (λ f. Some f) g, refl), refl)
        (object_front F x [] all k.0 u refl)
        (ap shape_of_form g) (λ i z. subst (λ (f : Form). LeadTo f [] i (name_step (slice_get all (suc i - 1)))) (sym g) (field_leads all i z)) b

    -- whichever parts the code found
    pub parts_begun : (kind : Found) (parts : Parts) → ArePartsOf at kind (Some parts) → IsKindOf F ns x f kind → BeginsAt parts old new result → WritesStruct F ns x f kind old new result
    parts_begun kind Root a k b = absurd a
    parts_begun kind (Elements y n) a k b = absurd a
    parts_begun kind (Row y n) a k b = subst (λ (k : Found). WritesStruct F ns x f k old new result) (sym a.1) (row_begun n (subst (λ (k : Found). IsKindOf F ns x f k) a.1 k) (subst (λ (y : ℕ). BeginsAt (Row y n) old new result) a.0 b))
    parts_begun kind (Object y fs) a k b = subst (λ (k : Found). WritesStruct F ns x f k old new result) (sym a.1) (object_begun fs (subst (λ (k : Found). IsKindOf F ns x f k) a.1 k) (subst (λ (y : ℕ). BeginsAt (Object y fs) old new result) a.0 b))
    parts_begun kind (MapEntries es n) a k b = absurd a
    parts_begun kind (Newtype y) a k b = subst (λ (k : Found). WritesStruct F ns x f k old new result) (sym a) (newtype_begun y (subst (λ (k : Found). IsKindOf F ns x f k) a k) b)
    parts_begun kind (Present y) a k b = absurd a
    parts_begun kind (Variant v y) a k b = absurd a

  -- ---- lists and maps
  module _ (own : List ℕ) (parts : List (List ℕ)) (o : IsOpenedAs F x f own parts) where
    -- how many elements a sequence without packed ones has
    counted : (l : Lengths) (e : List ℕ) (found : Option ℕ) → f ≡ sequence l.width l.least l.greatest e → packed_size (shapes F e) ≡ 0 → IsCountOf (shape_of_form f) own found → (k : ℕ) × (found ≡ Some k) × (l.least ≤ k) × (k ≤ l.greatest) × (own ≡ tag l.width (pos k) ++ []) × Opens (shapes F) (shape_of_form f) own (replicate k e)
    counted l e found g z c =
        let s = sequence_shape l.width l.least l.greatest e in
        let h : shape_of_form f ≡ s = ap shape_of_form g in
        let t = read_count (shapes F) l.width l.least l.greatest e own parts found (subst (λ (s : Shape). IsCounted s) h o.2) (subst (λ (s : Shape). Opens (shapes F) s own parts) h o.1) (subst (λ (s : Shape). IsCountOf s own found) h c) in
        let u = subst (λ (n : ℕ). OpensElements n e t.0 (drop l.width own) parts) z t.5 in
        (t.0, t.1, t.2, t.3, t.4 ∙ ap (λ bs. tag l.width (pos t.0) ++ bs) u.0, subst (λ (ps : List (List ℕ)). Opens (shapes F) (shape_of_form f) own ps) u.1 o.1)

    pub list_begun : (es : FoundElements) (count : ℕ) (found : Option ℕ) (old new : Output) (result : Result (Option Place) WriteError) → IsKindOf F ns x f (ListKind es) → IsCountOf (shape_of_form f) own found → ((k : ℕ) → found ≡ Some k → count ≡ k) → BeginsAt (Elements es.at count) old new result → WritesValue F ns (ListKind es) x f own old new result
    list_begun es count found old new result k c same b =
        let l = lengths_of f in
        let e = k.0.0 in
        let g = form_known F (list l e) f k.0.2 o.0 (λ e. cc) in
        let m = counted l e found g (k.1 e k.0.1) c in
        let copies : map (λ (w : Wanted). w.1) (replicate count ([], e)) ≡ replicate m.0 e = second_copies count e ∙ ap (λ (i : ℕ). replicate i e) (same m.0 m.1) in
        let none : count ≡ count - 0 = omega arith in
        value_begun (ListKind es) own (Elements es.at count) (items_rest (replicate m.0 e)) old new result (λ es n e. cc)
        (replicate count ([], e), (e, k.0.1, ap (λ (i : ℕ). replicate i ([], e)) none), ap items_rest (sym copies))
        (list_front F x own l e m.0 k.0.2 m.2 m.3 m.4) m.5 (λ i z. element_leads f own l e i g) b

    pub map_begun : (es : FoundEntries) (order : Ordered) (count : ℕ) (found : Option ℕ) (old new : Output) (result : Result (Option Place) WriteError) → IsKindOf F ns x f (MapKind es order) → IsCountOf (shape_of_form f) own found → ((k : ℕ) → found ≡ Some k → count ≡ k) → BeginsAt (MapEntries es count) old new result → WritesValue F ns (MapKind es order) x f own old new result
    map_begun es order count found old new result h c same b =
        let l = lengths_of f in
        let k = h.0 in
        let v = h.1 in
        let keys = h.2 in
        let g = form_known F (entries l keys k v) f h.5 o.0 (λ e. cc) in
        let pair : shapes F g.0 ≡ Some (product (k ∷ v ∷ [])) = ap (λ (o : Option Form). option_map shape_of_form o) g.2 in
        let m = counted l g.0 found g.1 (ap packed_size pair) c in
        let ws : List Wanted = replicate count ([], v) in
        let many : length ws ≡ m.0 = copies count ([], v) ∙ same m.0 m.1 in
        let none : count ≡ count - 0 = omega arith in
        value_begun (MapKind es order) own (MapEntries es count) (entries_rest keys k v g.0 m.0 None) old new result (λ fs n e. (let q : es ≡ fs = cc in (order, ap (λ es. MapKind es order) q)))
        (k, v, g.0, keys, None, ws, h.3, h.4, g.2, h.6, refl, (v, h.4, ap (λ (i : ℕ). replicate i ([], v)) none), ap (λ (i : ℕ). entries_rest keys k v g.0 i None) (sym many))
        (map_front F x own l keys k v g.0 m.0 h.5 m.2 m.3 m.4) m.5 (λ i z. element_leads f own l g.0 i g.1) b
