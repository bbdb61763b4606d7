-- What is left to be written of places.
use Rattle.std.proofs.Common.{◌≡◌, ℕ, suc, zero, ◌-◌, List, [], ◌∷◌, ◌++◌, length, map, replicate, Option, Some, refl, sym, ◌∙◌, ap, subst, arith, length-append}
use Rattle.json.specs.{Token.{Token}, Json.{no_items, no_members}}
use Rattle.borsh_plan.specs.declared.named.Named.{Named}
use Rattle.borsh_json.specs.{declared.kinds.Entries.{Entries as FoundEntries}, declared.position.Key.{Key}, declared.position.Key.TheVariants.{None as NoKey, Name, Entry as EntryOf}, declared.position.Part.{Part as FoundPart}, declared.position.Parts.{Parts}, declared.position.Parts.TheVariants.{Root, List as Elements, Row, Object, Entries as MapEntries, Newtype, Some as Present, Variant}, declared.position.Place.{Place}, declared.sources.EntryKey.{EntryKey}, Forms.{Form, tuple, form_of}, Frames.{Wanted, IsWanted, IsKey}, Places.{IsAt, AreKeysOf}, Table.{Keys}, Writes.{Rest, items_rest, members_rest, value_rest, entries_rest, names_of_rest, MayFollow, IsLast, IsRestOf, AreEach, ends_of}}
use Rattle.borsh_json.proofs.WritingLaws.{IsTaken, item_taken, member_taken, value_taken}

-- the tokens of a key, unless it is that of an entry
abbrev pub key_tokens : Key → List Token
key_tokens NoKey = []
key_tokens (Name name) = Token.key name.now ∷ []
key_tokens (EntryOf es) = []

module _ (F : List ℕ → Option Form) (ns : List Named) where
  -- the part of a place that is no map comes first of what is left, and then the others
  pub record TakesPart (parts : Parts) (c : ℕ) (last : Option EntryKey) (part : FoundPart) (r : Rest) : Type 0 where
    pub name : List ℕ
    pub rest : Rest
    pub named : IsAt ns part.at name
    pub here : IsRestOf F ns parts c last rest
    pub names : names_of_rest r ≡ name ∷ names_of_rest rest
    pub taken : IsTaken r name (key_tokens part.key) rest

  module _ (parts : Parts) (c : ℕ) (last : Option EntryKey) (part : FoundPart) (r : Rest) (w : Wanted) (rest ws : List Wanted) (i : IsAt ns part.at w.1) (e : ws ≡ w ∷ rest) where
    takes_value : part.key ≡ NoKey → r ≡ value_rest (map (λ (w : Wanted). w.1) ws) → IsRestOf F ns parts c last (value_rest (map (λ (w : Wanted). w.1) rest)) → TakesPart parts c last part r
    takes_value k f h =
        let xs = map (λ (w : Wanted). w.1) rest in
        let g : r ≡ value_rest (w.1 ∷ xs) = f ∙ ap (λ (l : List Wanted). value_rest (map (λ (w : Wanted). w.1) l)) e in
        record {
          name = w.1;
          rest = value_rest xs;
          named = i;
          here = h;
          names = ap names_of_rest g;
          taken = subst (λ k. IsTaken r w.1 (key_tokens k) (value_rest xs)) (sym k) (subst (λ r. IsTaken r w.1 [] (value_rest xs)) (sym g) (value_taken w.1 xs));
        }

    takes_item : part.key ≡ NoKey → r ≡ items_rest (map (λ (w : Wanted). w.1) ws) → IsRestOf F ns parts c last (items_rest (map (λ (w : Wanted). w.1) rest)) → TakesPart parts c last part r
    takes_item k f h =
        let xs = map (λ (w : Wanted). w.1) rest in
        let g : r ≡ items_rest (w.1 ∷ xs) = f ∙ ap (λ (l : List Wanted). items_rest (map (λ (w : Wanted). w.1) l)) e in
        record {
          name = w.1;
          rest = items_rest xs;
          named = i;
          here = h;
          names = ap names_of_rest g;
          taken = subst (λ k. IsTaken r w.1 (key_tokens k) (items_rest xs)) (sym k) (subst (λ r. IsTaken r w.1 [] (items_rest xs)) (sym g) (item_taken w.1 xs));
        }

    takes_member : (f : Wanted → Wanted) → key_tokens part.key ≡ Token.key (f w).0 ∷ [] → (f w).1 ≡ w.1 → r ≡ members_rest (map f ws) → IsRestOf F ns parts c last (members_rest (map f rest)) → TakesPart parts c last part r
    takes_member f k n m h =
        let g : r ≡ members_rest (f w ∷ map f rest) = m ∙ ap (λ (l : List Wanted). members_rest (map f l)) e in
        record {
          name = w.1;
          rest = members_rest (map f rest);
          named = i;
          here = h;
          names = ap names_of_rest g ∙ ap (λ x. x ∷ map (λ (w : Wanted). w.1) (map f rest)) n;
          taken = subst (λ k. IsTaken r w.1 k (members_rest (map f rest))) (sym k) (subst (λ r. IsTaken r w.1 (Token.key (f w).0 ∷ []) (members_rest (map f rest))) (sym g) (subst (λ x. IsTaken (members_rest (f w ∷ map f rest)) x (Token.key (f w).0 ∷ []) (members_rest (map f rest))) n (member_taken (f w) (map f rest))));
        }

  same_map : (ws : List Wanted) → map (λ (w : Wanted). w) ws ≡ ws
  same_map [] = refl
  same_map (w ∷ ws) = ap (λ l. w ∷ l) (same_map ws)

  pub takes_part : (parts : Parts) (b c : ℕ) (last : Option EntryKey) (part : FoundPart) (r : Rest) → ((es : FoundEntries) → part.key ≡ EntryOf es → ⊥) → IsRestOf F ns parts b last r
      → ((ws : List Wanted) → IsWanted F ns parts b ws → (w : Wanted) × (rest : List Wanted) × (ws ≡ w ∷ rest) × IsAt ns part.at w.1 × IsKey parts part.key w.0 × IsWanted F ns parts c rest)
      → TakesPart parts c last part r
  takes_part Root b c last part r n h g = let w = g h.0 h.1 in takes_value Root c last part r w.0 w.1 h.0 w.3 w.2 w.4 h.2 (w.1, w.5, refl)
  takes_part (Elements at m) b c last part r n h g = let w = g h.0 h.1 in takes_item (Elements at m) c last part r w.0 w.1 h.0 w.3 w.2 w.4 h.2 (w.1, w.5, refl)
  takes_part (Row at m) b c last part r n h g = let w = g h.0 h.1 in takes_item (Row at m) c last part r w.0 w.1 h.0 w.3 w.2 w.4 h.2 (w.1, w.5, refl)
  takes_part (Object at fs) b c last part r n h g =
      let w = g h.0 h.1 in
      let k = w.4 in
      takes_member (Object at fs) c last part r w.0 w.1 h.0 w.3 w.2 (λ (w : Wanted). w) (ap key_tokens k.1 ∙ ap (λ s. Token.key s ∷ []) k.2) refl (h.2 ∙ ap members_rest (sym (same_map h.0))) (w.1, w.5, ap members_rest (same_map w.1))
  takes_part (MapEntries es m) b c last part r n h g = let w = g h.5 h.11 in absurd (n es w.4)
  takes_part (Newtype at) b c last part r n h g = let w = g h.0 h.1 in takes_value (Newtype at) c last part r w.0 w.1 h.0 w.3 w.2 w.4 h.2 (w.1, w.5, refl)
  takes_part (Present at) b c last part r n h g = let w = g h.0 h.1 in takes_value (Present at) c last part r w.0 w.1 h.0 w.3 w.2 w.4 h.2 (w.1, w.5, refl)
  takes_part (Variant v at) b c last part r n h g =
      let w = g h.0 h.1 in
      takes_member (Variant v at) c last part r w.0 w.1 h.0 w.3 w.2 (λ (w : Wanted). (v.now, w.1)) (ap key_tokens w.4) refl h.2 (w.1, w.5, refl)

  -- ---- entries
  pub record TakesEntry (es : FoundEntries) (parts : Parts) (c : ℕ) (last : Option EntryKey) (part : FoundPart) (r : Rest) : Type 0 where
    pub key : List ℕ
    pub value : List ℕ
    pub pair : List ℕ
    pub keys : Keys
    pub before : Option (List ℕ)
    pub count : ℕ
    pub key_named : IsAt ns es.key key
    pub named : IsAt ns part.at value
    pub defined : F pair ≡ Some (tuple (key ∷ value ∷ []))
    pub kind : AreKeysOf F ns key (form_of es.key_definition.now) es.key_kind keys
    pub is_last : IsLast es.key_kind last before
    pub entries : (n : ℕ) × (parts ≡ MapEntries es n)
    pub is : r ≡ entries_rest keys key value pair (suc count) before
    pub here : (new : Option EntryKey) (s : Option (List ℕ)) → IsLast es.key_kind new s → IsRestOf F ns parts c new (entries_rest keys key value pair count s)

  copies_of : (at n i : ℕ) (x : List ℕ) (ws : List Wanted) → IsAt ns at x → ws ≡ replicate n ([], x) → (w : Wanted) (rest : List Wanted) → ws ≡ w ∷ rest → w.1 ≡ x
  copies_of at zero i x ws a e w rest f = cc
  copies_of at (suc n) i x ws a e w rest f = let g : w ∷ rest ≡ ([], x) ∷ replicate n ([], x) = sym f ∙ e in let h : w ≡ ([], x) = cc in ap (λ (w : Wanted). w.1) h

  same_place : (at : ℕ) (x y : List ℕ) → IsAt ns at x → IsAt ns at y → x ≡ y
  same_place at x y a b = let e : Some x ≡ Some y = sym a ∙ b in cc

  pub takes_entry : (es : FoundEntries) (parts : Parts) (b c : ℕ) (last : Option EntryKey) (part : FoundPart) (r : Rest) → part.key ≡ EntryOf es → IsRestOf F ns parts b last r
      → ((ws : List Wanted) → IsWanted F ns parts b ws → (w : Wanted) × (rest : List Wanted) × (ws ≡ w ∷ rest) × IsAt ns part.at w.1 × IsKey parts part.key w.0 × IsWanted F ns parts c rest)
      → TakesEntry es parts c last part r
  takes_entry es Root b c last part r k h g = let w = g h.0 h.1 in let q : NoKey ≡ EntryOf es = sym w.4 ∙ k in cc
  takes_entry es (Elements at m) b c last part r k h g = let w = g h.0 h.1 in let q : NoKey ≡ EntryOf es = sym w.4 ∙ k in cc
  takes_entry es (Row at m) b c last part r k h g = let w = g h.0 h.1 in let q : NoKey ≡ EntryOf es = sym w.4 ∙ k in cc
  takes_entry es (Object at fs) b c last part r k h g = let w = g h.0 h.1 in let a = w.4 in let q : Name a.0 ≡ EntryOf es = sym a.1 ∙ k in cc
  takes_entry es (MapEntries fs m) b c last part r k h g =
      let w = g h.5 h.11 in
      let q : EntryOf fs ≡ EntryOf es = sym w.4 ∙ k in
      let f : fs ≡ es = cc in
      let x = h.11 in
      let y = copies_of fs.value (m - b) b x.0 h.5 x.1 x.2 w.0 w.1 w.2 in
      let v : w.0.1 ≡ h.1 = y ∙ same_place fs.value x.0 h.1 x.1 h.7 in
      subst (λ (es : FoundEntries). TakesEntry es (MapEntries fs m) c last part r) f (record {
        key = h.0;
        value = h.1;
        pair = h.2;
        keys = h.3;
        before = h.4;
        count = length w.1;
        key_named = h.6;
        named = subst (λ v. IsAt ns part.at v) v w.3;
        defined = h.8;
        kind = h.9;
        is_last = h.10;
        entries = (m, refl);
        is = h.12 ∙ ap (λ n. entries_rest h.3 h.0 h.1 h.2 n h.4) (ap (λ (l : List Wanted). length l) w.2);
        here = λ new s l. (h.0, h.1, h.2, h.3, s, w.1, h.6, h.7, h.8, h.9, l, w.5, refl);
      })
  takes_entry es (Newtype at) b c last part r k h g = let w = g h.0 h.1 in let q : NoKey ≡ EntryOf es = sym w.4 ∙ k in cc
  takes_entry es (Present at) b c last part r k h g = let w = g h.0 h.1 in let q : NoKey ≡ EntryOf es = sym w.4 ∙ k in cc
  takes_entry es (Variant v at) b c last part r k h g = let w = g h.0 h.1 in let q : Name v ≡ EntryOf es = sym w.4 ∙ k in cc

  -- ---- the ends of places
  -- nothing is left, and the brackets may follow
  pub place_ends : (parts : Parts) (b n : ℕ) (last : Option EntryKey) (r : Rest) → IsRestOf F ns parts b last r → ((ws : List Wanted) → IsWanted F ns parts b ws → ws ≡ []) → (names_of_rest r ≡ []) × MayFollow r n (ends_of parts) []
  place_ends Root b n last r h g = subst (λ r. (names_of_rest r ≡ []) × MayFollow r n [] []) (sym (h.2 ∙ ap (λ (l : List Wanted). value_rest (map (λ (w : Wanted). w.1) l)) (g h.0 h.1))) (refl, (refl, refl))
  place_ends (Elements at m) b n last r h g = subst (λ r. (names_of_rest r ≡ []) × MayFollow r n (Token.end_array ∷ []) []) (sym (h.2 ∙ ap (λ (l : List Wanted). items_rest (map (λ (w : Wanted). w.1) l)) (g h.0 h.1))) (refl, (no_items, refl, refl, tt, omega arith))
  place_ends (Row at m) b n last r h g = subst (λ r. (names_of_rest r ≡ []) × MayFollow r n (Token.end_array ∷ []) []) (sym (h.2 ∙ ap (λ (l : List Wanted). items_rest (map (λ (w : Wanted). w.1) l)) (g h.0 h.1))) (refl, (no_items, refl, refl, tt, omega arith))
  place_ends (Object at fs) b n last r h g = subst (λ r. (names_of_rest r ≡ []) × MayFollow r n (Token.end_object ∷ []) []) (sym (h.2 ∙ ap members_rest (g h.0 h.1))) (refl, (no_members, refl, (refl, refl), tt, omega arith))
  place_ends (MapEntries es m) b n last r h g = subst (λ r. (names_of_rest r ≡ []) × MayFollow r n (Token.end_object ∷ []) []) (sym (h.12 ∙ ap (λ (l : List Wanted). entries_rest h.3 h.0 h.1 h.2 (length l) h.4) (g h.5 h.11))) (refl, (no_members, refl, refl, tt, refl, tt, omega arith))
  place_ends (Newtype at) b n last r h g = subst (λ r. (names_of_rest r ≡ []) × MayFollow r n [] []) (sym (h.2 ∙ ap (λ (l : List Wanted). value_rest (map (λ (w : Wanted). w.1) l)) (g h.0 h.1))) (refl, (refl, refl))
  place_ends (Present at) b n last r h g = subst (λ r. (names_of_rest r ≡ []) × MayFollow r n [] []) (sym (h.2 ∙ ap (λ (l : List Wanted). value_rest (map (λ (w : Wanted). w.1) l)) (g h.0 h.1))) (refl, (refl, refl))
  place_ends (Variant v at) b n last r h g = subst (λ r. (names_of_rest r ≡ []) × MayFollow r n (Token.end_object ∷ []) []) (sym (h.2 ∙ ap (λ (l : List Wanted). members_rest (map (λ (w : Wanted). (v.now, w.1)) l)) (g h.0 h.1))) (refl, (no_members, refl, (refl, refl), tt, omega arith))

-- ---- what each of some places has
module _ {A : Type 0} (P : Place → A → Type 0) where
  pub each_pushed : (ps : List Place) (xs : List A) (p : Place) (x : A) → AreEach P ps xs → P p x → AreEach P (ps ++ p ∷ []) (x ∷ xs)
  each_pushed [] xs p x h k = (x, [], k, refl, ap (λ l. x ∷ l) h)
  each_pushed (q ∷ ps) xs p x h k = (h.0, x ∷ h.1, h.2, each_pushed ps h.1 p x h.3 k, ap (λ l. x ∷ l) h.4)

  pub each_popped : (ps : List Place) (xs : List A) (p : Place) → AreEach P (ps ++ p ∷ []) xs → (x : A) × (outer : List A) × P p x × AreEach P ps outer × (xs ≡ x ∷ outer)
  each_popped [] xs p h = (h.0, [], h.2, refl, h.4 ∙ ap (λ l. l ++ h.0 ∷ []) h.3)
  each_popped (q ∷ ps) xs p h =
      let t = each_popped ps h.1 p h.3 in
      (t.0, t.1 ++ h.0 ∷ [], t.2, (h.0, t.1, h.2, t.3, refl), h.4 ∙ ap (λ l. l ++ h.0 ∷ []) t.4)

  pub as_many : (ps : List Place) (xs : List A) → AreEach P ps xs → length xs ≡ length ps
  as_many [] xs h = ap (λ (l : List A). length l) h
  as_many (p ∷ ps) xs h =
      let a = ap (λ (l : List A). length l) h.4 in
      let b = length-append h.1 (h.0 ∷ []) in
      let c = as_many ps h.1 h.3 in
      omega (arith, a, b, c)
