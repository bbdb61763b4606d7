-- A value that begins inside of bytes is a part of the JSON that says them: the same path leads to both, behind the same bytes.
use Rattle.std.proofs.Common.{◌≡◌, inl, inr, ℕ, suc, zero, ◌+◌, ◌*◌, List, [], ◌∷◌, ◌++◌, length, map, replicate, Option, Some, refl, sym, ◌∙◌, ap, subst, arith, append_assoc, append-nil, length-append}
use Rattle.std.specs.Prelude.{ℤ, pos, codes, slice_get}
use Rattle.json.specs.Json.{Json, Items, no_items, item, Members}
use Rattle.borsh_walks.specs.Container.{Shape, first_variant, later_variant, tag}
use Rattle.borsh_walks.specs.Container as shape
use Rattle.borsh_values.specs.{Nodes.{packed_size, OpensElements, Opens}, Cursor.{HasOneTag, OpensOnce}}
use Rattle.borsh_json.specs.{Forms.{Form, primitive, sequence, tuple, choice, named, unnamed, no_fields, shape_of_form, shapes, HasNoBytes, IsByte}, InOrder.{Step, place, element, variant, AreSteps, IsReached, whole_value, part_of}, Inside.{IsInside, outermost, inside, LeadTo}, Only.{IsOpened, AreOnly, none_only}, Represents.{HaveBytes}, Table.{Kind, row, inner, fields, optional, variants, entries, Lengths, Keys, a_text, some_bytes, an_object, some_elements, nullable, by_name, DefinedKind, HasKind, Part, row_parts, field_parts, IsVariant, this, that, Entry, entry_parts, key_json, Says}}
use Rattle.borsh_json.proofs.{FallLaws.{parted}, FormKinds.{map_elements, shaped}, Lockstep.{AreBytes, behind, AreNamed, list_named, row_front, defined, Match, no_names, named_so, match_entries, listed, elements_open}, NameLaws.{keys_full}, NoJsonLaws.{exact}, OpeningLaws.{some_one}, ReaderLaws.{field_front, uncons, split, joined}}

-- ---- names and parts
-- the names of parts
abbrev pub part_names : List Part → List (List ℕ)
part_names qs = map (λ q. q.0) qs

named_all : (e : List ℕ) (qs : List Part) → AreNamed e qs → part_names qs ≡ replicate (length qs) e
named_all e [] h = refl
named_all e (q ∷ qs) h = ap (λ x. x ∷ part_names qs) h.0 ∙ ap (λ l. e ∷ l) (named_all e qs h.1)

pub row_names : (xs : List (List ℕ)) (js : Items) (qs : List Part) → row_parts xs js ≡ Some qs → part_names qs ≡ xs
row_names [] no_items qs e = let q : [] ≡ qs = cc in ap (λ (l : List Part). part_names l) (sym q)
row_names [] (item j js) qs e = cc
row_names (x ∷ xs) js qs e = let f = row_front x xs js qs e in ap (λ (l : List Part). part_names l) f.4 ∙ ap (λ l. x ∷ l) (row_names xs f.1 f.2 f.3)

pub field_names : (fs : List (List ℕ × List ℕ)) (ms : Members) (qs : List Part) → field_parts fs ms ≡ Some qs → part_names qs ≡ map (λ (f : List ℕ × List ℕ). f.1) fs
field_names [] ms qs e = let q : [] ≡ qs = cc in ap (λ (l : List Part). part_names l) (sym q)
field_names (f ∷ fs) ms qs e = let t = field_front f fs ms qs e in ap (λ (l : List Part). part_names l) t.4 ∙ ap (λ l. f.1 ∷ l) (field_names fs ms t.1 t.3)

renamed : (p : Part) (y : List ℕ) → p.0 ≡ y → p ≡ (y, p.1)
renamed (z, j) y e = ap (λ z. (z, j)) e

-- the part of a name
named_at : (front after : List (List ℕ)) (y : List ℕ) (qs : List Part) → part_names qs ≡ front ++ y ∷ after → (fq : List Part) × (k : Json) × (bq : List Part) × (qs ≡ fq ++ (y, k) ∷ bq) × (part_names fq ≡ front) × (length front ≡ length fq)
named_at [] after y [] e = cc
named_at [] after y (q ∷ qs) e = let s : q.0 ≡ y = cc in ([], q.1, qs, ap (λ (q : Part). q ∷ qs) (renamed q y s), refl, refl)
named_at (x ∷ front) after y [] e = cc
named_at (x ∷ front) after y (q ∷ qs) e =
    let s : q.0 ≡ x = cc in
    let r : part_names qs ≡ front ++ y ∷ after = cc in
    let t = named_at front after y qs r in
    (q ∷ t.0, t.1, t.2, ap (λ (l : List Part). q ∷ l) t.3, ap (λ l. q.0 ∷ l) t.4 ∙ ap (λ x. x ∷ front) s, ap suc t.5)

only_name : (front after : List (List ℕ)) (y z : List ℕ) → z ∷ [] ≡ front ++ y ∷ after → (front ≡ []) × (z ≡ y)
only_name [] after y z e = (refl, cc)
only_name (x ∷ []) after y z e = cc
only_name (x ∷ w ∷ front) after y z e = cc

not_none : (front after : List (List ℕ)) (y : List ℕ) → front ++ y ∷ after ≡ [] → ⊥
not_none [] after y e = cc
not_none (x ∷ front) after y e = cc

-- elements that are parts have no bytes in the list's own
unpacked : (m : ℕ) (e : List ℕ) (k : ℕ) (cs : List ℕ) (front after : List (List ℕ)) (y : List ℕ) → OpensElements m e k cs (front ++ y ∷ after) → m ≡ 0
unpacked zero e k cs front after y o = refl
unpacked (suc n) e k cs front after y o = absurd (not_none front after y o.2)

entry_at : (n : ℕ) (m : ℕ) (es : List Entry) → length es ≡ n + suc m → (front : List Entry) × (p : Entry) × (after : List Entry) × (es ≡ front ++ p ∷ after) × (length front ≡ n)
entry_at n m [] h = absurd (omega (arith, h))
entry_at zero m (p ∷ es) h = ([], p, es, refl, refl)
entry_at (suc n) m (p ∷ es) h = let t = entry_at n m es (omega (arith, h)) in (p ∷ t.0, t.1, t.2, ap (λ l. p ∷ l) t.3, ap suc t.4)

pub entries_joined : (keys : Keys) (k v : List ℕ) (front after : List Entry) → entry_parts keys k v (front ++ after) ≡ entry_parts keys k v front ++ entry_parts keys k v after
entries_joined keys k v [] after = refl
entries_joined keys k v (e ∷ front) after = ap (λ l. (k, key_json keys e.0) ∷ (v, e.1) ∷ l) (entries_joined keys k v front after)

entries_long : (keys : Keys) (k v : List ℕ) (es : List Entry) → length (entry_parts keys k v es) ≡ 2 * length es
entries_long keys k v [] = refl
entries_long keys k v (e ∷ es) = let l = entries_long keys k v es in omega (arith, l)

-- ---- variants
variant_at : {k : ℤ} {v p : List ℕ} {vs : List (ℤ × List ℕ × List ℕ)} → IsVariant k v p vs → (n : ℕ) × (slice_get vs n ≡ Some (k, v, p)) × (slice_get {X = ℤ × List ℕ} (map (λ (v : ℤ × List ℕ × List ℕ). (v.0, v.2)) vs) n ≡ Some (k, p))
variant_at this = (0, refl, refl)
variant_at (that i) = let t = variant_at i in (suc t.0, t.1, t.2)

-- one variant has the tag
variant_one : (w : ℕ) {own : List ℕ} {k l : ℤ} {v p u q : List ℕ} (vs : List (ℤ × List ℕ × List ℕ)) → HasOneTag (shape_of_form (choice w vs)) own → IsVariant k v p vs → IsVariant l u q vs → tag w k ≡ own → tag w l ≡ own → v ≡ u
variant_one w {k = k} {l = l} {v = v} {p = p} {u = u} {q = q} vs one a b s t =
    let m = variant_at a in
    let n = variant_at b in
    let same = one m.0 n.0 k l p q m.2 n.2 s t in
    let f : ℤ × List ℕ × List ℕ = (k, v, p) in
    let g : ℤ × List ℕ × List ℕ = (l, u, q) in
    ap (λ (v : ℤ × List ℕ × List ℕ). v.1) (some_one g f (sym n.1 ∙ ap (λ n. slice_get vs n) (sym same) ∙ m.1))

some_variant : {k : ℤ} {v p a b c d : List ℕ} → IsVariant k v p ((pos 0, a, b) ∷ (pos 1, c, d) ∷ []) → tag 1 k ≡ 1 ∷ [] → v ≡ c
some_variant this e = let q : 0 ∷ [] ≡ 1 ∷ [] = e in cc
some_variant (that this) e = refl
some_variant (that (that i)) e = elim i [ ]

module _ (F : List ℕ → Option Form) where
  match_named : (qs : List Part) → Match F qs (part_names qs)
  match_named [] = no_names
  match_named (q ∷ qs) = named_so (match_named qs)

  no_mid : {ys : List (List ℕ)} {mid : List ℕ} → AreOnly F ys mid → ys ≡ [] → mid ≡ []
  no_mid none_only e = refl
  no_mid a e = cc

  module _ (root : List ℕ) (j : Json) where
    -- what the JSON has of a value to which the path leads behind these bytes: nothing of one without bytes; a part; or the key and the value of an object's entry
    pub data HasParts (path : List Step) (before y : List ℕ) : List Part → Type 0 where
      nothing : HasNoBytes F y → HasParts path before y []
      part : {i : Json} (n : ℕ) → IsReached F root j n path before (y, i) → HasParts path before y ((y, i) ∷ [])
      entry : {k v : List ℕ} {a b : Json} (n : ℕ) → F y ≡ Some (tuple (k ∷ v ∷ [])) → IsReached F root j n (path ++ place 0 ∷ []) before (k, a) → ((mid : List ℕ) → HaveBytes F ((k, a) ∷ []) mid → IsReached F root j n (path ++ place 1 ∷ []) (before ++ mid) (v, b)) → HasParts path before y ((k, a) ∷ (v, b) ∷ [])

    -- behind these bytes come those of the value
    pub record IsThere (path : List Step) (before y rest : List ℕ) : Type 0 where
      pub parts : List Part
      pub others : List Part
      pub has : HasParts path before y parts
      pub said : HaveBytes F (parts ++ others) rest

    module _ (n : ℕ) (path : List Step) (before x : List ℕ) (i : Json) (r : IsReached F root j n path before (x, i)) (own bs : List ℕ) (qs ps : List Part) (more : HaveBytes F (qs ++ ps) bs)
        (front after : List (List ℕ)) (y : List ℕ) (steps : List Step) (all mid rest : List ℕ) (a : AreOnly F front mid) (small : AreBytes (mid ++ rest)) (is : own ++ bs ≡ all ++ (mid ++ rest)) where
      abbrev There : Type 0
      There = IsThere (path ++ steps) (before ++ (all ++ mid)) y rest

      module _ (d : Shape) (once : OpensOnce (shapes F) d all (front ++ y ∷ after)) (kind : Kind) (h : HasKind F x kind) (s : Says F kind i own qs) where
        -- each name is a part's
        for_each : (names : List (List ℕ)) → Opens (shapes F) d own names → part_names qs ≡ names → ((m : ℕ) → length front ≡ m → AreSteps kind i m steps) → There
        for_each names opens e t =
            let u = once own names bs (mid ++ rest) opens is in
            let v = named_at front after y qs (e ∙ u.2) in
            let w = split F more v.0 ((y, v.1) ∷ (v.2 ++ ps)) (ap (λ (l : List Part). l ++ ps) v.3 ∙ append_assoc v.0 ((y, v.1) ∷ v.2) ps) in
            let z = exact F front mid v.0 w.0 w.1 rest a (subst (λ l. Match F v.0 l) v.4 (match_named v.0)) w.2 small (sym w.4 ∙ u.1) in
            let says = subst (λ (l : List Part). Says F kind i own l) (v.3 ∙ sym (append_assoc v.0 ((y, v.1) ∷ []) v.2)) s in
            record {
              parts = (y, v.1) ∷ [];
              others = v.2 ++ ps;
              has = part (suc n) (subst (λ b. IsReached F root j (suc n) (path ++ steps) (before ++ b) (y, v.1)) (ap (λ o. o ++ w.0) u.0 ∙ ap (λ m. all ++ m) z.0) (part_of kind own steps r h (inl (v.2, says)) w.2 (t (length v.0) v.5)));
              said = subst (λ b. HaveBytes F ((y, v.1) ∷ (v.2 ++ ps)) b) z.1 w.3;
            }

        -- a variant without bytes has none
        for_none : (z : List ℕ) → Opens (shapes F) d own (z ∷ []) → HasNoBytes F z → qs ≡ [] → There
        for_none z opens empty e =
            let u = once own (z ∷ []) bs (mid ++ rest) opens is in
            let c = only_name front after y z u.2 in
            record {
              parts = [];
              others = ps;
              has = nothing (subst (λ z. HasNoBytes F z) c.1 empty);
              said = subst (λ b. HaveBytes F ps b) (u.1 ∙ ap (λ m. m ++ rest) (no_mid a c.0)) (subst (λ (l : List Part). HaveBytes F (l ++ ps) bs) e more);
            }

      -- an object's entry has two
      module _ (d : Shape) (once : OpensOnce (shapes F) d all (front ++ y ∷ after)) (lens : Lengths) (keys : Keys) (k v e : List ℕ) (h : HasKind F x (entries lens keys k v)) (s : Says F (entries lens keys k v) i own qs) where
        for_entry : F e ≡ Some (tuple (k ∷ v ∷ [])) → (HasNoBytes F k → ⊥) → Opens (shapes F) d own (replicate (length s.1) e) → steps ≡ element (length front) ∷ [] → There
        for_entry c full opens t =
            let u = once own (replicate (length s.1) e) bs (mid ++ rest) opens is in
            let w = parted (length s.1) e front (y ∷ after) u.2 in
            let same : y ≡ e = (let q : y ∷ after ≡ e ∷ replicate (length after) e = w.1 in cc) in
            let f = entry_at (length front) (length after) s.1 w.2 in
            let fq = entry_parts keys k v f.0 in
            let p : Part = (k, key_json keys f.1.0) in
            let q : Part = (v, f.1.1) in
            let bq = entry_parts keys k v f.2 in
            let parts : qs ≡ fq ++ p ∷ q ∷ bq = s.6 ∙ ap (λ (es : List Entry). entry_parts keys k v es) f.3 ∙ entries_joined keys k v f.0 (f.1 ∷ f.2) in
            let g = split F more fq (p ∷ q ∷ (bq ++ ps)) (ap (λ (l : List Part). l ++ ps) parts ∙ append_assoc fq (p ∷ q ∷ bq) ps) in
            let m = match_entries F keys e k v full c f.0 no_names in
            let named = subst (λ (l : List Part). Match F l front) (append-nil fq) (subst (λ l. Match F (fq ++ []) l) (append-nil (replicate (length f.0) e) ∙ ap (λ n. replicate n e) f.4 ∙ sym w.0) m) in
            let z = exact F front mid fq g.0 g.1 rest a named g.2 small (sym g.4 ∙ u.1) in
            let first_says = subst (λ (l : List Part). Says F (entries lens keys k v) i own l) (parts ∙ sym (append_assoc fq (p ∷ []) (q ∷ bq))) s in
            let last : fq ++ p ∷ q ∷ bq ≡ ((fq ++ p ∷ []) ++ q ∷ []) ++ bq = sym (append_assoc fq (p ∷ q ∷ []) bq) ∙ ap (λ (l : List Part). l ++ bq) (sym (append_assoc fq (p ∷ []) (q ∷ []))) in
            let last_says = subst (λ (l : List Part). Says F (entries lens keys k v) i own l) (parts ∙ last) s in
            let long = entries_long keys k v f.0 in
            let there = f.4 in
            let count = length-append fq (p ∷ []) in
            let key_steps = element (length front) ∷ place 0 ∷ [] in
            let value_steps = element (length front) ∷ place 1 ∷ [] in
            let key_at = part_of (entries lens keys k v) own key_steps r h (inl (q ∷ bq, first_says)) g.2 (length front, inl (omega (arith, long, there), refl)) in
            let begins : own ++ g.0 ≡ all ++ mid = ap (λ o. o ++ g.0) u.0 ∙ ap (λ m. all ++ m) z.0 in
            let steps_are : (n : ℕ) → path ++ element (length front) ∷ place n ∷ [] ≡ (path ++ steps) ++ place n ∷ [] = λ n. sym (append_assoc path (element (length front) ∷ []) (place n ∷ [])) ∙ ap (λ (l : List Step). (path ++ l) ++ place n ∷ []) (sym t) in
            record {
              parts = p ∷ q ∷ [];
              others = bq ++ ps;
              has = entry (suc n) (ap F same ∙ c)
                  (subst (λ (l : List Step). IsReached F root j (suc n) l (before ++ (all ++ mid)) p) (steps_are 0) (subst (λ b. IsReached F root j (suc n) (path ++ key_steps) (before ++ b) p) begins key_at))
                  (λ key said. subst (λ (l : List Step). IsReached F root j (suc n) l ((before ++ (all ++ mid)) ++ key) q) (steps_are 1)
                  (subst (λ b. IsReached F root j (suc n) (path ++ value_steps) b q) (ap (λ b. before ++ b) (sym (append_assoc own g.0 key) ∙ ap (λ b. b ++ key) begins) ∙ sym (append_assoc before (all ++ mid) key))
                  (part_of (entries lens keys k v) own value_steps r h (inl (bq, last_says)) (joined F g.2 said) (length front, inr (omega (arith, long, there, count), refl)))));
              said = subst (λ b. HaveBytes F (p ∷ q ∷ (bq ++ ps)) b) z.1 g.3;
            }

      byte_none : {A : Type 0} (w lo hi : ℕ) (e : List ℕ) → IsByte F e → Opens (shapes F) (shape.sequence w lo hi e) all (front ++ y ∷ after) → A
      byte_none w lo hi e b o =
          let z = unpacked (packed_size (shapes F e)) e o.0 o.1 front after y o.5 in
          let q : 0 ≡ 1 = sym z ∙ ap (λ d. packed_size d) (shaped (F e) b.1) in
          absurd (omega (arith, q))

      row_there : (f : Form) (xs : List (List ℕ)) (kind : Kind) → shape_of_form f ≡ shape.product xs → kind ≡ row xs → HasKind F x kind → Says F kind i own qs → IsOpened F x f all (front ++ y ∷ after) → steps ≡ place (length front) ∷ [] → There
      row_there f xs kind d e h s o t =
          let v = subst (λ (k : Kind). Says F k i own qs) e s in
          for_each (shape.product xs) (subst (λ d. OpensOnce (shapes F) d all (front ++ y ∷ after)) d o.3) (row xs) (subst (λ (k : Kind). HasKind F x k) e h) v xs (v.0, refl) (row_names xs v.1 qs v.3) (λ m l. t ∙ ap (λ m. place m ∷ []) l)

      value_there : (f : Form) (kind : Kind) → HasKind F x kind → Says F kind i own qs → IsOpened F x f all (front ++ y ∷ after) → LeadTo f all (length front) steps → DefinedKind F x f kind → There
      value_there (primitive m) kind h s o l d = absurd l
      value_there (sequence w lo hi e) kind h s o l (a_text t b) = byte_none w lo hi e b o.2
      value_there (sequence w lo hi e) kind h s o l (some_bytes t b) = byte_none w lo hi e b o.2
      value_there (sequence w lo hi e) kind h s o l (an_object {k = k} {v = v} {keys = keys} m t) =
          let c = map_elements F w lo hi e o.1 m in
          for_entry (shape.sequence w lo hi e) o.3 _ keys k v e h s c (keys_full F k keys t) (elements_open F w lo hi e (length s.1) own (ap (λ d. packed_size d) (shaped (F e) c)) s.5.0 s.5.1 s.5.2) l
      value_there (sequence w lo hi e) kind h s o l (some_elements t u c d) =
          let z = unpacked (packed_size (shapes F e)) e o.2.0 o.2.1 front after y o.2.5 in
          let named : AreNamed e qs = subst (λ (l : List Part). AreNamed e l) (sym s.2) (list_named e s.0) in
          for_each (shape.sequence w lo hi e) o.3 _ h s (replicate (length qs) e) (elements_open F w lo hi e (length qs) own z s.3.0 s.3.1 s.3.2) (named_all e qs named) (λ m k. l ∙ ap (λ m. element m ∷ []) k)
      value_there (tuple xs) kind h s o l d = row_there (tuple xs) xs kind refl d h s o l
      value_there (unnamed []) kind h s o l d = row_there (unnamed []) [] kind refl d h s o l
      value_there (unnamed (p ∷ [])) kind h s o l d =
          let v = subst (λ (k : Kind). Says F k i own qs) d s in
          for_each (shape.product (p ∷ [])) o.3 (inner p) (subst (λ (k : Kind). HasKind F x k) d h) v (p ∷ []) (v.0, refl) (ap (λ (l : List Part). part_names l) v.1) (λ m k. l ∙ ap (λ m. place m ∷ []) k)
      value_there (unnamed (p ∷ q ∷ xs)) kind h s o l d = row_there (unnamed (p ∷ q ∷ xs)) (p ∷ q ∷ xs) kind refl d h s o l
      value_there no_fields kind h s o l d = row_there no_fields [] kind refl d h s o l
      value_there (named fs) kind h s o l d =
          let v = subst (λ (k : Kind). Says F k i own qs) d s in
          for_each (shape_of_form (named fs)) o.3 (fields fs) (subst (λ (k : Kind). HasKind F x k) d h) v (map (λ (f : List ℕ × List ℕ). f.1) fs) (v.1, refl) (field_names fs v.2 qs v.5) (λ m k. (l.0, ap (λ m. slice_get fs m) (sym k) ∙ l.1, l.2))
      value_there (choice w vs) kind h s o l (nullable {p = p} c) =
          let us : List (ℤ × List ℕ × List ℕ) = (pos 0, codes "None", c.0.0) ∷ (pos 1, codes "Some", p) ∷ [] in
          let g : Some (choice w vs) ≡ Some (choice 1 us) = sym o.1 ∙ c.0.1 in
          let q : choice w vs ≡ choice 1 us = cc in
          let u = subst (λ (f : Form). IsOpened F x f all (front ++ y ∷ after)) q o in
          let t = subst (λ (f : Form). LeadTo f all (length front) steps) q l in
          elim s [
            | inl v ↦ for_none (shape_of_form (choice 1 us)) u.3 (optional p) h (inl v) c.0.0 (pos 0, c.0.0, first_variant, v.1, refl) c.0.2.1 v.2
            | inr v ↦ (let opens : Opens (shapes F) (shape_of_form (choice 1 us)) own (p ∷ []) = (pos 1, p, later_variant first_variant, v.1, refl) in
                let e = u.3 own (p ∷ []) bs (mid ++ rest) opens is in
                for_each (shape_of_form (choice 1 us)) u.3 (optional p) h (inr v) (p ∷ []) opens (ap (λ (l : List Part). part_names l) v.2) (λ m k. t.5 ∙ ap (λ v. variant v ∷ []) (some_variant t.3 (sym t.4 ∙ sym e.0 ∙ v.1))))
          ]
      value_there (choice w vs) kind h s o l (by_name c) = elim s.6 [
        | inl v ↦ for_none (shape_of_form (choice w vs)) o.3 _ h s s.3 (s.1, s.3, listed F s.4, s.5, refl) v.1 v.2
        | inr v ↦ (let opens : Opens (shapes F) (shape_of_form (choice w vs)) own (s.3 ∷ []) = (s.1, s.3, listed F s.4, s.5, refl) in
            let e = o.3 own (s.3 ∷ []) bs (mid ++ rest) opens is in
            for_each (shape_of_form (choice w vs)) o.3 _ h s (s.3 ∷ []) opens (ap (λ (l : List Part). part_names l) v.3) (λ m k. (s.2, v.0, v.1, l.5 ∙ ap (λ v. variant v ∷ []) (variant_one w vs o.5 l.3 s.4 (sym l.4) (sym s.5 ∙ e.0)))))
      ]

    -- the part of a value that is there
    onward : {qs : List Part} (ps : List Part) {path : List Step} {before x : List ℕ} (y own mid rest all : List ℕ) (front after : List (List ℕ)) (steps : List Step) (f : Form) → IsOpened F x f own (front ++ y ∷ after) → AreOnly F front mid → LeadTo f own (length front) steps → AreBytes (mid ++ rest) → HasParts path before x qs → HaveBytes F (qs ++ ps) all → all ≡ own ++ (mid ++ rest) → IsThere (path ++ steps) (before ++ (own ++ mid)) y rest
    onward ps y own mid rest all front after steps f o a l small (nothing z) h e = absurd (o.0 z)
    onward ps {path = path} {before = before} {x = x} y own mid rest all front after steps f o a l small (part {i = i} n r) h e =
        let u = uncons F h in
        value_there n path before x i r u.0 u.2 u.1 ps u.5 front after y steps own mid rest a small (sym u.3 ∙ e) f u.4.0 u.4.1 u.4.2 o l (defined F f o.1 o.0 u.4.1)
    onward ps {path = path} {before = before} y own mid rest all front after steps f o a l small (entry {k = k} {v = v} {a = i} {b = m} n c r g) h e =
        let q : Some f ≡ Some (tuple (k ∷ v ∷ [])) = sym o.1 ∙ c in
        let s : f ≡ tuple (k ∷ v ∷ []) = cc in
        let u = subst (λ (f : Form). Opens (shapes F) (shape_of_form f) own (front ++ y ∷ after)) s o.2 in
        let t = subst (λ (f : Form). LeadTo f own (length front) steps) s l in
        subst (λ b. IsThere (path ++ steps) (before ++ (b ++ mid)) y rest) (sym u.0) (pair front t u.1 a (e ∙ ap (λ b. b ++ (mid ++ rest)) u.0))
      where
        pair : (front : List (List ℕ)) → steps ≡ place (length front) ∷ [] → front ++ y ∷ after ≡ k ∷ v ∷ [] → AreOnly F front mid → all ≡ mid ++ rest → IsThere (path ++ steps) (before ++ mid) y rest
        pair [] t names a is =
            let key : k ≡ y = cc in
            let none = no_mid a refl in
            let there = subst (λ b. IsReached F root j n (path ++ place 0 ∷ []) b (k, i)) (sym (append-nil before)) r in
            let steps_there = subst (λ (l : List Step). IsReached F root j n (path ++ l) (before ++ []) (k, i)) (sym t) there in
            let mid_there = subst (λ m. IsReached F root j n (path ++ steps) (before ++ m) (k, i)) (sym none) steps_there in
            record {
              parts = (y, i) ∷ [];
              others = (v, m) ∷ ps;
              has = part n (subst (λ k. IsReached F root j n (path ++ steps) (before ++ mid) (k, i)) key mid_there);
              said = subst (λ b. HaveBytes F ((y, i) ∷ (v, m) ∷ ps) b) (is ∙ ap (λ m. m ++ rest) none) (subst (λ k. HaveBytes F ((k, i) ∷ (v, m) ∷ ps) all) key h);
            }
        pair (x ∷ []) t names a is =
            let key : x ≡ k = cc in
            let value : v ≡ y = cc in
            let w = split F h ((k, i) ∷ []) ((v, m) ∷ ps) refl in
            let z = exact F (x ∷ []) mid ((k, i) ∷ []) w.0 w.1 rest a (subst (λ x. Match F ((k, i) ∷ []) (x ∷ [])) (sym key) (named_so no_names)) w.2 small (sym w.4 ∙ is) in
            let there = subst (λ b. IsReached F root j n (path ++ place 1 ∷ []) (before ++ b) (v, m)) z.0 (g w.0 w.2) in
            let steps_there = subst (λ (l : List Step). IsReached F root j n (path ++ l) (before ++ mid) (v, m)) (sym t) there in
            record {
              parts = (y, m) ∷ [];
              others = ps;
              has = part n (subst (λ v. IsReached F root j n (path ++ steps) (before ++ mid) (v, m)) value steps_there);
              said = subst (λ b. HaveBytes F ((y, m) ∷ ps) b) z.1 (subst (λ v. HaveBytes F ((v, m) ∷ ps) w.1) value w.3);
            }
        pair (x ∷ w ∷ front) t names a is = absurd (let q : front ++ y ∷ after ≡ [] = cc in not_none front after y q)

    -- the JSON says each value that begins inside
    pub inside_there : {n : ℕ} {path : List Step} {before x : List ℕ} → IsInside F root n path before x → (rest : List ℕ) → AreBytes (before ++ rest) → HaveBytes F ((root, j) ∷ []) (before ++ rest) → IsThere path before x rest
    inside_there outermost rest small h = record { parts = (root, j) ∷ []; others = []; has = part 0 whole_value; said = h }
    inside_there (inside {before = before} {mid = mid} {y = y} {ps = ps} f own qs steps i o a l) rest small h =
        let e = append_assoc before (own ++ mid) rest ∙ ap (λ l. before ++ l) (append_assoc own mid rest) in
        let fine = subst (λ l. AreBytes l) e small in
        let t = inside_there i (own ++ (mid ++ rest)) fine (subst (λ l. HaveBytes F ((root, j) ∷ []) l) e h) in
        onward t.others y own mid rest (own ++ (mid ++ rest)) ps qs steps f o a l (behind own (mid ++ rest) (behind before (own ++ (mid ++ rest)) fine)) t.has t.said refl
