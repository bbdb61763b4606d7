-- What is left of a frame, part by part.
use Rattle.std.proofs.{Common.{◌≡◌, ℕ, suc, zero, ◌+◌, ◌<◌, ◌≤◌, List, [], ◌∷◌, ◌++◌, length, map, take, drop, get_or, Bool, true, false, Option, Some, None, refl, sym, ◌∙◌, ap, subst, arith, append_assoc, append-nil, string_bytes, slice_get, MatchOption, String, Vec, IsSome, cond, is_some, if◌then◌else◌, ◌||◌, Bor, Global, nat_cmp, bytes_eq}, lemmas.Cmp.{nat_list_eq_equiv}, lemmas.List.Folds.{list_any-append}, lemmas.Map.Keys.{IsDistinct-head, IsDistinct-tail}, lemmas.Map.Text.{btree_map_updates_str}}
use Rattle.std.specs.{BTreeMap.{BTreeMap, UpdatesBy, btree_map_len}, Cmp.Lexicographic.{slice_cmp}, List.{AllByRecursion}}
use Rattle.json.specs.{Token.{Token}, Json.{Json, Members, no_members, member}, Find.{BeginsWith, InMembers, get_member, Finds}}
use Rattle.borsh_walks.specs.{Container.{references}, Tables.{mark_of}}
use Rattle.borsh_plan.specs.declared.named.Named.{Named}
use Rattle.borsh_json.specs.{declared.kinds.KeyKind.{KeyKind}, declared.kinds.KeyKind.TheVariants.{Text as TextKeys, Number as NumberKeys}, declared.position.Key.TheVariants.{None as NoKey, Name}, declared.position.Part.{Part}, declared.position.Parts.TheVariants.{Row, Object}, declared.position.Place.{Place}, declared.sources.EntryKey.TheVariants.{Text as TextKey}, declared.sources.Source.TheVariants.{Members as TheMembers, Entries as InPlace}, Forms.{Form, named, shape_of_form}, Frames.{steps_at, steps_through, Wanted, IsWanted, IsKey, AreFound, AreOthers, HasFields, HasEntries, IsEntryKey}, Places.{IsAt}, Table.{Entry, entries_of}}

-- ---- lists from an index on
pub drop_at : {A : Type 0} (xs : List A) (i : ℕ) (a : A) → slice_get xs i ≡ Some a → drop i xs ≡ a ∷ drop (suc i) xs
drop_at [] zero a e = cc
drop_at [] (suc i) a e = cc
drop_at (x ∷ xs) zero a e = (let h : x ≡ a = cc in ap (λ y. y ∷ xs) h)
drop_at (x ∷ xs) (suc i) a e = drop_at xs i a e

pub drop_all : {A : Type 0} (xs : List A) (i : ℕ) → length xs ≤ i → drop i xs ≡ []
drop_all [] zero h = refl
drop_all [] (suc i) h = refl
drop_all (x ∷ xs) zero h = absurd (omega arith)
drop_all (x ∷ xs) (suc i) h = drop_all xs i (omega arith)

pub get_map : {A B : Type 0} (f : A → B) (xs : List A) (i : ℕ) (a : A) → slice_get xs i ≡ Some a → slice_get (map f xs) i ≡ Some (f a)
get_map f [] zero a e = cc
get_map f [] (suc i) a e = cc
get_map f (x ∷ xs) zero a e = (let h : x ≡ a = cc in ap (λ y. Some (f y)) h)
get_map f (x ∷ xs) (suc i) a e = get_map f xs i a e

pub get_there : {A : Type 0} (xs : List A) (i : ℕ) → i < length xs → (a : A) × (slice_get xs i ≡ Some a)
get_there [] i h = absurd (omega arith)
get_there (x ∷ xs) zero h = (x, refl)
get_there (x ∷ xs) (suc i) h = get_there xs i (omega arith)

pub get_from : {A : Type 0} (xs : List A) (i : ℕ) (a : A) → i < length xs → a ≡ get_or xs i a → slice_get xs i ≡ Some a
get_from [] i a h e = absurd (omega arith)
get_from (x ∷ xs) zero a h e = ap (λ y. Some y) (sym e)
get_from (x ∷ xs) (suc i) a h e = get_from xs i a (omega arith) e

pub length_map : {A B : Type 0} (f : A → B) (xs : List A) → length (map f xs) ≡ length xs
length_map f [] = refl
length_map f (x ∷ xs) = ap suc (length_map f xs)

-- ---- what is wanted next

module _ (F : List ℕ → Option Form) (ns : List Named) where
  -- the place is that of a part
  abbrev IsPart : ℕ → ℕ → ℕ → Type 0
  IsPart at i place = (x y : List ℕ) (f : Form) → IsAt ns at x → F x ≡ Some f → slice_get (references (shape_of_form f)) i ≡ Some y → IsAt ns place y

  pub row_next : (at n i place : ℕ) (o : Option Part) → IsPart at i place → MatchOption o (n ≤ i) (λ p. (i < n) × (p.at ≡ place) × (p.key ≡ NoKey)) → (ws : List Wanted) → IsWanted F ns (Row at n) i ws → MatchOption o (ws ≡ []) (λ p. (w : Wanted) × (rest : List Wanted) × (ws ≡ w ∷ rest) × IsAt ns p.at w.1 × IsKey (Row at n) p.key w.0 × IsWanted F ns (Row at n) (i + 1) rest)
  row_next at n i place None g h ws w =
      let refs = references (shape_of_form w.1) in
      let f : List ℕ → Wanted = λ y. ([], y) in
      let l = length_map f refs in
      let k = w.4 in
      w.5 ∙ drop_all (map f refs) i (omega (arith, l, k, h))
  row_next at n i place (Some p) g h ws w =
      let refs = references (shape_of_form w.1) in
      let f : List ℕ → Wanted = λ y. ([], y) in
      let t = get_there refs i (subst (λ k. i < k) (sym w.4) h.0) in
      let s : suc i ≡ i + 1 = omega arith in
      (f t.0, drop (suc i) (map f refs), w.5 ∙ drop_at (map f refs) i (f t.0) (get_map f refs i t.0 t.1), subst (λ k. IsAt ns k t.0) (sym h.1) (g w.0 t.0 w.1 w.2 w.3 t.1), h.2, (w.0, w.1, w.2, w.3, w.4, ap (λ k. drop k (map f refs)) s))

  pub object_next : (at i place : ℕ) (fs : Bor (Vec (String Global × String Global) Global)) (a : String Global × String Global) (key : Bor (List ℕ)) → slice_get fs.now.items i ≡ Some a → key.now ≡ string_bytes a.0 → IsPart at i place → (ws : List Wanted) → IsWanted F ns (Object at fs) i ws → (w : Wanted) × (rest : List Wanted) × (ws ≡ w ∷ rest) × IsAt ns place w.1 × IsKey (Object at fs) (Name key) w.0 × IsWanted F ns (Object at fs) (i + 1) rest
  object_next at i place fs a key e k g ws w =
      let f : String Global × String Global → Wanted = λ f. (string_bytes f.0, string_bytes f.1) in
      let all = map f fs.now.items in
      let here = get_map f fs.now.items i a e in
      let s : suc i ≡ i + 1 = omega arith in
      let second : Wanted → List ℕ = λ f. f.1 in
      (f a, drop (suc i) all, w.3 ∙ drop_at all i (f a) here, g w.0 (string_bytes a.1) (named all) w.1 w.2 (get_map second all i (f a) here), (key, refl, k), (w.0, w.1, w.2, ap (λ k. drop k all) s))

-- ---- the steps through the first of several places
pub steps_taken : (ps : List Place) (i : ℕ) (p : Place) → i < length ps → p ≡ get_or ps i p → steps_through (take (i + 1) ps) ≡ steps_through (take i ps) ++ steps_at p
steps_taken [] i p h e = absurd (omega (arith, h))
steps_taken (q ∷ ps) zero p h e = append-nil (steps_at q) ∙ ap (λ (p : Place). steps_at p) (sym e)
steps_taken (q ∷ ps) (suc i) p h e =
    let n : suc i + 1 ≡ suc (i + 1) = omega arith in
    ap (λ n. steps_through (take n (q ∷ ps))) n ∙ ap (λ l. steps_at q ++ l) (steps_taken ps i p (omega (arith, h)) e) ∙ sym (append_assoc (steps_at q) (steps_through (take i ps)) (steps_at p))

-- ---- fields
found_still : (m n : BTreeMap (Bor (List ℕ)) (List Token)) (name : List ℕ) (ms : Members) → ((q : List ℕ) → mark_of n q ≡ cond (bytes_eq name q) None (mark_of m q)) → (fs : List Wanted) → AllByRecursion (λ y. bytes_eq name y ≡ false) (map (λ (f : Wanted). f.0) fs) → AreFound m fs ms → AreFound n fs ms
found_still m n name ms u [] a h = tt
found_still m n name ms u (f ∷ fs) a h = (subst (λ (o : Option (List Token)). Finds o (get_member f.0 ms)) (sym (u f.0 ∙ ap (λ b. cond b None (mark_of m f.0)) a.0)) h.0, found_still m n name ms u fs a.1 h.1)

-- those that are left are others still
was_there : {A : Type 0} (b : Bool) (o : Option A) → IsSome (cond b None o) → (b ≡ false) × IsSome o
was_there true o s = absurd cc
was_there false o s = (refl, s)

others_still : (m n : BTreeMap (Bor (List ℕ)) (List Token)) (gs : List Wanted) (f : Wanted) (ms : Members) → ((q : List ℕ) → mark_of n q ≡ cond (bytes_eq f.0 q) None (mark_of m q)) → AreOthers m gs ms → AreOthers n (gs ++ f ∷ []) ms
others_still m n gs f ms u h = λ q s.
    let test : Wanted → Bool = λ g. bytes_eq q g.0 in
    let t = was_there (bytes_eq f.0 q) (mark_of m q) (subst (λ (o : Option (List Token)). IsSome o) (u q) s) in
    let a = h q t.1 in
    (a.0, list_any-append test gs (f ∷ []) ∙ ap (λ b. b || (test f || false)) a.1 ∙ ap (λ b. b || false) (nat_list_eq_equiv.symm q f.0 ∙ t.0))

pub fields_taken : (m n : BTreeMap (Bor (List ℕ)) (List Token)) (name : List ℕ) (o : Option (List Token)) → o ≡ mark_of m name → UpdatesBy (λ x y. slice_cmp nat_cmp x.now y.now) (λ q. slice_cmp nat_cmp name q.now) m n None → btree_map_len n + (if is_some o then 1 else 0) ≡ btree_map_len m → (gs : List Wanted) (f : Wanted) (fs : List Wanted) (ms : Members) (k : ℕ) → HasFields (TheMembers m) gs (f ∷ fs) ms k → name ≡ f.0 → MatchOption o (get_member f.0 ms ≡ None) (λ e. (j : Json) × (l : ℕ) × (get_member f.0 ms ≡ Some j) × BeginsWith e j × (k ≡ suc l) × HasFields (TheMembers n) (gs ++ f ∷ []) fs ms l)
fields_taken m n name None v u l gs f fs ms k h e = subst (λ (r : Option (List Token)). Finds r (get_member f.0 ms)) (sym (v ∙ ap (λ x. mark_of m x) e)) h.1.0
fields_taken m n name (Some t) v u l gs f fs ms k h e =
    let q = subst (λ (r : Option (List Token)). Finds r (get_member f.0 ms)) (sym (v ∙ ap (λ x. mark_of m x) e)) h.1.0 in
    let a = IsDistinct-head bytes_eq f.0 (map (λ (f : Wanted). f.0) fs) h.0 in
    let b = subst (λ (x : List ℕ). AllByRecursion (λ y. bytes_eq x y ≡ false) (map (λ (f : Wanted). f.0) fs)) (sym e) a in
    let c : k ≡ suc (btree_map_len n) = (let g = h.2 in omega (arith, g, l)) in
    let w = btree_map_updates_str name m n None u in
    let others = others_still m n gs f ms (subst (λ (x : List ℕ). (q : List ℕ) → mark_of n q ≡ cond (bytes_eq x q) None (mark_of m q)) e w) h.3 in
    (q.0, btree_map_len n, q.1, q.2, c, (IsDistinct-tail bytes_eq f.0 (map (λ (f : Wanted). f.0) fs) h.0, found_still m n name ms w fs b h.1.1, refl, others))

-- ---- entries in place
pub entry_taken : (kind : KeyKind) (old new : List Token) (text : Bor (List ℕ)) (e : List Token) → ((ms : Members) → InMembers old ms → (j : Json) × (rest : Members) × (ms ≡ member text.now j rest) × BeginsWith e j × InMembers new rest) → (es : List Entry) → HasEntries kind (InPlace old) es → (k : List ℕ) × (j : Json) × (rest : List Entry) × (es ≡ (k, j) ∷ rest) × IsEntryKey kind (TextKey text) k × BeginsWith e j × HasEntries kind (InPlace new) rest
entry_taken TextKeys old new text e v es h =
    let t = v h.0 h.1 in
    (text.now, t.0, entries_of t.1, h.2 ∙ ap (λ ms. entries_of ms) t.2, refl, t.3, (t.1, t.4, refl))
entry_taken (NumberKeys n) old new text e v es h = absurd h

pub entry_none : (kind : KeyKind) (old : List Token) → ((ms : Members) → InMembers old ms → ms ≡ no_members) → (es : List Entry) → HasEntries kind (InPlace old) es → es ≡ []
entry_none TextKeys old v es h = h.2 ∙ ap (λ ms. entries_of ms) (v h.0 h.1)
entry_none (NumberKeys n) old v es h = absurd h
