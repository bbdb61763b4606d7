-- JSON that says a value by the old definitions says it by the new ones, where each pair of names is alike.
use Rattle.std.proofs.Common.{◌≡◌, ◌⊎◌, inl, inr, ℕ, suc, zero, ◌<◌, ◌≤◌, List, [], ◌∷◌, ◌++◌, length, map, Option, Some, None, refl, sym, ◌∙◌, ap, subst, arith, append_assoc}
use Rattle.std.specs.Prelude.{ℤ, pos, slice_get, option_map, option_and_then}
use Rattle.std.specs.List.{IsDistinct}
use Rattle.std.specs.Str.{bytes_eq}
use Rattle.std.proofs.lemmas.List.{length-map}
use Rattle.std.proofs.lemmas.Option.{slice_get_within}
use Rattle.json.specs.Json.{Json, Items, no_items, item, Members}
use Rattle.json.specs.Find.{get_member}
use Rattle.borsh_walks.specs.Container.{tag}
use Rattle.borsh_json.specs.Forms.{Form, HasNoBytes}
use Rattle.borsh_json.specs.Represents.{HaveBytes, none_left, next_part}
use Rattle.borsh_json.specs.Table.{Lengths, Keys, Kind, inner, HasKind, IsPrefixed, IsArray, IsVariant, this, that, Part, row_parts, list_parts, field_parts, Entry, entry_parts, key_json, Says}
use Rattle.borsh_json.proofs.RepresentsLaws.{kind_one}
use Rattle.borsh_compare.specs.Together.{NamesGo}
use Rattle.borsh_compare.specs.Alike.{LieIn, KindsAlike, of_nothing, of_truth, of_whole, of_float, of_raw, of_utf8, of_byte_list, of_list, of_row, of_fields, of_optional, of_variants, of_entries, IsBehind, itself, within, AreAlike, unsaid, alike, GoAlike}

prefixed : {l m : Lengths} (k : ℕ) (bytes : List ℕ) {own : List ℕ} → LieIn l m → IsPrefixed l k bytes own → IsPrefixed m k bytes own
prefixed k bytes c p = (let a = c.1 in let b = p.0 in omega (arith, a, b), let a = c.2 in let b = p.1 in omega (arith, a, b), p.2 ∙ ap (λ w. tag w (pos k) ++ bytes) c.0)

listed : {k : ℤ} {v p : List ℕ} (vs : List (ℤ × List ℕ × List ℕ)) → IsVariant k v p vs → (i : ℕ) × (slice_get vs i ≡ Some (k, v, p))
listed [] l = elim l [ ]
listed (v ∷ vs) this = (zero, refl)
listed (v ∷ vs) (that l) = let r = listed vs l in (suc r.0, r.1)

pub tail_go : {R : List ℕ → List ℕ → Type 0} {x y : List ℕ} {xs ys : List (List ℕ)} → NamesGo R (x ∷ xs) (y ∷ ys) → NamesGo R xs ys
tail_go g = record { long = (let l = g.long in omega (arith, l)); each = λ i a b p q. g.each (suc i) a b p q }

names_long : (fs gs : List (List ℕ × List ℕ)) → map (λ (f : List ℕ × List ℕ). f.0) fs ≡ map (λ (f : List ℕ × List ℕ). f.0) gs → length fs ≡ length gs
names_long fs gs e = sym (length-map fs (λ f. f.0)) ∙ ap (λ l. length l) e ∙ length-map gs (λ f. f.0)

module _ (F G : List ℕ → Option Form) (R : List ℕ → List ℕ → Type 0) (all : (x y : List ℕ) → R x y → GoAlike F G R x y) where
  -- parts of the same JSON, of names that are alike
  data PartsAlike : List Part → List Part → Type 0 where
    no_parts : PartsAlike [] []
    more_parts : {x y : List ℕ} {j : Json} {ps qs : List Part} → AreAlike F G R x y → PartsAlike ps qs → PartsAlike ((x, j) ∷ ps) ((y, j) ∷ qs)

  abbrev Other : (List Part → Type 0) → List Part → Type 0
  Other P ps = (qs : List Part) × P qs × PartsAlike ps qs

  none : {ps : List Part} → ps ≡ [] → PartsAlike ps []
  none e = subst (λ l. PartsAlike l []) (sym e) no_parts

  one : {x y : List ℕ} {j : Json} {ps : List Part} → R x y → ps ≡ (x, j) ∷ [] → PartsAlike ps ((y, j) ∷ [])
  one {x = x} {y = y} {j = j} r e = subst (λ l. PartsAlike l ((y, j) ∷ [])) (sym e) (more_parts (all x y r).alike no_parts)

  both : {ps qs rs ss : List Part} → PartsAlike ps qs → PartsAlike rs ss → PartsAlike (ps ++ rs) (qs ++ ss)
  both no_parts b = b
  both (more_parts a more) b = more_parts a (both more b)

  list_alike : {e g : List ℕ} (js : Items) → R e g → PartsAlike (list_parts e js) (list_parts g js) × (length (list_parts e js) ≡ length (list_parts g js))
  list_alike no_items r = (no_parts, refl)
  list_alike {e = e} {g = g} (item j js) r = let t = list_alike js r in (more_parts (all e g r).alike t.0, ap suc t.1)

  array_alike : {l m : Lengths} {e g own : List ℕ} {j : Json} {ps : List Part} → LieIn l m → R e g → IsArray l e j own ps → Other (IsArray m g j own) ps
  array_alike {m = m} {g = g} {own = own} c r a =
      let t = list_alike a.0 r in (
        list_parts g a.0,
        (a.0, a.1, refl, subst (λ n. IsPrefixed m n [] own) (ap (λ l. length l) a.2 ∙ t.1) (prefixed _ _ c a.3)),
        subst (λ l. PartsAlike l (list_parts g a.0)) (sym a.2) t.0,
      )

  -- one more part, if the rest has parts
  more_alike : {x y : List ℕ} {ps : List Part} (j : Json) (o p : Option (List Part)) → R x y → ((rs : List Part) → o ≡ Some rs → Other (λ qs. p ≡ Some qs) rs) → option_map (λ rs. (x, j) ∷ rs) o ≡ Some ps → Other (λ qs. option_map (λ rs. (y, j) ∷ rs) p ≡ Some qs) ps
  more_alike j None p r f e = cc
  more_alike {x = x} {y = y} {ps = ps} j (Some rs) p r f e =
      let t = f rs refl in
      let s : (x, j) ∷ rs ≡ ps = cc in
      ((y, j) ∷ t.0, ap (λ o. option_map (λ rs. (y, j) ∷ rs) o) t.1, subst (λ l. PartsAlike l ((y, j) ∷ t.0)) s (more_parts (all x y r).alike t.2))

  row_alike : (xs ys : List (List ℕ)) (js : Items) (ps : List Part) → NamesGo R xs ys → row_parts xs js ≡ Some ps → Other (λ qs. row_parts ys js ≡ Some qs) ps
  row_alike [] [] no_items ps g e = ([], refl, none cc)
  row_alike [] [] (item j js) ps g e = cc
  row_alike [] (y ∷ ys) js ps g e = let l = g.long in absurd (omega (arith, l))
  row_alike (x ∷ xs) [] js ps g e = let l = g.long in absurd (omega (arith, l))
  row_alike (x ∷ xs) (y ∷ ys) no_items ps g e = cc
  row_alike (x ∷ xs) (y ∷ ys) (item j js) ps g e = more_alike j (row_parts xs js) (row_parts ys js) (g.each zero x y refl refl) (λ rs p. row_alike xs ys js rs (tail_go g) p) e

  abbrev names : List (List ℕ × List ℕ) → List (List ℕ)
  names fs = map (λ (f : List ℕ × List ℕ). f.0) fs

  abbrev types : List (List ℕ × List ℕ) → List (List ℕ)
  types fs = map (λ (f : List ℕ × List ℕ). f.1) fs

  fields_alike : (fs gs : List (List ℕ × List ℕ)) (ms : Members) (ps : List Part) → names fs ≡ names gs → NamesGo R (types fs) (types gs) → field_parts fs ms ≡ Some ps → Other (λ qs. field_parts gs ms ≡ Some qs) ps
  fields_alike [] [] ms ps n g e = ([], refl, none cc)
  fields_alike [] (h ∷ gs) ms ps n g e = cc
  fields_alike (f ∷ fs) [] ms ps n g e = cc
  fields_alike (f ∷ fs) (h ∷ gs) ms ps n g e =
      let a : f.0 ≡ h.0 = cc in
      let b : names fs ≡ names gs = cc in
      subst (λ o. Other (λ qs. option_and_then (λ j. option_map (λ rs. (h.1, j) ∷ rs) (field_parts gs ms)) o ≡ Some qs) ps) (ap (λ z. get_member z ms) a)
      (by_member (get_member f.0 ms) (g.each zero f.1 h.1 refl refl) (λ rs p. fields_alike fs gs ms rs b (tail_go g) p) e)
    where
      by_member : (o : Option Json) → R f.1 h.1 → ((rs : List Part) → field_parts fs ms ≡ Some rs → Other (λ qs. field_parts gs ms ≡ Some qs) rs) → option_and_then (λ j. option_map (λ rs. (f.1, j) ∷ rs) (field_parts fs ms)) o ≡ Some ps → Other (λ qs. option_and_then (λ j. option_map (λ rs. (h.1, j) ∷ rs) (field_parts gs ms)) o ≡ Some qs) ps
      by_member None r f e = cc
      by_member (Some j) r f e = more_alike j (field_parts fs ms) (field_parts gs ms) r f e

  entries_alike : {k v h u : List ℕ} (keys : Keys) (es : List Entry) → R k h → R v u → PartsAlike (entry_parts keys k v es) (entry_parts keys h u es)
  entries_alike keys [] r s = no_parts
  entries_alike {k = k} {v = v} {h = h} {u = u} keys (e ∷ es) r s = more_parts (all k h r).alike (more_parts (all v u s).alike (entries_alike keys es r s))

  says_alike : {kind other : Kind} (j : Json) (own : List ℕ) (ps : List Part) → KindsAlike R kind other → Says F kind j own ps → Other (Says G other j own) ps
  says_alike j own ps of_nothing s = ([], (s.0, s.1, refl), none s.2)
  says_alike j own ps of_truth s = ([], (s.0, s.1, s.2, refl), none s.3)
  says_alike j own ps of_whole s = ([], (s.0, s.1, s.2, refl), none s.3)
  says_alike j own ps of_float s = ([], (s.0, s.1, s.2, refl), none s.3)
  says_alike j own ps of_raw s = ([], (s.0, s.1, refl), none s.2)
  says_alike j own ps (of_utf8 c) s = ([], (s.0, s.1, s.2, prefixed _ _ c s.3, refl), none s.4)
  says_alike j own ps (of_byte_list c r) (inl s) = ([], inl (s.0, s.1, prefixed _ _ c s.2, refl), none s.3)
  says_alike j own ps (of_byte_list c r) (inr s) = let t = array_alike c r s in (t.0, inr t.1, t.2)
  says_alike j own ps (of_list c r) s = array_alike c r s
  says_alike j own ps (of_row {xs = xs} {ys = ys} g) s = let t = row_alike xs ys s.1 ps g s.3 in (t.0, (s.0, s.1, s.2, t.1), t.2)
  says_alike j own ps (of_fields {fs = fs} {gs = gs} n g) s =
      let t = fields_alike fs gs s.2 ps n g s.5 in
      (t.0, (subst (λ l. IsDistinct bytes_eq l) n s.0, s.1, s.2, s.3, s.4 ∙ names_long fs gs n, t.1), t.2)
  says_alike j own ps (of_optional r) (inl s) = ([], inl (s.0, s.1, refl), none s.2)
  says_alike j own ps (of_optional {q = q} r) (inr s) = ((q, j) ∷ [], inr (s.0, s.1, refl), one r s.2)
  says_alike j own ps (of_variants {vs = vs} d f) s =
      let i = listed vs s.4 in
      let t = f i.0 s.1 s.2 s.3 (slice_get_within vs i.0 _ i.1) i.1 in
      let a = all s.3 t.0 t.2 in
      elim s.6 [
        | inl z ↦ ([], (d, s.1, s.2, t.0, t.1, s.5, inl (z.0, a.forth z.1, refl)), none z.2)
        | inr z ↦ ((t.0, z.0) ∷ [], (d, s.1, s.2, t.0, t.1, s.5, inr (z.0, z.1, (λ b. z.2 (a.back b)), refl)), one t.2 z.3)
      ]
  says_alike j own ps (of_entries {m = m} {keys = keys} {h = h} {u = u} c r t) s =
      (entry_parts keys h u s.1, (s.0, s.1, s.2, s.3, s.4, prefixed _ _ c s.5, refl), subst (λ l. PartsAlike l (entry_parts keys h u s.1)) (sym s.6) (entries_alike keys s.1 r t))

  behind_back : {x y : List ℕ} {j : Json} {ps : List Part} {bs : List ℕ} → IsBehind G x y → HaveBytes G ((y, j) ∷ ps) bs → HaveBytes G ((x, j) ∷ ps) bs
  behind_back itself h = h
  behind_back {j = j} (within {y = y} i b) h = next_part (inner y) [] ((y, j) ∷ []) i (refl, refl) (behind_back b h)

  through : {x y : List ℕ} {j : Json} {kind : Kind} {own : List ℕ} {rs : List Part} → HasKind F x kind → Says F kind j own rs → HasKind F x (inner y) → (own ≡ []) × (rs ≡ (y, j) ∷ [])
  through {y = y} {j = j} {own = own} {rs = rs} h s i = subst (λ k. Says F k j own rs) (kind_one F h i) s

  says_on : {ps qs : List Part} {bs : List ℕ} → HaveBytes F ps bs → PartsAlike ps qs → HaveBytes G qs bs
  says_on none_left no_parts = none_left
  says_on (next_part {j = j} kind own rs h s rest) (more_parts (unsaid itself u) more) = absurd (u kind j own rs h s)
  says_on (next_part {bs = bs} {j = j} {ps = ps} kind own rs h s rest) (more_parts {y = y} {qs = qs} (unsaid (within i b) u) more) =
      let t = through h s i in
      subst (λ o. HaveBytes G ((y, j) ∷ qs) (o ++ bs)) (sym t.0) (says_on rest (subst (λ l. PartsAlike (l ++ ps) ((y, j) ∷ qs)) (sym t.1) (more_parts (unsaid b u) more)))
  says_on (next_part {bs = bs} {j = j} {ps = ps} kind own rs h s rest) (more_parts {y = y} {qs = qs} (alike (within i b) c k l a) more) =
      let t = through h s i in
      subst (λ o. HaveBytes G ((y, j) ∷ qs) (o ++ bs)) (sym t.0) (says_on rest (subst (λ l. PartsAlike (l ++ ps) ((y, j) ∷ qs)) (sym t.1) (more_parts (alike b c k l a) more)))
  says_on (next_part {j = j} kind own rs h s rest) (more_parts (alike {other = other} itself c k l a) more) =
      let t = says_alike j own rs a (subst (λ k. Says F k j own rs) (kind_one F h k) s) in
      behind_back c (next_part other own t.0 l t.1 (says_on rest (both t.2 more)))

  pub says_all : (x y : List ℕ) → R x y → (j : Json) (bytes : List ℕ) → HaveBytes F ((x, j) ∷ []) bytes → HaveBytes G ((y, j) ∷ []) bytes
  says_all x y r j bytes h = says_on h (more_parts (all x y r).alike no_parts)
