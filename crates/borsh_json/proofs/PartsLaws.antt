-- Rows, lists, objects and variants that are opened.
use Rattle.std.proofs.Common.{◌≡◌, inl, inr, ℕ, suc, zero, ◌≤◌, List, [], ◌∷◌, ◌++◌, length, map, replicate, Option, Some, None, refl, sym, ◌∙◌, ap, subst, arith, append-nil, string_bytes, IsSome, Ok, String, Vec, ℤ, pos, slice_get, ◌-◌, Bor, Global, BTreeMap, bytes_eq}
use Rattle.std.specs.List.{IsDistinct}
use Rattle.json.specs.{Token.{Token}, Json.{Json, string, array, object, Items, Members, no_members, member}, Find.{InItems, Finds, as_str, as_array, get_member}}
use Rattle.borsh_walks.specs.{Container.{tag, references, variant_names}, Tables.{mark_of}}
use Rattle.borsh_plan.specs.declared.named.Named.{Named}
use Rattle.borsh_json.specs.{declared.error.ReadError.{ReadError}, declared.position.Parts.TheVariants.{List as Elements, Row, Object}, declared.position.Place.{Place}, declared.sources.Source.{Source}, declared.sources.Source.TheVariants.{Items as TheItems}, Forms.{Form, named, choice, shape_of_form, HasNoBytes, field_bytes}, Frames.{DeniesRead, FailsRead, Wanted, AreFound, AreOthers, HasFields, HasLeft, IsOpened, NamesVariant, items_left, fields_left, IsListKind, IsUnexpected}, NoValue.{SaysOwn, NamesNoVariant}, Places.{IsAt, IsUnsayable}, Table.{Lengths, Kind, byte_list, row, fields, variants, HasKind, Part, row_parts, list_parts, entries_of, IsVariant, IsHex, IsPrefixed, IsArray, Says}}
use Rattle.borsh_json.proofs.{FormKinds.{form_found}, RepresentsLaws.{variant_one}, OpeningLaws.{denied, said, framed, row_fits, rows_there, list_row, list_length, second_map, second_copies, refuses_plain}}

array_one : (js ks : Items) → array js ≡ array ks → js ≡ ks
array_one js ks e = cc

module _ (F : List ℕ → Option Form) (ns : List Named) (x : List ℕ) (j : Json) where
  -- nothing is said of the name
  pub unsayable : IsUnsayable F x → SaysOwn F x j → ⊥
  unsayable h s = let f = s.2 in h f.0 j s.0 s.1 f.1 f.2

  -- ---- rows
  module _ (f : Form) (at n : ℕ) (i : IsAt ns at x) (d : F x ≡ Some f) (h : HasKind F x (row (references (shape_of_form f)))) (c : length (references (shape_of_form f)) ≡ n) where
    pub row_opened : (place : Place) (ts : List Token) (js : Items) (k : ℕ) → place.parts ≡ Row at n → place.begun ≡ 0 → j ≡ array js → InItems ts js → k ≡ length (list_parts [] js) → k ≡ n → IsOpened F ns x j [] [] (Ok (Some (record { place = place; source = TheItems ts })))
    row_opened place ts js k p b e t l q =
        let refs = references (shape_of_form f) in
        let nameless : List ℕ → Wanted = λ y. ([], y) in
        let r = rows_there refs js k l (c ∙ sym q) in
        let left = items_left refs js in
        let there : HasLeft F ns (Row at n) 0 (TheItems ts) left = (map nameless refs, (x, f, i, d, c, refl), sym (second_map refs), t, r.0, r.1, λ z. z) in
        ([], refl, framed F ns x j place (TheItems ts) (Row at n) (row refs) [] left p b h there (r.0, r.1, (refl, js, e, r.1)) (refs, refl, refl))

    pub row_count : (js : Items) (k : ℕ) → j ≡ array js → k ≡ length (list_parts [] js) → (k ≡ n → ⊥) → SaysOwn F x j → ⊥
    row_count js k e l q = denied F ns x j (row (references (shape_of_form f))) h (λ own ps s.
        let o = array_one s.1 js (sym s.2 ∙ e) in
        q (l ∙ ap (λ js. length (list_parts [] js)) (sym o) ∙ row_fits (references (shape_of_form f)) s.1 ps s.3 ∙ c))

    pub no_row : as_array j ≡ None → SaysOwn F x j → ⊥
    no_row e = denied F ns x j (row (references (shape_of_form f))) h (λ own ps s. let g = ap as_array s.2 in cc)

  -- ---- lists
  module _ (kind : Kind) (l : Lengths) (e : List ℕ) (at : ℕ) (i : IsAt ns at e) (h : HasKind F x kind) (is : IsListKind kind)
      (to : (own : List ℕ) (ps : List Part) → IsArray l e j own ps → Says F kind j own ps)
      (back : (own : List ℕ) (ps : List Part) → Says F kind j own ps → IsArray l e j own ps) where
    pub list_opened : (place : Place) (ts : List Token) (js : Items) (n : ℕ) (old new : List ℕ) → place.parts ≡ Elements at n → place.begun ≡ 0 → j ≡ array js → InItems ts js → n ≡ length (list_parts [] js) → l.least ≤ n → n ≤ l.greatest → new ≡ old ++ tag l.width (pos n) → IsOpened F ns x j old new (Ok (Some (record { place = place; source = TheItems ts })))
    list_opened place ts js n old new p b g t c low high o =
        let ps = list_parts e js in
        let k : length ps ≡ n = list_length e js ∙ sym c in
        let own = tag l.width (pos (length ps)) ++ [] in
        let left = items_left (replicate n e) js in
        let least : n ≡ n - 0 = omega arith in
        let r : row_parts (replicate n e) js ≡ Some ps = ap (λ m. row_parts (replicate m e) js) c ∙ list_row e js in
        let there : HasLeft F ns (Elements at n) 0 (TheItems ts) left = (replicate n ([], e), (e, i, ap (λ (k : ℕ). replicate k ([], e)) least), sym (second_copies n e), t, ps, r, λ z. z) in
        let q : own ≡ tag l.width (pos n) = append-nil (tag l.width (pos (length ps))) ∙ ap (λ m. tag l.width (pos m)) k in
        (own, o ∙ ap (λ z. old ++ z) (sym q), framed F ns x j place (TheItems ts) (Elements at n) kind own left p b h there (ps, r, to own ps (js, g, refl, (omega (arith, k, low), omega (arith, k, high), refl))) (is, refl, (js, g)))

    pub no_list : as_array j ≡ None → SaysOwn F x j → ⊥
    no_list g = denied F ns x j kind h (λ own ps s. let q = back own ps s in let k = ap as_array q.1 in cc)

    pub list_range : (error : ReadError) (js : Items) (n : ℕ) → j ≡ array js → n ≡ length (list_parts [] js) → DeniesRead IsUnexpected error ((l.least ≤ n) × (n ≤ l.greatest)) → FailsRead F x j error
    list_range error js n g c d = refuses_plain F ns x j error (λ s.
        let t = said F ns x j kind h s in
        let q = back t.0 t.1 t.2 in
        let o = array_one q.0 js (sym q.1 ∙ g) in
        let k : length t.1 ≡ n = ap (λ l. length l) q.2 ∙ list_length e q.0 ∙ ap (λ js. length (list_parts [] js)) o ∙ sym c in
        (let low = q.3.0 in omega (arith, k, low), let high = q.3.1 in omega (arith, k, high))) d

-- ---- objects
form_named : (F : List ℕ → Option Form) (x : List ℕ) (fs : List (List ℕ × List ℕ)) → HasKind F x (fields fs) → F x ≡ Some (named fs)
form_named F x fs h = let f = form_found F (fields fs) h (λ e. cc) in f.1 ∙ ap (λ d. Some d) f.2

pub all_found : (m : BTreeMap (Bor (List ℕ)) (List Token)) (fs : List Wanted) (ms : Members) → ((name : List ℕ) → Finds (mark_of m name) (get_member name ms)) → AreFound m fs ms
all_found m [] ms h = tt
all_found m (f ∷ fs) ms h = (h f.0, all_found m fs ms h)

-- and finds no others
others_if : (o : Option (List Token)) (p : Option Json) → Finds o p → IsSome o → IsSome p
others_if None p f s = absurd cc
others_if (Some t) p f s = subst (λ (p : Option Json). IsSome p) (sym f.1) refl

pub all_others : (m : BTreeMap (Bor (List ℕ)) (List Token)) (ms : Members) → ((name : List ℕ) → Finds (mark_of m name) (get_member name ms)) → AreOthers m [] ms
all_others m ms h = λ name s. (others_if (mark_of m name) (get_member name ms) (h name) s, refl)

pub names_of : {A : Type 0} (a b : A → List ℕ) (xs : List A) → map (λ (f : Wanted). f.0) (map (λ x. (a x, b x)) xs) ≡ map a xs
names_of a b [] = refl
names_of a b (x ∷ xs) = ap (λ l. a x ∷ l) (names_of a b xs)

module _ (F : List ℕ → Option Form) (ns : List Named) (x : List ℕ) (j : Json) (at : ℕ) (fs : Bor (Vec (String Global × String Global) Global)) (i : IsAt ns at x) where
  pub object_opened : (place : Place) (s : Source) (ms : Members) (n : ℕ) → HasKind F x (fields (map field_bytes fs.now.items)) → IsDistinct bytes_eq (map (λ f. string_bytes f.0) fs.now.items) → place.parts ≡ Object at fs → place.begun ≡ 0 → j ≡ object ms → n ≡ length (entries_of ms) → HasFields s [] (map field_bytes fs.now.items) ms n → IsOpened F ns x j [] [] (Ok (Some (record { place = place; source = s })))
  object_opened place s ms n h u p b e c g =
      let pair : String Global × String Global → Wanted = λ f. (string_bytes f.0, string_bytes f.1) in
      let all = map pair fs.now.items in
      let d = subst (λ (l : List (List ℕ)). IsDistinct bytes_eq l) (sym (names_of (λ (f : String Global × String Global). string_bytes f.0) (λ f. string_bytes f.1) fs.now.items)) u in
      let left = fields_left [] all ms n in
      let there : HasLeft F ns (Object at fs) 0 s left = (tt, (x, i, form_named F x all h, refl), g) in
      ([], refl, framed F ns x j place s (Object at fs) (fields all) [] left p b h there (refl, d, refl, e, refl, omega (arith, c)) (refl, refl))

-- ---- variants
pub form_choice : (F : List ℕ → Option Form) (x : List ℕ) (w : ℕ) (vs : List (ℤ × List ℕ × List ℕ)) → HasKind F x (variants w vs) → F x ≡ Some (choice w vs)
form_choice F x w vs h = let f = form_found F (variants w vs) h (λ e. cc) in f.1 ∙ ap (λ d. Some d) f.2

pub variant_part : (vs : List (ℤ × List ℕ × List ℕ)) (i : ℕ) (k : ℤ) (v p : List ℕ) → slice_get vs i ≡ Some (k, v, p) → slice_get (variant_names (map (λ (v : ℤ × List ℕ × List ℕ). (v.0, v.2)) vs)) i ≡ Some p
variant_part [] zero k v p e = cc
variant_part [] (suc i) k v p e = cc
variant_part (u ∷ vs) zero k v p e = (let t : ℤ × List ℕ × List ℕ = (k, v, p) in let h : u ≡ t = cc in ap (λ (u : ℤ × List ℕ × List ℕ). Some u.2) h)
variant_part (u ∷ vs) (suc i) k v p e = variant_part vs i k v p e

module _ (F : List ℕ → Option Form) (ns : List Named) (x : List ℕ) (j : Json) (w : ℕ) (vs : List (ℤ × List ℕ × List ℕ)) (h : HasKind F x (variants w vs)) where
  pub no_variant_json : ((v : List ℕ) → j ≡ string v → ⊥) → ((v : List ℕ) (i : Json) → j ≡ object (member v i no_members) → ⊥) → SaysOwn F x j → ⊥
  no_variant_json f g = denied F ns x j (variants w vs) h (λ own ps s. elim s.6 [ inl a ↦ f s.2 a.0 | inr a ↦ g s.2 a.0 a.1 ])

  module _ (v : List ℕ) (d : IsDistinct bytes_eq (map (λ (v : ℤ × List ℕ × List ℕ). v.1) vs)) where
    -- the name alone
    module _ (e : j ≡ string v) where
      pub no_name : ((k : ℤ) (p : List ℕ) → IsVariant k v p vs → ⊥) → SaysOwn F x j → ⊥
      no_name f = denied F ns x j (variants w vs) h (λ own ps s. elim s.6 [
        | inl a ↦ (let q : string v ≡ string s.2 = sym e ∙ a.0 in let n : s.2 ≡ v = cc in f s.1 s.3 (subst (λ (v : List ℕ). IsVariant s.1 v s.3 vs) n s.4))
        | inr a ↦ (let q : string v ≡ object (member s.2 a.0 no_members) = sym e ∙ a.1 in cc)
      ])

      pub wants_value : (k : ℤ) (p : List ℕ) → IsVariant k v p vs → (HasNoBytes F p → ⊥) → SaysOwn F x j → ⊥
      wants_value k p i z = denied F ns x j (variants w vs) h (λ own ps s. elim s.6 [
        | inl a ↦ (let q : string v ≡ string s.2 = sym e ∙ a.0 in let n : s.2 ≡ v = cc in z (subst (λ (p : List ℕ). HasNoBytes F p) (variant_one d s.4 i n).1 a.1))
        | inr a ↦ (let q : string v ≡ object (member s.2 a.0 no_members) = sym e ∙ a.1 in cc)
      ])

    -- the name with a value
    module _ (i : Json) (e : j ≡ object (member v i no_members)) where
      pub no_key : ((k : ℤ) (p : List ℕ) → IsVariant k v p vs → ⊥) → SaysOwn F x j → ⊥
      no_key f = denied F ns x j (variants w vs) h (λ own ps s. elim s.6 [
        | inl a ↦ (let q : object (member v i no_members) ≡ string s.2 = sym e ∙ a.0 in cc)
        | inr a ↦ (let q : object (member v i no_members) ≡ object (member s.2 a.0 no_members) = sym e ∙ a.1 in let n : s.2 ≡ v = cc in f s.1 s.3 (subst (λ (v : List ℕ). IsVariant s.1 v s.3 vs) n s.4))
      ])

      pub wants_none : (k : ℤ) (p : List ℕ) → IsVariant k v p vs → HasNoBytes F p → SaysOwn F x j → ⊥
      wants_none k p c z = denied F ns x j (variants w vs) h (λ own ps s. elim s.6 [
        | inl a ↦ (let q : object (member v i no_members) ≡ string s.2 = sym e ∙ a.0 in cc)
        | inr a ↦ (let q : object (member v i no_members) ≡ object (member s.2 a.0 no_members) = sym e ∙ a.1 in let n : s.2 ≡ v = cc in a.2 (subst (λ (p : List ℕ). HasNoBytes F p) (sym (variant_one d s.4 c n).1) z))
      ])

-- ---- lists of bytes
module _ (F : List ℕ → Option Form) (j : Json) (l : Lengths) (e : List ℕ) (own : List ℕ) (ps : List Part) where
  pub no_text : as_str j ≡ None → Says F (byte_list l e) j own ps → IsArray l e j own ps
  no_text g (inl p) = (let k = ap as_str p.1.1 in cc)
  no_text g (inr p) = p

  pub byte_said : (t : List ℕ) → j ≡ string t → Says F (byte_list l e) j own ps → (bs : List ℕ) × IsHex (string t) bs × IsPrefixed l (length bs) bs own
  byte_said t g (inl p) = (p.0, subst (λ (i : Json). IsHex i p.0) g p.1, p.2)
  byte_said t g (inr p) = (let k : string t ≡ array p.0 = sym g ∙ p.1 in cc)

pub third_names : {A : Type 0} (k : A → ℤ) (n t : A → List ℕ) (xs : List A) → map (λ (v : ℤ × List ℕ × List ℕ). v.1) (map (λ a. (k a, n a, t a)) xs) ≡ map n xs
third_names k n t [] = refl
third_names k n t (x ∷ xs) = ap (λ l. n x ∷ l) (third_names k n t xs)

-- a name that no variant has
pub unknown_variant : (F : List ℕ → Option Form) (ns : List Named) (x : List ℕ) (j : Json) (w : ℕ) (vs : List (ℤ × List ℕ × List ℕ)) → HasKind F x (variants w vs) → (v : List ℕ) → IsDistinct bytes_eq (map (λ (v : ℤ × List ℕ × List ℕ). v.1) vs) → (o : Option (List Token)) → NamesVariant j (Some (v, o)) → ((k : ℤ) (p : List ℕ) → IsVariant k v p vs → ⊥) → NamesNoVariant F x j v × (SaysOwn F x j → ⊥)
unknown_variant F ns x j w vs h v d None n f = ((w, vs, h, inl n, f), no_name F ns x j w vs h v d n f)
unknown_variant F ns x j w vs h v d (Some e) n f = ((w, vs, h, inr (n.0, n.1), f), no_key F ns x j w vs h v d n.0 n.1 f)
