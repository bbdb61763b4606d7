-- Names whose kinds the code found, and that are written alike.
use Rattle.std.proofs.Common.{◌≡◌, inl, inr, ℕ, zero, ◌<◌, List, [], ◌∷◌, ◌++◌, map, length, Bool, true, false, true≢false, Option, Some, None, refl, sym, ◌∙◌, ap, subst, arith, string_bytes}
use Rattle.std.specs.Prelude.{ℤ, String, Decides, slice_get, option_map}
use Rattle.std.specs.Borrow.{Bor}
use Rattle.std.specs.Float.{Format, binary32, binary64}
use Rattle.std.specs.Global.{Global}
use Rattle.std.specs.List.{IsDistinct}
use Rattle.std.specs.Str.{bytes_eq}
use Rattle.std.proofs.lemmas.Option.{slice_get-map, slice_get_within}
use Rattle.std.proofs.lemmas.List.{length-map}
use Rattle.borsh_walks.specs.Container.{references, variant_names}
use Rattle.borsh_walks.specs.declared.definition.Definition.{Definition}
use Rattle.borsh_plan.specs.declared.named.Named.{Named}
use Rattle.borsh_plan.specs.declared.plan.Plan.{Plan}
use Rattle.borsh_plan.specs.Names.{name_of, parts_in, shape_at}
use Rattle.borsh_plan.specs.Plan.{map_of, names_of, planned, root_of}
use Rattle.borsh_json.specs.declared.kinds.Elements.{Elements}
use Rattle.borsh_json.specs.declared.kinds.Entries.{Entries}
use Rattle.borsh_json.specs.declared.kinds.KeyKind.{KeyKind}
use Rattle.borsh_json.specs.declared.kinds.KeyKind.TheVariants.{Text, Number as NumberKeys}
use Rattle.borsh_json.specs.declared.kinds.Kind.{Kind as Found}
use Rattle.borsh_json.specs.declared.kinds.Kind.TheVariants.{Newtype}
use Rattle.borsh_json.specs.declared.numbers.Number.{Number}
use Rattle.borsh_json.specs.Forms.{Form, HasNoBytes, form_of, shape_of_form}
use Rattle.borsh_json.specs.Places.{AreKeysOf, IsAt, IsKindAt, IsKindOf, IsListOf, lengths_of}
use Rattle.borsh_json.specs.Table.{Keys, numbers, Kind, whole, float, float_size, byte_list, fields, variants, entries, HasKind, IsVariant, row}
use Rattle.borsh_json.proofs.FormKinds.{form_known}
use Rattle.borsh_json.proofs.OpeningLaws.{variant_here}
use Rattle.borsh_json.proofs.FoundLaws.{on_some, on_none}
use Rattle.borsh_walks.specs.Forms.{field_bytes, variant_bytes}
use Rattle.borsh_walks.proofs.Forms.{shapes_are}
use Rattle.std.proofs.lemmas.Simd.{map-map}
use Rattle.borsh_compare.specs.Together.{NamesGo, unnamed}
use Rattle.borsh_compare.specs.Walks.{HasPair, Paired, PartGoes}
use Rattle.borsh_compare.specs.Alike.{AlikeAt, AreKeysAlike, AreAlike, alike, FoundAlike, GoAlike, GoAlikeAt, SaysAlso, IsBehind, itself, within, unsaid, KindsAlike, of_nothing, of_whole, of_float, of_byte_list, of_list, of_row, of_fields, of_variants, of_entries, HasVariantParts, LieIn, VariantAlike, VariantsAlike, field_names, forms_of, variants_of}
use Rattle.borsh_compare.specs.declared.pairs.Pair.{Pair}
use Rattle.borsh_compare.proofs.Saying.{says_all, tail_go}
use Rattle.borsh_walks.proofs.Propositions.{same_some}
use Rattle.borsh_compare.proofs.Parts.{defined_of, variant_part}

abbrev Listed : Type 0
Listed = ℤ × String Global × String Global

format_one : (g h : Format) → float_size g ≡ float_size h → g ≡ h
format_one binary32 binary32 e = refl
format_one binary32 binary64 e = absurd (omega (arith, e))
format_one binary64 binary32 e = absurd (omega (arith, e))
format_one binary64 binary64 e = refl

keys_one : (F G : List ℕ → Option Form) (ns ms : List Named) (k h : List ℕ) (f g : Form) (a b : KeyKind) (s t : Keys) → AreKeysAlike a b → AreKeysOf F ns k f a s → AreKeysOf G ms h g b t → s ≡ t
keys_one F G ns ms k h f g Text Text s t e p q = p.0 ∙ sym q.0
keys_one F G ns ms k h f g Text (NumberKeys n) s t e p q = absurd e
keys_one F G ns ms k h f g (NumberKeys n) Text s t e p q = absurd e
keys_one F G ns ms k h f g (NumberKeys m) (NumberKeys n) s t e p q = p.0 ∙ ap numbers e ∙ sym q.0

behind_on : {F : List ℕ → Option Form} {x y z : List ℕ} → IsBehind F x y → IsBehind F y z → IsBehind F x z
behind_on itself b = b
behind_on (within i a) b = within i (behind_on a b)

-- what is behind two names tells of them
pub alike_behind : {F G : List ℕ → Option Form} {R : List ℕ → List ℕ → Type 0} {x y a b : List ℕ} → IsBehind F x a → IsBehind G y b → AreAlike F G R a b → AreAlike F G R x y
alike_behind p q (unsaid r u) = unsaid (behind_on p r) u
alike_behind p q (alike r s k l a) = alike (behind_on p r) (behind_on q s) k l a

parts_known : (p : Plan) (i : ℕ) (x : List ℕ) (f : Form) → IsAt (names_of p) i x → forms_of p x ≡ Some f → parts_in (shape_at (names_of p) i) ≡ references (shape_of_form f)
parts_known p i x f e h = ap (λ o. parts_in o) (sym (defined_of p x i e) ∙ sym (ap (λ C. C x) (shapes_are (map_of p))) ∙ ap (λ o. option_map shape_of_form o) h)

pub pairing : (old new : Plan) {pairs : List Pair} {a b : ℕ} {p q : List ℕ} → HasPair pairs a b → IsAt (names_of old) a p → IsAt (names_of new) b q → Paired old new pairs p q
pairing old new {a = a} {b = b} h p q = record { old_place = a; new_place = b; has = h; old = p; new = q }

module _ (old new : Plan) (pairs : List Pair) (i j : ℕ) (x y : List ℕ) (ix : IsAt (names_of old) i x) (iy : IsAt (names_of new) j y) (f g : Form) (fx : forms_of old x ≡ Some f) (gy : forms_of new y ≡ Some g) where
  abbrev F : List ℕ → Option Form
  F = forms_of old

  abbrev G : List ℕ → Option Form
  G = forms_of new

  abbrev R : List ℕ → List ℕ → Type 0
  R = Paired old new pairs

  pub of_kinds : {kind other : Kind} → HasKind F x kind → HasKind G y other → KindsAlike R kind other → AreAlike F G R x y
  of_kinds p q a = alike itself itself p q a

  pub of_numbers : (a b : Number) → a.size ≡ b.size → a.is_signed ≡ b.is_signed → a.is_non_zero ≡ b.is_non_zero → HasKind F x (whole a.size a.is_signed a.is_non_zero) → HasKind G y (whole b.size b.is_signed b.is_non_zero) → AreAlike F G R x y
  of_numbers a b s t z p q = (let e : whole b.size b.is_signed b.is_non_zero ≡ whole a.size a.is_signed a.is_non_zero = cc in of_kinds p (subst (λ k. HasKind G y k) e q) of_whole)

  pub of_floats : (m n : ℕ) → m ≡ n → (h : Format) × (m ≡ float_size h) × HasKind F x (float h) → (h : Format) × (n ≡ float_size h) × HasKind G y (float h) → AreAlike F G R x y
  of_floats m n e p q = of_kinds p.2 (subst (λ h. HasKind G y (float h)) (format_one q.0 p.0 (sym q.1 ∙ sym e ∙ p.1)) q.2) of_float

  pub of_lists : (a b : ℕ) → LieIn (lengths_of f) (lengths_of g) → HasPair pairs a b → IsListOf F (names_of old) x f a → IsListOf G (names_of new) y g b → AreAlike F G R x y
  of_lists a b l h p q = of_kinds p.2 q.2 (of_list l (pairing old new h p.1 q.1))

  pub of_byte_lists : (a b : Elements) → LieIn (lengths_of f) (lengths_of g) → HasPair pairs a.at b.at → (e : List ℕ) × IsAt (names_of old) a.at e × HasKind F x (byte_list (lengths_of f) e) → (e : List ℕ) × IsAt (names_of new) b.at e × HasKind G y (byte_list (lengths_of g) e) → AreAlike F G R x y
  of_byte_lists a b l h p q = of_kinds p.2 q.2 (of_byte_list l (pairing old new h p.1 q.1))

  pub of_maps : (a b : Entries) → LieIn (lengths_of f) (lengths_of g) → AreKeysAlike a.key_kind b.key_kind → HasPair pairs a.key b.key → HasPair pairs a.value b.value → (k : List ℕ) × (v : List ℕ) × (keys : Keys) × IsAt (names_of old) a.key k × IsAt (names_of old) a.value v × HasKind F x (entries (lengths_of f) keys k v) × AreKeysOf F (names_of old) k (form_of a.key_definition.now) a.key_kind keys → (k : List ℕ) × (v : List ℕ) × (keys : Keys) × IsAt (names_of new) b.key k × IsAt (names_of new) b.value v × HasKind G y (entries (lengths_of g) keys k v) × AreKeysOf G (names_of new) k (form_of b.key_definition.now) b.key_kind keys → AreAlike F G R x y
  of_maps a b l e h u p q =
      let s = keys_one F G (names_of old) (names_of new) p.0 q.0 (form_of a.key_definition.now) (form_of b.key_definition.now) a.key_kind b.key_kind p.2 q.2 e p.6 q.6 in
      of_kinds p.5 (subst (λ keys. HasKind G y (entries (lengths_of g) keys q.0 q.1)) (sym s) q.5) (of_entries l (pairing old new h p.3 q.3) (pairing old new u p.4 q.4))

  -- the parts of the names, by their definitions
  parts_go : NamesGo R (parts_in (shape_at (names_of old) i)) (parts_in (shape_at (names_of new) j)) → NamesGo R (references (shape_of_form f)) (references (shape_of_form g))
  parts_go n = subst (λ l. NamesGo R (references (shape_of_form f)) l) (parts_known new j y g iy gy) (subst (λ l. NamesGo R l (parts_in (shape_at (names_of new) j))) (parts_known old i x f ix fx) n)

  pub of_rows : NamesGo R (parts_in (shape_at (names_of old) i)) (parts_in (shape_at (names_of new) j)) → HasKind F x (row (references (shape_of_form f))) → HasKind G y (row (references (shape_of_form g))) → AreAlike F G R x y
  of_rows n p q = of_kinds p q (of_row (parts_go n))

  pub of_objects : (a b : List (String Global × String Global)) → field_names a ≡ field_names b → NamesGo R (parts_in (shape_at (names_of old) i)) (parts_in (shape_at (names_of new) j)) → HasKind F x (fields (map field_bytes a)) → HasKind G y (fields (map field_bytes b)) → AreAlike F G R x y
  of_objects a b e n p q =
      let s = form_known F _ f p fx (λ e. cc) in
      let t = form_known G _ g q gy (λ e. cc) in
      let first = subst (λ z. NamesGo R (references (shape_of_form z)) (references (shape_of_form g))) s (parts_go n) in
      of_kinds p q (of_fields (map-map (λ f. f.0) field_bytes a ∙ e ∙ sym (map-map (λ f. f.0) field_bytes b)) (subst (λ z. NamesGo R (map (λ (f : List ℕ × List ℕ). f.1) (map field_bytes a)) (references (shape_of_form z))) t first))

  pub of_choices : (w v : ℕ) (a b : List Listed) → w ≡ v → (HasVariantParts old i a → HasVariantParts new j b → VariantsAlike R (length (variants_of a)) (variants_of a) (variants_of b)) → IsDistinct bytes_eq (map (λ v. string_bytes v.1) b) → HasKind F x (variants w (variants_of a)) → HasKind G y (variants v (variants_of b)) → AreAlike F G R x y
  of_choices w v a b e n d p q =
      let s = form_known F _ f p fx (λ e. cc) in
      let t = form_known G _ g q gy (λ e. cc) in
      let ha : HasVariantParts old i a = parts_known old i x f ix fx ∙ ap (λ z. references (shape_of_form z)) s ∙ ap (λ l. variant_names l) (map-map (λ v. (v.0, v.2)) variant_bytes a) in
      let hb : HasVariantParts new j b = parts_known new j y g iy gy ∙ ap (λ z. references (shape_of_form z)) t ∙ ap (λ l. variant_names l) (map-map (λ v. (v.0, v.2)) variant_bytes b) in
      of_kinds p (subst (λ z. HasKind G y (variants z (variants_of b))) (sym e) q) (of_variants (subst (λ l. IsDistinct bytes_eq l) (sym (map-map (λ v. v.1) variant_bytes b)) d) (n ha hb))

-- a variant that has the other's discriminant and name
pub variant_step : (old new : Plan) (pairs : List Pair) (i j a b : ℕ) (vs us : List Listed) (u v : Listed) → slice_get vs a ≡ Some u → slice_get us b ≡ Some v → u.0 ≡ v.0 → string_bytes u.1 ≡ string_bytes v.1 → PartGoes old new pairs i j a b → HasVariantParts old i vs → HasVariantParts new j us → VariantAlike old new pairs a (variants_of vs) (variants_of us)
variant_step old new pairs i j a b vs us u v p q d e g hv hu k w t h =
    let au = slice_get-map {A = Listed} variant_bytes vs a ∙ ap (λ o. option_map variant_bytes o) p in
    let bv = slice_get-map {A = Listed} variant_bytes us b ∙ ap (λ o. option_map variant_bytes o) q in
    let same : (u.0, string_bytes u.1, string_bytes u.2) ≡ (k, w, t) = same_some au h in
    let pu = slice_get-map {A = Listed} (λ v. (v.0, string_bytes v.2)) vs a ∙ ap (λ o. option_map (λ v. (v.0, string_bytes v.2)) o) p in
    let pv = slice_get-map {A = Listed} (λ v. (v.0, string_bytes v.2)) us b ∙ ap (λ o. option_map (λ v. (v.0, string_bytes v.2)) o) q in
    let x : g.old_name ≡ t = same_some g.old_there (ap (λ l. slice_get l a) hv ∙ variant_part (unnamed vs) a u.0 (string_bytes u.2) pu) ∙ ap (λ (z : ℤ × List ℕ × List ℕ). z.2) same in
    let y : g.new_name ≡ string_bytes v.2 = same_some g.new_there (ap (λ l. slice_get l b) hu ∙ variant_part (unnamed us) b v.0 (string_bytes v.2) pv) in
    let there : IsVariant v.0 (string_bytes v.1) (string_bytes v.2) (variants_of us) = variant_here _ _ _ (variants_of us) b bv in
    let k_is : v.0 ≡ k = sym d ∙ ap (λ (z : ℤ × List ℕ × List ℕ). z.0) same in
    let w_is : string_bytes v.1 ≡ w = sym e ∙ ap (λ (z : ℤ × List ℕ × List ℕ). z.1) same in
    (string_bytes v.2, subst (λ z. IsVariant z w (string_bytes v.2) (variants_of us)) k_is (subst (λ z. IsVariant v.0 z (string_bytes v.2) (variants_of us)) w_is there), subst (λ z. Paired old new pairs z (string_bytes v.2)) x (subst (λ z. Paired old new pairs g.old_name z) y g.paired))

-- fields of the same names
pub same_names : (xs ys : List (List ℕ)) → NamesGo (λ x y. x ≡ y) xs ys → xs ≡ ys
same_names [] [] g = refl
same_names [] (y ∷ ys) g = (let l = g.long in absurd (omega (arith, l)))
same_names (x ∷ xs) [] g = (let l = g.long in absurd (omega (arith, l)))
same_names (x ∷ xs) (y ∷ ys) g = (let a : x ≡ y = g.each zero x y refl refl in let b : xs ≡ ys = same_names xs ys (tail_go g) in cc)

-- ---- at places
module _ (p : Plan) (at : ℕ) (z : Bool) (zero : (x : List ℕ) → IsAt (names_of p) at x → Decides z (HasNoBytes (forms_of p) x)) (found : Option (Bor Definition × Found)) (kind : IsKindAt (forms_of p) (names_of p) at found) where
  full : z ≡ false → (x : List ℕ) → IsAt (names_of p) at x → HasNoBytes (forms_of p) x → ⊥
  full e x i n = true≢false (sym ((zero x i).1 n) ∙ e)

  -- one more newtype
  pub behind_step : (d : Bor Definition) (part : ℕ) → z ≡ false → found ≡ Some (d, Newtype part) → (x y : List ℕ) → IsAt (names_of p) at y → IsBehind (forms_of p) x y → (w : List ℕ) × IsAt (names_of p) part w × IsBehind (forms_of p) x w
  behind_step d part e f x y i b = (let k = on_some _ _ found (d, Newtype part) f (kind y i (full e y i)) in (k.1.0, k.1.1, behind_on b (within k.1.2 itself)))

  -- a name without a definition
  pub none_alike : (new : Plan) (pairs : List Pair) (j : ℕ) → z ≡ false → found ≡ None → AlikeAt p new pairs at j
  none_alike new pairs j e f x y ix iy =
      let n : forms_of p x ≡ None = on_none _ _ found f (kind x ix (full e x ix)) in
      unsaid itself (λ kind j own ps h s. elim h [ inl o ↦ full e x ix o.0 | inr o ↦ (let q : Some o.1 ≡ None = sym o.2 ∙ n in absurd cc) ])

module _ (old new : Plan) (pairs : List Pair) where
  -- names without bytes
  pub zero_alike : (i j : ℕ) (z w : Bool) → ((x : List ℕ) → IsAt (names_of old) i x → Decides z (HasNoBytes (forms_of old) x)) → ((y : List ℕ) → IsAt (names_of new) j y → Decides w (HasNoBytes (forms_of new) y)) → z ≡ true → w ≡ true → AlikeAt old new pairs i j
  zero_alike i j z w f g e h x y ix iy = alike itself itself (inl ((f x ix).0 e, refl)) (inl ((g y iy).0 h, refl)) of_nothing

  pub found_alike : (i j : ℕ) (z w : Bool) (d e : Bor Definition) (a b : Found) → ((x : List ℕ) → IsAt (names_of old) i x → Decides z (HasNoBytes (forms_of old) x)) → ((y : List ℕ) → IsAt (names_of new) j y → Decides w (HasNoBytes (forms_of new) y)) → z ≡ false → w ≡ false → IsKindAt (forms_of old) (names_of old) i (Some (d, a)) → IsKindAt (forms_of new) (names_of new) j (Some (e, b)) → (o n : Plan) → o ≡ old → n ≡ new → FoundAlike o n pairs i j d.now e.now a b → AlikeAt old new pairs i j
  found_alike i j z w d e a b f g ez ew k l o n oe ne h x y ix iy =
      let s = k x ix (full old i z f (Some (d, a)) k ez x ix) in
      let t = l y iy (full new j w g (Some (e, b)) l ew y iy) in
      subst (λ n. FoundAlike old n pairs i j d.now e.now a b) ne (subst (λ o. FoundAlike o n pairs i j d.now e.now a b) oe h) x y ix iy s.0 t.0 s.1 t.1

  pub go_alike : (i j a b : ℕ) (z w : Bool) → ((x : List ℕ) → IsAt (names_of old) i x → Decides z (HasNoBytes (forms_of old) x)) → ((y : List ℕ) → IsAt (names_of new) j y → Decides w (HasNoBytes (forms_of new) y)) → z ≡ w → ((x : List ℕ) → IsAt (names_of old) i x → (y : List ℕ) × IsAt (names_of old) a y × IsBehind (forms_of old) x y) → ((x : List ℕ) → IsAt (names_of new) j x → (y : List ℕ) × IsAt (names_of new) b y × IsBehind (forms_of new) x y) → AlikeAt old new pairs a b → GoAlikeAt old new pairs i j
  go_alike i j a b z w f g e p q h x y ix iy = record {
    alike = (let s = p x ix in let t = q y iy in alike_behind s.2 t.2 (h s.0 t.0 s.1 t.1));
    forth = λ n. (g y iy).0 (sym e ∙ (f x ix).1 n);
    back = λ n. (f x ix).0 (e ∙ (g y iy).1 n);
  }

  -- where each pair is alike, so are the roots
  pub roots_say : ((i : ℕ) (p : Pair) → slice_get pairs i ≡ Some p → GoAlikeAt old new pairs p.old p.new) → HasPair pairs 0 0 → SaysAlso old new
  roots_say go first = says_all (forms_of old) (forms_of new) (Paired old new pairs) all (root_of old) (root_of new) (pairing_roots first)
    where
      all : (x y : List ℕ) → Paired old new pairs x y → GoAlike (forms_of old) (forms_of new) (Paired old new pairs) x y
      all x y r = go r.has.index r.has.pair r.has.there x y (ap (λ i. name_of (names_of old) i) r.has.old ∙ r.old) (ap (λ i. name_of (names_of new) i) r.has.new ∙ r.new)

      pairing_roots : HasPair pairs 0 0 → Paired old new pairs (root_of old) (root_of new)
      pairing_roots h = record { old_place = 0; new_place = 0; has = h; old = (planned old).first; new = (planned new).first }

-- by what the code found, if that is of these kinds
pub at_kinds : (old new : Plan) (pairs : List Pair) (i j : ℕ) (d e : Definition) {a b : Found} (k l : Found) → a ≡ k → b ≡ l → FoundAlike old new pairs i j d e k l → FoundAlike old new pairs i j d e a b
at_kinds old new pairs i j d e k l p q f x y ix iy fx gy s t = f x y ix iy fx gy (subst (λ k. IsKindOf (forms_of old) (names_of old) x (form_of d) k) p s) (subst (λ k. IsKindOf (forms_of new) (names_of new) y (form_of e) k) q t)

pub not_last : (xs : List ℕ) (x : ℕ) → xs ++ x ∷ [] ≡ [] → ⊥
not_last [] x e = cc
not_last (y ∷ xs) x e = cc

-- a field of the same name
pub field_step : (fs gs : List (String Global × String Global)) (i : ℕ) (f g : String Global × String Global) → slice_get fs i ≡ Some f → slice_get gs i ≡ Some g → string_bytes f.0 ≡ string_bytes g.0 → (x y : List ℕ) → slice_get (field_names fs) i ≡ Some x → slice_get (field_names gs) i ≡ Some y → x ≡ y
field_step fs gs i f g p q e x y h k =
    let a = slice_get-map {A = String Global × String Global} (λ f. string_bytes f.0) fs i ∙ ap (λ o. option_map (λ f. string_bytes f.0) o) p in
    let b = slice_get-map {A = String Global × String Global} (λ f. string_bytes f.0) gs i ∙ ap (λ o. option_map (λ f. string_bytes f.0) o) q in
    sym (same_some a h) ∙ e ∙ same_some b k

pub fields_same : (fs gs : List (String Global × String Global)) → length fs ≡ length gs → ((i : ℕ) (x y : List ℕ) → i < length fs → slice_get (field_names fs) i ≡ Some x → slice_get (field_names gs) i ≡ Some y → x ≡ y) → field_names fs ≡ field_names gs
fields_same fs gs l f =
    let a = length-map fs (λ f. string_bytes f.0) in
    let b = length-map gs (λ f. string_bytes f.0) in
    same_names (field_names fs) (field_names gs) (record { long = a ∙ l ∙ sym b; each = λ i x y p q. f i x y (let h = slice_get_within (field_names fs) i x p in omega (arith, a, h)) p q })
