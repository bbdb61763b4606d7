-- JSON of names of which no list has to ascend is in order.
use Rattle.std.proofs.Common.{◌≡◌, inl, inr, ℕ, List, [], ◌∷◌, ◌++◌, length, map, IfSome, Option, Some, None, refl, sym, ◌∙◌, ap, subst, slice_get, Bor, ℤ}
use Rattle.std.specs.List.{AllByRecursion}
use Rattle.json.specs.Json.{Json}
use Rattle.borsh_walks.specs.{Container.{IsIn, first, later, references, variant_names, Reached, stays, onward}, declared.definition.Definition.{Definition}}
use Rattle.borsh_plan.specs.{declared.named.Named.{Named}, Plan.{map_of, root_of}}
use Rattle.borsh_plan.proofs.Laws.{has_place}
use Rattle.borsh_json.specs.{declared.definitions.Definitions.{Definitions}, declared.kinds.Kind.{Kind as Found}, declared.kinds.Kind.TheVariants.{Number, Bool as Truth, Text, Bytes, Float, ByteList, Numbers, List as ListKind, Map, Row, Newtype, Object, Optional, Choice, Refused}, Checked.{NeedsNoOrder}, Forms.{Form, form_of, shape_of_form, shapes}, Found.{forms_of, names_of}, Frames.{AreInOrder}, InOrder.{Falls, NeedsNoCheck}, Orders.{KindTellsOrder, NeedNotAscend, NoneAscends, IsFoundKind, AreFoundKinds}, Places.{IsAt, IsKindOf, lengths_of}, Represents.{SaysFirst, HaveBytes, none_left, next_part}, Table.{Kind, no_bytes, truth, whole, float, raw, utf8, byte_list, list, row, inner, fields, optional, variants, entries, Keys, HasKind, Part, IsVariant, this, that, Entry, entry_parts, Says}}
use Rattle.borsh_json.proofs.{CheckedLaws.{kind_free}, FormKinds.{form_found, shaped}, FoundLaws.{full_list}, InOrderLaws.{items_said, whole_in_order}, Lockstep.{AreNamed, list_named, falls_list}, PlaceLaws.{get_pushed, kind_there}, ReachedLaws.{part_names, row_names, field_names}, WrittenLaws.{divided}}
use Rattle.borsh_walks.proofs.Forms.{shapes_are}

variant_in : {k : ℤ} {v p : List ℕ} {vs : List (ℤ × List ℕ × List ℕ)} → IsVariant k v p vs → IsIn p (variant_names (map (λ (v : ℤ × List ℕ × List ℕ). (v.0, v.2)) vs))
variant_in this = first
variant_in (that i) = later (variant_in i)

-- ---- the names of parts
module _ (F : List ℕ → Option Form) (root : List ℕ) where
  -- the root leads to the name of the part
  abbrev IsLed : Part → Type 0
  IsLed q = Reached (shapes F) root q.0

  led : {x y : List ℕ} {f : Form} → Reached (shapes F) root x → F x ≡ Some f → IsIn y (references (shape_of_form f)) → Reached (shapes F) root y
  led {x = x} {f = f} r c i = onward (shape_of_form f) r (shaped (F x) c) i

  each_led : (xs : List (List ℕ)) (qs : List Part) → part_names qs ≡ xs → ((y : List ℕ) → IsIn y xs → Reached (shapes F) root y) → AllByRecursion IsLed qs
  each_led xs [] e r = tt
  each_led [] (q ∷ qs) e r = cc
  each_led (x ∷ xs) (q ∷ qs) e r =
      let s : x ≡ q.0 = cc in
      let t : part_names qs ≡ xs = cc in
      (subst (λ x. Reached (shapes F) root x) s (r x first), each_led xs qs t (λ y i. r y (later i)))

  list_led : (e : List ℕ) (qs : List Part) → AreNamed e qs → Reached (shapes F) root e → AllByRecursion IsLed qs
  list_led e [] a r = tt
  list_led e (q ∷ qs) a r = (subst (λ x. Reached (shapes F) root x) (sym a.0) r, list_led e qs a.1 r)

  entries_led : (keys : Keys) (k v : List ℕ) (es : List Entry) → Reached (shapes F) root k → Reached (shapes F) root v → AllByRecursion IsLed (entry_parts keys k v es)
  entries_led keys k v [] a b = tt
  entries_led keys k v (e ∷ es) a b = (a, (b, entries_led keys k v es a b))

  none_led : (qs : List Part) → qs ≡ [] → AllByRecursion IsLed qs
  none_led qs e = subst (λ (l : List Part). AllByRecursion IsLed l) (sym e) tt

  parts_led : {x : List ℕ} (own : List ℕ) (j : Json) (qs : List Part) (kind : Kind) → HasKind F x kind → Reached (shapes F) root x → Says F kind j own qs → AllByRecursion IsLed qs
  parts_led own j qs no_bytes h r s = none_led qs s.2
  parts_led own j qs truth h r s = none_led qs s.3
  parts_led own j qs (whole n signed non_zero) h r s = none_led qs s.3
  parts_led own j qs (float f) h r s = none_led qs s.3
  parts_led own j qs (raw n) h r s = none_led qs s.2
  parts_led own j qs (utf8 l) h r s = none_led qs s.4
  parts_led own j qs (byte_list l e) h r (inl s) = none_led qs s.3
  parts_led own j qs (byte_list l e) h r (inr s) = let f = form_found F (byte_list l e) h (λ z. cc) in list_led e qs (subst (λ (l : List Part). AreNamed e l) (sym s.2) (list_named e s.0)) (led r (f.1 ∙ ap (λ d. Some d) f.2.0) first)
  parts_led own j qs (list l e) h r s = let f = form_found F (list l e) h (λ z. cc) in list_led e qs (subst (λ (l : List Part). AreNamed e l) (sym s.2) (list_named e s.0)) (led r (f.1 ∙ ap (λ d. Some d) f.2) first)
  parts_led own j qs (row xs) h r s =
      let f = form_found F (row xs) h (λ z. cc) in
      each_led xs qs (row_names xs s.1 qs s.3) (λ y i. elim f.2 [
        | inl t ↦ led r (f.1 ∙ ap (λ d. Some d) t) i
        | inr u ↦ elim u [
          | inl t ↦ led r (f.1 ∙ ap (λ d. Some d) t) i
          | inr t ↦ elim (subst (λ xs. IsIn y xs) t.1 i) [ ]
        ]
      ])
  parts_led own j qs (inner p) h r s = let f = form_found F (inner p) h (λ z. cc) in each_led (p ∷ []) qs (ap (λ (l : List Part). part_names l) s.1) (λ y i. led r (f.1 ∙ ap (λ d. Some d) f.2) i)
  parts_led own j qs (fields fs) h r s = let f = form_found F (fields fs) h (λ z. cc) in each_led (map (λ (f : List ℕ × List ℕ). f.1) fs) qs (field_names fs s.2 qs s.5) (λ y i. led r (f.1 ∙ ap (λ d. Some d) f.2) i)
  parts_led own j qs (optional p) h r (inl s) = none_led qs s.2
  parts_led own j qs (optional p) h r (inr s) = let f = form_found F (optional p) h (λ z. cc) in each_led (p ∷ []) qs (ap (λ (l : List Part). part_names l) s.2) (λ y i. subst (λ y. Reached (shapes F) root y) (only y i) (led r f.2.0.1 (later first)))
    where
      only : (y : List ℕ) → IsIn y (p ∷ []) → p ≡ y
      only y first = refl
      only y (later i) = elim i [ ]
  parts_led own j qs (variants w vs) h r s =
      let f = form_found F (variants w vs) h (λ z. cc) in
      let there = led r (f.1 ∙ ap (λ d. Some d) f.2) (variant_in s.4) in
      elim s.6 [
        | inl a ↦ none_led qs a.2
        | inr a ↦ subst (λ (l : List Part). AllByRecursion IsLed l) (sym a.3) (there, tt)
      ]
  parts_led own j qs (entries l keys k v) h r s =
      let f = form_found F (entries l keys k v) h (λ z. cc) in
      let e = led r (f.1 ∙ ap (λ d. Some d) f.2.1) first in
      subst (λ (l : List Part). AllByRecursion IsLed l) (sym s.6) (entries_led keys k v s.1 (led e f.2.2 first) (led e f.2.2 (later first)))

  each_joined : (qs ps : List Part) → AllByRecursion IsLed qs → AllByRecursion IsLed ps → AllByRecursion IsLed (qs ++ ps)
  each_joined [] ps a b = b
  each_joined (q ∷ qs) ps a b = (a.0, each_joined qs ps a.1 b)

  module _ (none : (x own : List ℕ) (j : Json) (qs : List Part) → Reached (shapes F) root x → SaysFirst F x j own qs → (index : ℕ) → Falls F x j index → ⊥) where
    all_in_order : {ps : List Part} {bytes : List ℕ} → HaveBytes F ps bytes → AllByRecursion IsLed ps → AreInOrder F ps
    all_in_order none_left a = tt
    all_in_order (next_part {x = x} {j = j} {ps = ps} kind own qs h s r) a =
        let t = all_in_order r (each_joined qs ps (parts_led own j qs kind h a.0 s) a.1) in
        let d = divided F (λ x i. (index : ℕ) → Falls F x i index → ⊥) qs ps t in
        (whole_in_order F x j own qs (kind, h, s) d.0 (none x own j qs a.0 (kind, h, s)), d.1)

    needs_no_check : NeedsNoCheck F root
    needs_no_check j bytes h = (all_in_order h (stays, tt)).0

-- ---- kinds without lists that ascend
module _ (F : List ℕ → Option Form) (ns : List Named) {x own : List ℕ} {j : Json} {qs : List Part} (says : SaysFirst F x j own qs) where
  needs_none : (f : Form) (kind : Found) → IsKindOf F ns x f kind → KindTellsOrder F x kind → NeedNotAscend kind → NeedsNoOrder F x
  needs_none f (Number n) k t a = kind_free F (whole n.size n.is_signed n.is_non_zero) k (λ l e q. cc) (λ l e q. cc)
  needs_none f Truth k t a = kind_free F truth k (λ l e q. cc) (λ l e q. cc)
  needs_none f Text k t a = kind_free F (utf8 (lengths_of f)) k (λ l e q. cc) (λ l e q. cc)
  needs_none f (Bytes n) k t a = kind_free F (raw n) k (λ l e q. cc) (λ l e q. cc)
  needs_none f (Float n) k t a = kind_free F (float k.0) k.2 (λ l e q. cc) (λ l e q. cc)
  needs_none f (ByteList es) k t a = λ kind h l. t a
  needs_none f (Numbers es) k t a = λ kind h l. t a
  needs_none f (ListKind es) k t a = λ kind h l. t a
  needs_none f (Map es order) k t a = kind_free F (entries (lengths_of f) k.2 k.0 k.1) k.5 (λ l e q. cc) (λ l e q. cc)
  needs_none f (Row n) k t a = kind_free F (row _) k.0 (λ l e q. cc) (λ l e q. cc)
  needs_none f (Newtype at) k t a = kind_free F (inner k.0) k.2 (λ l e q. cc) (λ l e q. cc)
  needs_none f (Object fs) k t a = kind_free F (fields _) k.0 (λ l e q. cc) (λ l e q. cc)
  needs_none f (Optional at) k t a = kind_free F (optional k.0) k.2 (λ l e q. cc) (λ l e q. cc)
  needs_none f (Choice w vs) k t a = kind_free F (variants w _) k.0 (λ l e q. cc) (λ l e q. cc)
  needs_none f (Refused flaw) k t a = absurd (k.0 says.0 j own qs says.1 says.2)

  no_fall : NeedsNoOrder F x → (index : ℕ) → Falls F x j index → ⊥
  no_fall n index (inl d) = n (byte_list d.0 d.1) d.6 (d.0, d.1, inr refl) d.1 d.1 (d.7.0, inl (d.7.1, refl))
  no_fall n index (inr f) = n says.0 says.1 (items_said F x j index says.0 own qs f says.1 says.2).0 f.e f.k f.keys

-- a table without such lists needs no check
module _ (d : Definitions) (kinds : List (Option (Bor Definition × Found))) (whole_is : length kinds ≡ length (names_of d)) (right : AreFoundKinds (forms_of d) (names_of d) kinds) (free : NoneAscends kinds) where
  abbrev F : List ℕ → Option Form
  F = forms_of d

  none_there : (x own : List ℕ) (j : Json) (qs : List Part) → Reached (shapes F) (root_of d.plan.now) x → SaysFirst F x j own qs → (index : ℕ) → Falls F x j index → ⊥
  none_there x own j qs r says index f = by (slice_get kinds at.0) refl
    where
      at : (i : ℕ) × IsAt (names_of d) i x
      at = has_place d.plan.now (subst (λ C. Reached C (root_of d.plan.now) x) (shapes_are (map_of d.plan.now)) r)

      by : (o : Option (Option (Bor Definition × Found))) → slice_get kinds at.0 ≡ o → ⊥
      by None e = kind_there (names_of d) kinds at.0 x whole_is e at.1
      by (Some None) e =
          let c = falls_list F f in
          let n = (right at.0 None e).0 x at.1 (full_list F c.1) in
          let q : None ≡ Some _ = sym n ∙ c.1 in
          cc
      by (Some (Some k)) e =
          let c = falls_list F f in
          let t = right at.0 (Some k) e in
          no_fall F (names_of d) says (needs_none F (names_of d) says (form_of k.0.now) k.1 (t.0 x at.1 (full_list F c.1)).1 (t.1 x at.1).1 (free at.0 (Some k) e)) index f

  pub no_check : NeedsNoCheck F (root_of d.plan.now)
  no_check = needs_no_check F (root_of d.plan.now) none_there

-- ---- one kind more was found
pub none_pushed : (kinds all : List (Option (Bor Definition × Found))) (found : Option (Bor Definition × Found)) → NoneAscends kinds → all ≡ kinds ++ found ∷ [] → IfSome found (λ r. NeedNotAscend r.1) → NoneAscends all
none_pushed kinds all found h e n i o s = elim (get_pushed kinds found i o (subst (λ (xs : List (Option (Bor Definition × Found))). slice_get xs i ≡ Some o) e s)) [
  | inl p ↦ h i o p
  | inr p ↦ subst (λ (o : Option (Bor Definition × Found)). IfSome o (λ r. NeedNotAscend r.1)) p.1 n
]

pub none_yet : (kinds : List (Option (Bor Definition × Found))) → kinds ≡ [] → NoneAscends kinds
none_yet kinds e = subst (λ (kinds : List (Option (Bor Definition × Found))). NoneAscends kinds) (sym e) (λ i o s. absurd cc)
