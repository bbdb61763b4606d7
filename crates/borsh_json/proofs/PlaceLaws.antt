-- The names and definitions at places.
use Rattle.std.proofs.{Common.{◌≡◌, ◌⊎◌, inl, inr, ℕ, suc, zero, List, [], ◌∷◌, ◌++◌, length, Some, None, refl, sym, ◌∙◌, ap, subst, arith, Bool, Decides, ◌<◌, MatchOption, Option, option_map, slice_get, Bor}, lemmas.Option.{slice_get-get_or}}
use Rattle.borsh_walks.specs.{declared.definition.Definition.{Definition}, Container.{Shape, references, IsZeroSize}}
use Rattle.borsh_plan.specs.{declared.plan.Plan.{Plan}, declared.named.Named.{Named}, Names.{IsPlaceOf, name_at, name_of, found_definition, shape_at, parts_in}, Plan.{IsZeroAt, definitions_of, map_of, names_of as plan_names}}
use Rattle.borsh_plan.proofs.{Laws.{defined, looked_up}, Places.{name_is, name_there}}
use Rattle.borsh_json.specs.{declared.kinds.Kind.{Kind as Found}, Orders.{IsPartAt}, Places.{IsAt}, Forms.{Form, form_of, forms_in, shape_of_form, HasNoBytes}}
use Rattle.borsh_walks.proofs.Forms.{shapes_are}

module _ (l : Plan) where
  -- the definition at a place is that of the map
  pub form_there : (at : ℕ) (x : List ℕ) (o : Option (Bor Definition)) → option_map (λ d. d.now) o ≡ found_definition (slice_get (plan_names l) at) → name_of (plan_names l) at ≡ Some x → option_map (λ d. form_of d.now) o ≡ forms_in (map_of l) x
  form_there at x o e n = both o ∙ ap (λ o. option_map form_of o) (e ∙ sym (looked_up l x at n))
    where
      both : (o : Option (Bor Definition)) → option_map (λ d. form_of d.now) o ≡ option_map form_of (option_map (λ d. d.now) o)
      both None = refl
      both (Some d) = refl

  -- the place of a part has its name
  pub part_there : (at index : ℕ) (x y : List ℕ) (f : Form) (o : Option ℕ) → IsPlaceOf (plan_names l) at index o → name_of (plan_names l) at ≡ Some x → forms_in (map_of l) x ≡ Some f → slice_get (references (shape_of_form f)) index ≡ Some y → (k : ℕ) × (o ≡ Some k) × (name_of (plan_names l) k ≡ Some y)
  part_there at index x y f o place n d s =
      let c : Some (shape_of_form f) ≡ shape_at (plan_names l) at = ap (λ o. option_map shape_of_form o) (sym d) ∙ ap (λ C. C x) (shapes_are (map_of l)) ∙ defined l x at n in
      let q : slice_get (parts_in (shape_at (plan_names l) at)) index ≡ Some y = ap (λ o. slice_get (parts_in o) index) (sym c) ∙ s in
      found o place q
    where
      found : (o : Option ℕ) → IsPlaceOf (plan_names l) at index o → slice_get (parts_in (shape_at (plan_names l) at)) index ≡ Some y → (k : ℕ) × (o ≡ Some k) × (name_of (plan_names l) k ≡ Some y)
      found None p q = cc
      found (Some k) p q = (k, refl, name_there (plan_names l) k p.0 ∙ sym p.1 ∙ q)

  -- whether there is that part
  pub part_found : (at index : ℕ) (x : List ℕ) (f : Form) (o : Option ℕ) → IsPlaceOf (plan_names l) at index o → name_of (plan_names l) at ≡ Some x → forms_in (map_of l) x ≡ Some f → IsPartAt (plan_names l) (references (shape_of_form f)) index o
  part_found at index x f o place n d =
      let c : Some (shape_of_form f) ≡ shape_at (plan_names l) at = ap (λ o. option_map shape_of_form o) (sym d) ∙ ap (λ C. C x) (shapes_are (map_of l)) ∙ defined l x at n in
      found o (subst (λ s. MatchOption o (slice_get (parts_in s) index ≡ None) (λ k. (k < length (plan_names l)) × (slice_get (parts_in s) index ≡ Some (name_at (plan_names l) k)))) (sym c) place)
    where
      found : (o : Option ℕ) → MatchOption o (slice_get (references (shape_of_form f)) index ≡ None) (λ k. (k < length (plan_names l)) × (slice_get (references (shape_of_form f)) index ≡ Some (name_at (plan_names l) k))) → IsPartAt (plan_names l) (references (shape_of_form f)) index o
      found None p = p
      found (Some k) p = (name_at (plan_names l) k, p.1, name_there (plan_names l) k p.0)

  -- whether a name has no bytes
  pub zero_there : (at : ℕ) (x : List ℕ) (b : Bool) → IsZeroAt l at b → name_of (plan_names l) at ≡ Some x → Decides b (HasNoBytes (forms_in (map_of l)) x)
  zero_there at x b tells n =
      let i = name_is (plan_names l) at x n in
      subst (λ (C : List ℕ → Option Shape). Decides b (IsZeroSize C x)) (sym (shapes_are (map_of l))) (subst (λ x. Decides b (IsZeroSize (definitions_of l) x)) i.1 (tells i.0))

-- what stands in a list to which one more was added
pub get_pushed : {X : Type 0} (xs : List X) (y : X) (i : ℕ) (o : X) → slice_get (xs ++ y ∷ []) i ≡ Some o → (slice_get xs i ≡ Some o) ⊎ ((i ≡ length xs) × (y ≡ o))
get_pushed [] y zero o e = inr (refl, (let q : y ≡ o = cc in q))
get_pushed [] y (suc i) o e = cc
get_pushed (x ∷ xs) y zero o e = inl e
get_pushed (x ∷ xs) y (suc i) o e = elim (get_pushed xs y i o e) [
  | inl a ↦ inl a
  | inr p ↦ (let q = p.0 in inr (omega arith, p.1))
]

-- no place of a name is without what was found
pub kind_there : (ns : List Named) (xs : List (Option (Bor Definition × Found))) (at : ℕ) (x : List ℕ) → length xs ≡ length ns → slice_get xs at ≡ None → IsAt ns at x → ⊥
kind_there ns xs at x n e a =
    let i = name_is ns at x a in
    let g = slice_get-get_or xs at None (omega (arith, i.0, n)) in
    cc
