-- Options and variants of which the beginning was written.
use Rattle.std.proofs.Common.{◌≡◌, ◌⊎◌, inl, inr, ℕ, suc, zero, ◌<◌, ◌≤◌, List, [], ◌∷◌, length, map, get_or, Option, Some, None, refl, sym, ◌∙◌, ap, subst, arith, string_bytes, ℤ, pos, Result, slice_get, String, Vec, codes, Bor, Global, unwrap_or, bytes_eq}
use Rattle.std.specs.List.{IsDistinct}
use Rattle.json.specs.Json.{null, string}
use Rattle.borsh_walks.specs.Container.{Shape, choice as choice_shape, tag, references, IsIn, first, later}
use Rattle.borsh_values.specs.Nodes.{Opens, IsVariantOf}
use Rattle.borsh_plan.specs.declared.named.Named.{Named}
use Rattle.borsh_values.proofs.WalkedLaws.{read_variant}
use Rattle.borsh_json.specs.{declared.error.WriteError.{WriteError}, declared.kinds.Kind.TheVariants.{Optional as OptionKind, Choice as ChoiceKind}, declared.output.Output.{Output}, declared.position.Parts.TheVariants.{Some as Present, Variant}, declared.position.Place.{Place}, Forms.{Form, choice, shape_of_form, shapes, HasNoBytes, variant_bytes}, InOrder.{variant}, Inside.{LeadTo}, Leaves.{IsOpenedAs, WritesLeaf}, Places.{IsAt, IsKindOf}, Represents.{SaysFirst}, Table.{HasKind, optional, variants, IsVariant, this, that}, Writes.{members_rest, value_rest, BeginsAt, IsWrittenAs, WritesValue}}
use Rattle.borsh_json.proofs.{BegunLaws.{value_begun}, FormKinds.{form_known}, FrameLaws.{get_from, get_map}, FrontLaws.{some_front, variant_front}, OpeningLaws.{variant_here}, PartsLaws.{third_names, variant_part}}

-- the only name
one_in : (F : List ℕ → Option Form) (x : List ℕ) → HasNoBytes F x → (y : List ℕ) → IsIn y (x ∷ []) → HasNoBytes F y
one_in F x z y first = z
one_in F x z y (later i) = elim i [ ]

got : {A B : Type 0} (f : A → B) (xs : List A) (i : ℕ) (b : B) → slice_get (map f xs) i ≡ Some b → (a : A) × (slice_get xs i ≡ Some a) × (f a ≡ b)
got f [] zero b e = cc
got f [] (suc i) b e = cc
got f (x ∷ xs) zero b e = (x, refl, cc)
got f (x ∷ xs) (suc i) b e = got f xs i b e

inside : {A : Type 0} (xs : List A) (i : ℕ) (a : A) → slice_get xs i ≡ Some a → i < length xs
inside [] zero a e = cc
inside [] (suc i) a e = cc
inside (x ∷ xs) zero a e = omega arith
inside (x ∷ xs) (suc i) a e = omega (arith, inside xs i a e)

module _ (F : List ℕ → Option Form) (ns : List Named) (x : List ℕ) (f : Form) (own : List ℕ) (parts : List (List ℕ)) (o : IsOpenedAs F x f own parts) where
  -- ---- options
  option_found : (p : List ℕ) → HasKind F x (optional p) → (found : Option ℕ) → IsVariantOf (shape_of_form f) own found → ((found ≡ Some 0) × (own ≡ 0 ∷ []) × (none : List ℕ) × HasNoBytes F none × Opens (shapes F) (shape_of_form f) own (none ∷ [])) ⊎ ((found ≡ Some 1) × (own ≡ 1 ∷ []) × Opens (shapes F) (shape_of_form f) own (p ∷ []))
  option_found p h found v =
      let z = (form_known F (optional p) f h o.0 (λ e. cc)).0 in
      let vs : List (ℤ × List ℕ × List ℕ) = (pos 0, codes "None", z.0) ∷ (pos 1, codes "Some", p) ∷ [] in
      let us : List (ℤ × List ℕ) = (pos 0, z.0) ∷ (pos 1, p) ∷ [] in
      let q : Some f ≡ Some (choice 1 vs) = sym o.0 ∙ z.1 in
      let g : f ≡ choice 1 vs = cc in
      let s : shape_of_form f ≡ choice_shape 1 us = ap shape_of_form g in
      let t = read_variant (shapes F) 1 us own parts found (subst (λ (s : Shape). Opens (shapes F) s own parts) s o.1) (subst (λ (s : Shape). IsVariantOf s own found) s v) in
      of_two z.0 z.2.1 (sym s) t.0 t.1 t.2 t.3 t.4 t.5 t.6
    where
      of_two : (none : List ℕ) → HasNoBytes F none → choice_shape 1 ((pos 0, none) ∷ (pos 1, p) ∷ []) ≡ shape_of_form f → (i : ℕ) (k : ℤ) (y : List ℕ) → found ≡ Some i → slice_get {X = ℤ × List ℕ} ((pos 0, none) ∷ (pos 1, p) ∷ []) i ≡ Some (k, y) → own ≡ tag 1 k → Opens (shapes F) (choice_shape 1 ((pos 0, none) ∷ (pos 1, p) ∷ [])) own (y ∷ []) → ((found ≡ Some 0) × (own ≡ 0 ∷ []) × (none : List ℕ) × HasNoBytes F none × Opens (shapes F) (shape_of_form f) own (none ∷ [])) ⊎ ((found ≡ Some 1) × (own ≡ 1 ∷ []) × Opens (shapes F) (shape_of_form f) own (p ∷ []))
      of_two none z s zero k y e g t w =
          let u : ℤ × List ℕ = (k, y) in
          let v : ℤ × List ℕ = (pos 0, none) in
          let q : v ≡ u = cc in
          let a : k ≡ pos 0 = ap (λ (t : ℤ × List ℕ). t.0) (sym q) in
          let b : y ≡ none = ap (λ (t : ℤ × List ℕ). t.1) (sym q) in
          inl (e, t ∙ ap (λ k. tag 1 k) a, none, z, subst (λ (s : Shape). Opens (shapes F) s own (none ∷ [])) s (subst (λ (y : List ℕ). Opens (shapes F) (choice_shape 1 ((pos 0, none) ∷ (pos 1, p) ∷ [])) own (y ∷ [])) b w))
      of_two none z s (suc zero) k y e g t w =
          let u : ℤ × List ℕ = (k, y) in
          let v : ℤ × List ℕ = (pos 1, p) in
          let q : v ≡ u = cc in
          let a : k ≡ pos 1 = ap (λ (t : ℤ × List ℕ). t.0) (sym q) in
          let b : y ≡ p = ap (λ (t : ℤ × List ℕ). t.1) (sym q) in
          inr (e, t ∙ ap (λ k. tag 1 k) a, subst (λ (s : Shape). Opens (shapes F) s own (p ∷ [])) s (subst (λ (y : List ℕ). Opens (shapes F) (choice_shape 1 ((pos 0, none) ∷ (pos 1, p) ∷ [])) own (y ∷ [])) b w))
      of_two none z s (suc (suc i)) k y e g t w = cc

  some_leads : (p : List ℕ) → HasKind F x (optional p) → own ≡ 1 ∷ [] → (i : ℕ) → LeadTo f own i (variant (codes "Some") ∷ [])
  some_leads p h e i =
      let z = (form_known F (optional p) f h o.0 (λ e. cc)).0 in
      let vs : List (ℤ × List ℕ × List ℕ) = (pos 0, codes "None", z.0) ∷ (pos 1, codes "Some", p) ∷ [] in
      let q : Some f ≡ Some (choice 1 vs) = sym o.0 ∙ z.1 in
      let g : f ≡ choice 1 vs = cc in
      subst (λ (f : Form). LeadTo f own i (variant (codes "Some") ∷ [])) (sym g) (pos 1, codes "Some", p, that this, e, refl)

  module _ (at : ℕ) (k : IsKindOf F ns x f (OptionKind at)) (found : Option ℕ) (v : IsVariantOf (shape_of_form f) own found) (index most : ℕ) (q : index ≡ unwrap_or found most) where
    -- the first variant
    module _ (e : index ≡ 0) where
      pub none_said : SaysFirst F x null own []
      none_said = elim (option_found k.0 k.2 found v) [
        | inl a ↦ (optional k.0, k.2, inl (refl, a.1, refl))
        | inr a ↦ (let i = q ∙ ap (λ o. unwrap_or o most) a.0 in absurd (omega (arith, i, e)))
      ]

      pub none_written : (old new : Output) → WritesLeaf F 0 x own old new → IsWrittenAs F ns (OptionKind at) x f own old new None
      none_written old new w = elim (option_found k.0 k.2 found v) [
        | inl a ↦ (w, a.2 ∷ [], a.4, one_in F a.2 a.3, λ es e. cc)
        | inr a ↦ (let i = q ∙ ap (λ o. unwrap_or o most) a.0 in absurd (omega (arith, i, e)))
      ]

    pub some_begun : (old new : Output) (result : Result (Option Place) WriteError) → (index ≡ 0 → ⊥) → BeginsAt (Present at) old new result → WritesValue F ns (OptionKind at) x f own old new result
    some_begun old new result n b = elim (option_found k.0 k.2 found v) [
      | inl a ↦ absurd (n (q ∙ ap (λ o. unwrap_or o most) a.0))
      | inr a ↦ value_begun F ns x f (OptionKind at) own (Present at) (value_rest (k.0 ∷ [])) old new result (λ es n e. cc) (([], k.0) ∷ [], (k.0, k.1, refl), refl) (some_front F x own k.0 k.2 a.1) a.2 (λ i z. some_leads k.0 k.2 a.1 i) b
    ]

  -- ---- variants
  module _ (w : ℕ) (vs : Bor (Vec (ℤ × String Global × String Global) Global)) (k : IsKindOf F ns x f (ChoiceKind w vs)) (found : Option ℕ) (v : IsVariantOf (shape_of_form f) own found) where
    abbrev listed : List (ℤ × List ℕ × List ℕ)
    listed = map variant_bytes vs.now.items

    -- the variant that was found
    abbrev pub IsChosen : ℤ × String Global × String Global → Type 0
    IsChosen u = (own ≡ tag w u.0) × Opens (shapes F) (shape_of_form f) own (string_bytes u.2 ∷ []) × IsVariant u.0 (string_bytes u.1) (string_bytes u.2) listed

    chosen : (i : ℕ) × (u : ℤ × String Global × String Global) × (found ≡ Some i) × (slice_get vs.now.items i ≡ Some u) × IsChosen u
    chosen =
        let g = form_known F (variants w listed) f k.0 o.0 (λ e. cc) in
        let us : List (ℤ × List ℕ) = map (λ v. (v.0, v.2)) listed in
        let s : shape_of_form f ≡ choice_shape w us = ap shape_of_form g in
        let t = read_variant (shapes F) w us own parts found (subst (λ (s : Shape). Opens (shapes F) s own parts) s o.1) (subst (λ (s : Shape). IsVariantOf s own found) s v) in
        let a = got (λ (v : ℤ × List ℕ × List ℕ). (v.0, v.2)) listed t.0 (t.1, t.2) t.4 in
        let b = got (λ (v : ℤ × String Global × String Global). (v.0, string_bytes v.1, string_bytes v.2)) vs.now.items t.0 a.0 a.1 in
        let u = b.0 in
        let pair : (u.0, string_bytes u.2) ≡ (t.1, t.2) = ap (λ (v : ℤ × List ℕ × List ℕ). (v.0, v.2)) b.2 ∙ a.2 in
        let here = get_map (λ (v : ℤ × String Global × String Global). (v.0, string_bytes v.1, string_bytes v.2)) vs.now.items t.0 u b.1 in
        (t.0, u, t.3, b.1, (t.5 ∙ ap (λ (v : ℤ × List ℕ). tag w v.0) (sym pair), subst (λ (s : Shape). Opens (shapes F) s own (string_bytes u.2 ∷ [])) (sym s) (subst (λ (y : List ℕ). Opens (shapes F) (choice_shape w us) own (y ∷ [])) (ap (λ (v : ℤ × List ℕ). v.1) (sym pair)) t.6), variant_here u.0 (string_bytes u.1) (string_bytes u.2) listed t.0 here))

    module _ (index most : ℕ) (e : index ≡ unwrap_or found most) where
      at_index : slice_get vs.now.items index ≡ Some chosen.1
      at_index = ap (λ i. slice_get vs.now.items i) (e ∙ ap (λ o. unwrap_or o most) chosen.2) ∙ chosen.3

      pub there : (all : List (ℤ × String Global × String Global)) → all ≡ vs.now.items → length all ≤ index → ⊥
      there all a n =
          let l = ap (λ l. length l) a in
          let h = inside vs.now.items index chosen.1 at_index in
          omega (arith, h, n, l)

      module _ (u : ℤ × String Global × String Global) (all : List (ℤ × String Global × String Global)) (a : all ≡ vs.now.items) (h : index < length all) (q : u ≡ get_or all index u) where
        found_at : slice_get vs.now.items index ≡ Some u
        found_at = ap (λ l. slice_get l index) (sym a) ∙ get_from all index u h q

        pub is_chosen : IsChosen u
        is_chosen = (let q : Some chosen.1 ≡ Some u = sym at_index ∙ found_at in let s : chosen.1 ≡ u = cc in subst (λ (u : ℤ × String Global × String Global). IsChosen u) s chosen.4)

        pub its_part : slice_get (references (shape_of_form f)) index ≡ Some (string_bytes u.2)
        its_part =
            let here = get_map (λ (v : ℤ × String Global × String Global). (v.0, string_bytes v.1, string_bytes v.2)) vs.now.items index u found_at in
            ap (λ g. slice_get (references (shape_of_form g)) index) (form_known F (variants w listed) f k.0 o.0 (λ e. cc)) ∙ variant_part listed index u.0 (string_bytes u.1) (string_bytes u.2) here

    distinct : IsDistinct bytes_eq (map (λ (v : ℤ × List ℕ × List ℕ). v.1) listed)
    distinct = subst (λ (l : List (List ℕ)). IsDistinct bytes_eq l) (sym (third_names (λ (v : ℤ × String Global × String Global). v.0) (λ v. string_bytes v.1) (λ v. string_bytes v.2) vs.now.items)) k.1

    module _ (u : ℤ × String Global × String Global) (c : IsChosen u) where
      pub name_said : (name : List ℕ) → name ≡ string_bytes u.1 → HasNoBytes F (string_bytes u.2) → SaysFirst F x (string name) own []
      name_said name n z = (variants w listed, k.0, (distinct, u.0, string_bytes u.1, string_bytes u.2, c.2, c.0, inl (ap string n, z, refl)))

      pub name_written : (old new : Output) → HasNoBytes F (string_bytes u.2) → WritesLeaf F 0 x own old new → IsWrittenAs F ns (ChoiceKind w vs) x f own old new None
      name_written old new z l = (l, string_bytes u.2 ∷ [], c.1, one_in F (string_bytes u.2) z, λ es e. cc)

      pub variant_begun : (name : Bor (List ℕ)) (at : ℕ) (old new : Output) (result : Result (Option Place) WriteError) → name.now ≡ string_bytes u.1 → IsAt ns at (string_bytes u.2) → (HasNoBytes F (string_bytes u.2) → ⊥) → BeginsAt (Variant name at) old new result → WritesValue F ns (ChoiceKind w vs) x f own old new result
      variant_begun name at old new result n i z b = value_begun F ns x f (ChoiceKind w vs) own (Variant name at) (members_rest ((string_bytes u.1, string_bytes u.2) ∷ [])) old new result (λ es n e. cc) (([], string_bytes u.2) ∷ [], (string_bytes u.2, i, refl), ap (λ s. members_rest ((s, string_bytes u.2) ∷ [])) (sym n)) (variant_front F x own w listed u.0 (string_bytes u.1) (string_bytes u.2) k.0 distinct c.2 z c.0) c.1 (λ i l. subst (λ (f : Form). LeadTo f own i (variant name.now ∷ [])) (sym (form_known F (variants w listed) f k.0 o.0 (λ e. cc))) (u.0, string_bytes u.1, string_bytes u.2, c.2, c.0, ap (λ v. variant v ∷ []) n)) b
