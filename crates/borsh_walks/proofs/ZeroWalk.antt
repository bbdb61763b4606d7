-- The walk for zero size: what its loop keeps, and each of its steps.
use Rattle.std.proofs.Common.{◌≡◌, ℕ, List, [], ◌∷◌, Some, None, refl, sym, ◌∙◌, ap, subst, ◌⊎◌, inl, inr, Bool, true, false}
use Rattle.std.specs.Prelude.{Option, slice_get, unwrap_or}
use Rattle.borsh_walks.specs.Container.{Shape, IsIn, IsDefined, first, later, Reaches, stays, onward, IsZeroSize, zeroed, zero_size_references}
use Rattle.borsh_walks.specs.Definitions.{spot_shape}
use Rattle.borsh_walks.specs.ZeroAnswer.{zero_size_parts}
use Rattle.borsh_walks.specs.Tables.{Visited}
use Rattle.borsh_walks.specs.declared.stack.Spot.{Spot}
use Rattle.borsh_walks.proofs.Laws.{one_definition, lead_out}
use Rattle.borsh_walks.proofs.Names.{among_get, among_one, other_one, name_cases}
use Rattle.borsh_walks.proofs.Tables.{Updated, marks_more, marks_again}
use Rattle.borsh_walks.proofs.Spots.{moved, names_of, SpotOk, spot_new, spot_moved, all_settled, Chain, chain_leads, path_leads}

parts_are : (d : Shape) (ps : List (List ℕ)) → zero_size_references d ≡ Some ps → zero_size_parts d ≡ ps
parts_are d ps e = ap (λ o. unwrap_or o []) e

parts_or : (o : Option (List (List ℕ))) → (o ≡ None → ⊥) → o ≡ Some (unwrap_or o [])
parts_or None f = absurd (f refl)
parts_or (Some ps) f = refl

module _ (C : List ℕ → Option Shape) where
  -- a name of zero size needs only names of zero size
  pub zero_part : {x p : List ℕ} (d : Shape) → C x ≡ Some d → IsIn p (zero_size_parts d) → IsZeroSize C x → IsZeroSize C p
  zero_part {p = p} d e a (zeroed c ps q asks zs) =
      let same : c ≡ d = one_definition q e in
      let at : zero_size_parts d ≡ ps = parts_are d ps (ap zero_size_references (sym same) ∙ asks) in
      zs p (subst (λ l. IsIn p l) at a)

  pub never_is : {x : List ℕ} (d : Shape) → C x ≡ Some d → zero_size_references d ≡ None → IsZeroSize C x → ⊥
  never_is d e none (zeroed c ps q asks zs) = let same : c ≡ d = one_definition q e in let b = ap zero_size_references same in cc

  pub undefined_is : {x : List ℕ} → C x ≡ None → IsZeroSize C x → ⊥
  undefined_is e (zeroed c ps q asks zs) = cc

  zero_reached : {x y : List ℕ} → Reaches C zero_size_parts x y → IsZeroSize C x → IsZeroSize C y
  zero_reached stays z = z
  zero_reached (onward d l e a) z = zero_part d e a (zero_reached l z)

  -- a name whose zero size depends on itself is not of zero size
  no_zero_cycle : {x y : List ℕ} (d : Shape) → IsZeroSize C x → Reaches C zero_size_parts x y → C y ≡ Some d → IsIn x (zero_size_parts d) → ⊥
  no_zero_cycle {x} {y} d (zeroed c ps q asks zs) l e a =
      let go : (x ≡ y) ⊎ ((v : List ℕ) × (b : Shape) × (C x ≡ Some b) × IsIn v (zero_size_parts b) × Reaches C zero_size_parts v y) → ⊥ =
      elim [
        | inl h ↦ no_zero_cycle d (zs x (subst (λ l. IsIn x l) (parts_are c ps asks) (subst (λ s. IsIn x (zero_size_parts s)) (one_definition e (ap C (sym h) ∙ q)) a))) l e a
        | inr r ↦ no_zero_cycle r.1 (zs r.0 (subst (λ l. IsIn r.0 l) (parts_are c ps asks) (subst (λ s. IsIn r.0 (zero_size_parts s)) (one_definition r.2 q) r.3))) (onward d r.4 e a) r.2 r.3
      ] in
      go (lead_out C l)

  -- ---- what the loop keeps: T marks the names, fs is the stack from `name` and f its last, L the names looked at
  pub record ZeroState (name : List ℕ) (T : List ℕ → Option Bool) (fs : List Spot) (f : Spot) (L : List (List ℕ)) : Type 0 where
    pub chain : Chain C zero_size_parts (IsZeroSize C) name fs f.name.now
    pub ok : SpotOk C zero_size_parts (IsZeroSize C) f
    pub true_is : (x : List ℕ) → T x ≡ Some true → IsZeroSize C x
    pub false_is : (x : List ℕ) → T x ≡ Some false → (IsZeroSize C x → ⊥) ⊎ IsIn x (f.name.now ∷ names_of fs)
    pub inside : (x : List ℕ) → IsIn x (f.name.now ∷ names_of fs) → IsIn x L
    pub marks : Visited (IsDefined C) T L

  -- parts lead from the name asked for to the last one and to its next part
  pub zero_last : {name : List ℕ} {T : List ℕ → Option Bool} {fs : List Spot} {f : Spot} {L : List (List ℕ)} → ZeroState name T fs f L → Reaches C zero_size_parts name f.name.now
  zero_last {fs = fs} s = chain_leads C zero_size_parts (IsZeroSize C) fs s.chain

  pub zero_next : {name : List ℕ} {T : List ℕ → Option Bool} {fs : List Spot} {f : Spot} {L : List (List ℕ)} (p : List ℕ) → ZeroState name T fs f L → slice_get (zero_size_parts (spot_shape f)) f.next ≡ Some p → Reaches C zero_size_parts name p
  zero_next {f = f} p s e = onward (spot_shape f) (zero_last s) s.ok.defined (among_get (zero_size_parts (spot_shape f)) f.next e)

  also : {x p : List ℕ} {ys L : List (List ℕ)} → (IsIn x ys → IsIn x L) → IsIn x (p ∷ ys) → IsIn x (p ∷ L)
  also g first = first
  also g (later a) = later (g a)

  pub zero_start : {T U : List ℕ → Option Bool} {f : Spot} {L : List (List ℕ)} → Visited (IsDefined C) T L → ((x : List ℕ) → T x ≡ Some true → IsZeroSize C x) → ((x : List ℕ) → T x ≡ Some false → IsZeroSize C x → ⊥) → T f.name.now ≡ None → Updated T U f.name.now false → C f.name.now ≡ Some (spot_shape f) → f.next ≡ 0 → ZeroState f.name.now U [] f (f.name.now ∷ L)
  zero_start {T} {U} {f} {L} marks zero_is not_zero t u c next = record {
    chain = refl;
    ok = spot_new C zero_size_parts c next;
    true_is = λ x h. elim (name_cases x f.name.now) [ inl q ↦ (let a = u.here in let b = ap U q in cc) | inr q ↦ zero_is x (sym (u.others x q) ∙ h) ];
    false_is = λ x h. elim (name_cases x f.name.now) [ inl q ↦ inr (subst (λ y. IsIn y (f.name.now ∷ [])) (sym q) first) | inr q ↦ inl (not_zero x (sym (u.others x q) ∙ h)) ];
    inside = λ x a. also (λ b. elim b [ ]) a;
    marks = marks_more marks u t (spot_shape f, c);
  }

  -- the next part is of zero size
  pub zero_moved : {name : List ℕ} {T : List ℕ → Option Bool} {fs : List Spot} {f : Spot} {L : List (List ℕ)} (p : List ℕ) → ZeroState name T fs f L → slice_get (zero_size_parts (spot_shape f)) f.next ≡ Some p → T p ≡ Some true → ZeroState name T fs (moved f) L
  zero_moved p s e t = record { chain = s.chain; ok = spot_moved C zero_size_parts s.ok e (s.true_is p t); true_is = s.true_is; false_is = s.false_is; inside = s.inside; marks = s.marks }

  -- the next part is new
  pub zero_push : {name : List ℕ} {T U : List ℕ → Option Bool} {fs : List Spot} {f g : Spot} {L : List (List ℕ)} → ZeroState name T fs f L → slice_get (zero_size_parts (spot_shape f)) f.next ≡ Some g.name.now → T g.name.now ≡ None → C g.name.now ≡ Some (spot_shape g) → Updated T U g.name.now false → g.next ≡ 0 → ZeroState name U (f ∷ fs) g (g.name.now ∷ L)
  zero_push {name} {T} {U} {fs} {f} {g} {L} s e t c u next = record {
    chain = (s.ok, e, s.chain);
    ok = spot_new C zero_size_parts c next;
    true_is = λ x h. elim (name_cases x g.name.now) [ inl q ↦ (let a = u.here in let b = ap U q in cc) | inr q ↦ s.true_is x (sym (u.others x q) ∙ h) ];
    false_is = λ x h. elim (name_cases x g.name.now) [
      | inl q ↦ inr (subst (λ y. IsIn y (g.name.now ∷ f.name.now ∷ names_of fs)) (sym q) first)
      | inr q ↦ (elim (s.false_is x (sym (u.others x q) ∙ h)) [ inl n ↦ inl n | inr a ↦ inr (later a) ])
    ];
    inside = λ x a. also (s.inside x) a;
    marks = marks_more s.marks u t (spot_shape g, c);
  }

  spot_zero : {f : Spot} → SpotOk C zero_size_parts (IsZeroSize C) f → (zero_size_references (spot_shape f) ≡ None → ⊥) → slice_get (zero_size_parts (spot_shape f)) f.next ≡ None → IsZeroSize C f.name.now
  spot_zero {f} o some e = zeroed (spot_shape f) (zero_size_parts (spot_shape f)) o.defined (parts_or (zero_size_references (spot_shape f)) some) (all_settled C zero_size_parts o e)

  -- the last name is of zero size, and the one above goes on
  pub zero_pop : {name : List ℕ} {T U : List ℕ → Option Bool} {fs : List Spot} {f h : Spot} {L : List (List ℕ)} → ZeroState name T (h ∷ fs) f L → (zero_size_references (spot_shape f) ≡ None → ⊥) → slice_get (zero_size_parts (spot_shape f)) f.next ≡ None → Updated T U f.name.now true → ZeroState name U fs h L
  zero_pop {name} {T} {U} {fs} {f} {h} {L} s some e u =
      let z = spot_zero s.ok some e in
      record {
        chain = s.chain.2;
        ok = s.chain.0;
        true_is = λ x k. elim (name_cases x f.name.now) [ inl q ↦ subst (λ y. IsZeroSize C y) (sym q) z | inr q ↦ s.true_is x (sym (u.others x q) ∙ k) ];
        false_is = λ x k. elim (name_cases x f.name.now) [
          | inl q ↦ (let a = u.here in let b = ap U q in cc)
          | inr q ↦ (elim (s.false_is x (sym (u.others x q) ∙ k)) [ inl n ↦ inl n | inr a ↦ inr (other_one q a) ])
        ];
        inside = λ x a. s.inside x (later a);
        marks = marks_again s.marks u (s.inside f.name.now first);
      }

  -- no name on the stack is of zero size
  pub zero_settled : {name : List ℕ} {T : List ℕ → Option Bool} {fs : List Spot} {f : Spot} {L : List (List ℕ)} → ZeroState name T fs f L → (IsZeroSize C f.name.now → ⊥) → ((x : List ℕ) → T x ≡ Some false → IsZeroSize C x → ⊥) × (IsZeroSize C name → ⊥)
  zero_settled {fs = fs} s not_it = (
    (λ x h z. elim (s.false_is x h) [ inl n ↦ n z | inr a ↦ not_it (zero_reached (path_leads C zero_size_parts (IsZeroSize C) fs s.chain a).1 z) ]),
    λ z. not_it (zero_reached (chain_leads C zero_size_parts (IsZeroSize C) fs s.chain) z),
  )

  pub zero_never : {name : List ℕ} {T : List ℕ → Option Bool} {fs : List Spot} {f : Spot} {L : List (List ℕ)} → ZeroState name T fs f L → zero_size_references (spot_shape f) ≡ None → IsZeroSize C f.name.now → ⊥
  zero_never {f = f} s none = never_is (spot_shape f) s.ok.defined none

  -- a part that is marked `false`, or that has no definition
  pub zero_part_false : {name : List ℕ} {T : List ℕ → Option Bool} {fs : List Spot} {f : Spot} {L : List (List ℕ)} (p : List ℕ) → ZeroState name T fs f L → slice_get (zero_size_parts (spot_shape f)) f.next ≡ Some p → T p ≡ Some false → IsZeroSize C f.name.now → ⊥
  zero_part_false {name} {T} {fs} {f} p s e t z =
      let a = among_get (zero_size_parts (spot_shape f)) f.next e in
      let part = zero_part (spot_shape f) s.ok.defined a z in
      elim (s.false_is p t) [ inl n ↦ n part | inr h ↦ no_zero_cycle (spot_shape f) part (path_leads C zero_size_parts (IsZeroSize C) fs s.chain h).1 s.ok.defined a ]

  pub zero_part_missing : {name : List ℕ} {T : List ℕ → Option Bool} {fs : List Spot} {f : Spot} {L : List (List ℕ)} (p : List ℕ) → ZeroState name T fs f L → slice_get (zero_size_parts (spot_shape f)) f.next ≡ Some p → C p ≡ None → IsZeroSize C f.name.now → ⊥
  zero_part_missing {f = f} p s e c z = undefined_is c (zero_part (spot_shape f) s.ok.defined (among_get (zero_size_parts (spot_shape f)) f.next e) z)

  -- the name asked for is of zero size
  pub zero_end : {name : List ℕ} {T U : List ℕ → Option Bool} {f : Spot} {L : List (List ℕ)} → ZeroState name T [] f L → (zero_size_references (spot_shape f) ≡ None → ⊥) → slice_get (zero_size_parts (spot_shape f)) f.next ≡ None → Updated T U f.name.now true → IsZeroSize C name × ((x : List ℕ) → U x ≡ Some true → IsZeroSize C x) × ((x : List ℕ) → U x ≡ Some false → IsZeroSize C x → ⊥) × Visited (IsDefined C) U L
  zero_end {name} {T} {U} {f} {L} s some e u =
      let z = spot_zero s.ok some e in (
        subst (λ y. IsZeroSize C y) (sym s.chain) z,
        (λ x k. elim (name_cases x f.name.now) [ inl q ↦ subst (λ y. IsZeroSize C y) (sym q) z | inr q ↦ s.true_is x (sym (u.others x q) ∙ k) ]),
        (λ x k zx. elim (name_cases x f.name.now) [
          | inl q ↦ (let a = u.here in let b = ap U q in cc)
          | inr q ↦ (elim (s.false_is x (sym (u.others x q) ∙ k)) [ inl n ↦ n zx | inr a ↦ q (among_one a) ])
        ]),
        marks_again s.marks u (s.inside f.name.now first),
      )
