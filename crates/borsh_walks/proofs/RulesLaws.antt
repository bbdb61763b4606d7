-- The local rules, from the tests that the code makes.
use Rattle.std.proofs.Common.{◌≡◌, ℕ, ◌^◌, ◌≤◌, List, [], ◌∷◌, Some, None, refl, sym, ◌∙◌, subst, arith, ◌⊎◌, inl, inr, eq-eqb, eqb→eq, Bool, true, false}
use Rattle.std.specs.Prelude.{Option, eqb, ◌&&◌, cond, T}
use Rattle.borsh_walks.specs.Container.{Shape, primitive, sequence, product, choice, IsIn, first, references, Rule, zst_sequence, tag_too_wide, tag_too_narrow, tag_not_power_of_two, missing_definition, empty_length_range, Breaks, is_missing, is_empty, is_not_power, is_too_wide, is_too_narrow, is_zst_sequence, is_wide_choice, IsFixed, IsZeroSize, Reached}
use Rattle.borsh_walks.specs.RulesAnswer.{IsWidth, KeepsWidths, BreaksShape, BreaksWidth, checked_element, RulesFault, IsRulesError}
use Rattle.borsh_walks.specs.declared.error.SchemaContainerValidateError.{SchemaContainerValidateError}
use Rattle.borsh_walks.specs.declared.error.SchemaContainerValidateError.TheVariants.{ZSTSequence, TagTooWide, TagTooNarrow, TagNotPowerOfTwo, MissingDefinition, EmptyLengthRange, OutOfMemory}
use Rattle.borsh_walks.proofs.Laws.{one_definition}

-- both forms of the test that the width is too narrow
narrow : (w hi : ℕ) → BreaksWidth tag_too_narrow w hi → ((w ≡ 1) ⊎ (w ≡ 2) ⊎ (w ≡ 4)) × (256 ^ w ≤ hi)
narrow w hi (inl h) = (inl h.0, subst (λ k. 256 ^ k ≤ hi) (sym h.0) h.1)
narrow w hi (inr (inl h)) = (inr (inl h.0), subst (λ k. 256 ^ k ≤ hi) (sym h.0) h.1)
narrow w hi (inr (inr h)) = (inr (inr h.0), subst (λ k. 256 ^ k ≤ hi) (sym h.0) h.1)

not_narrow : (w hi : ℕ) → ((w ≡ 1) ⊎ (w ≡ 2) ⊎ (w ≡ 4)) → 256 ^ w ≤ hi → BreaksWidth tag_too_narrow w hi
not_narrow w hi (inl q) h = inl (q, subst (λ k. 256 ^ k ≤ hi) q h)
not_narrow w hi (inr (inl q)) h = inr (inl (q, subst (λ k. 256 ^ k ≤ hi) q h))
not_narrow w hi (inr (inr q)) h = inr (inr (q, subst (λ k. 256 ^ k ≤ hi) q h))

width_keeps : (w hi : ℕ) → IsWidth w hi → BreaksWidth tag_too_narrow w hi → ⊥
width_keeps w hi k b = omega arith

element_is : (w lo hi : ℕ) (e : List ℕ) → (IsFixed w lo hi → ⊥) → checked_element (sequence w lo hi e) ≡ Some e
element_is w lo hi e f = go (eqb w 0) (eqb lo hi) refl refl
  where
    go : (a b : Bool) → eqb w 0 ≡ a → eqb lo hi ≡ b → cond (a && b) None (Some e) ≡ Some e
    go true true p q = absurd (f (eqb→eq w 0 (subst (λ t. T t) (sym p) tt), eqb→eq lo hi (subst (λ t. T t) (sym q) tt)))
    go true false p q = refl
    go false b p q = refl

element_fixed : (w lo hi : ℕ) (e p : List ℕ) → checked_element (sequence w lo hi e) ≡ Some p → (e ≡ p) × (IsFixed w lo hi → ⊥)
element_fixed w lo hi e p h = go (eqb w 0) (eqb lo hi) refl refl h
  where
    go : (a b : Bool) → eqb w 0 ≡ a → eqb lo hi ≡ b → cond (a && b) None (Some e) ≡ Some p → (e ≡ p) × (IsFixed w lo hi → ⊥)
    go true true u v h = cc
    go true false u v h = (cc, λ k. let a = eq-eqb lo hi k.1 in cc)
    go false b u v h = (cc, λ k. let a = eq-eqb w 0 k.0 in cc)

module _ (C : List ℕ → Option Shape) where
  pub breaks : {x : List ℕ} (d : Shape) → C x ≡ Some d → (r : Rule) → BreaksShape r d → Breaks C r x
  breaks (primitive n) e r b = absurd b
  breaks (sequence w lo hi el) e zst_sequence b = absurd b
  breaks (sequence w lo hi el) e tag_too_wide b = is_too_wide e b
  breaks (sequence w lo hi el) e tag_too_narrow b = let n = narrow w hi b in is_too_narrow e n.0 n.1
  breaks (sequence w lo hi el) e tag_not_power_of_two b = is_not_power e b
  breaks (sequence w lo hi el) e missing_definition b = absurd b
  breaks (sequence w lo hi el) e empty_length_range b = is_empty e b
  breaks (product ps) e r b = absurd b
  breaks (choice w vs) e zst_sequence b = absurd b
  breaks (choice w vs) e tag_too_wide b = is_wide_choice e b
  breaks (choice w vs) e tag_too_narrow b = absurd b
  breaks (choice w vs) e tag_not_power_of_two b = absurd b
  breaks (choice w vs) e missing_definition b = absurd b
  breaks (choice w vs) e empty_length_range b = absurd b

  -- an element of zero size breaks the rule
  pub breaks_zero : {x p : List ℕ} (d : Shape) → C x ≡ Some d → checked_element d ≡ Some p → IsZeroSize C p → Breaks C zst_sequence x
  breaks_zero (primitive n) e h z = cc
  breaks_zero {p = p} (sequence w lo hi el) e h z = let k = element_fixed w lo hi el p h in is_zst_sequence e k.1 (subst (λ y. IsZeroSize C y) (sym k.0) z)
  breaks_zero (product ps) e h z = cc
  breaks_zero (choice w vs) e h z = cc

  seq_parts : {w lo hi v mo hj : ℕ} {e f : List ℕ} → sequence w lo hi e ≡ sequence v mo hj f → (w ≡ v) × (lo ≡ mo) × (hi ≡ hj) × (e ≡ f)
  seq_parts q = (cc, cc, cc, cc)

  -- a name with a definition that keeps its widths, and whose checked element is not of zero size, breaks no rule
  pub keeps_all : {x : List ℕ} (d : Shape) → C x ≡ Some d → KeepsWidths d → ((p : List ℕ) → checked_element d ≡ Some p → IsZeroSize C p → ⊥) → (r : Rule) → Breaks C r x → ⊥
  keeps_all d e k z _ (is_missing q) = cc
  keeps_all (primitive n) e k z _ (is_empty q h) = let a = one_definition e q in cc
  keeps_all (primitive n) e k z _ (is_not_power q h) = let a = one_definition e q in cc
  keeps_all (primitive n) e k z _ (is_too_wide q h) = let a = one_definition e q in cc
  keeps_all (primitive n) e k z _ (is_too_narrow q h i) = let a = one_definition e q in cc
  keeps_all (primitive n) e k z _ (is_zst_sequence q h i) = let a = one_definition e q in cc
  keeps_all (primitive n) e k z _ (is_wide_choice q h) = let a = one_definition e q in cc
  keeps_all (product ps) e k z _ (is_empty q h) = let a = one_definition e q in cc
  keeps_all (product ps) e k z _ (is_not_power q h) = let a = one_definition e q in cc
  keeps_all (product ps) e k z _ (is_too_wide q h) = let a = one_definition e q in cc
  keeps_all (product ps) e k z _ (is_too_narrow q h i) = let a = one_definition e q in cc
  keeps_all (product ps) e k z _ (is_zst_sequence q h i) = let a = one_definition e q in cc
  keeps_all (product ps) e k z _ (is_wide_choice q h) = let a = one_definition e q in cc
  keeps_all (choice w vs) e k z _ (is_empty q h) = let a = one_definition e q in cc
  keeps_all (choice w vs) e k z _ (is_not_power q h) = let a = one_definition e q in cc
  keeps_all (choice w vs) e k z _ (is_too_wide q h) = let a = one_definition e q in cc
  keeps_all (choice w vs) e k z _ (is_too_narrow q h i) = let a = one_definition e q in cc
  keeps_all (choice w vs) e k z _ (is_zst_sequence q h i) = let a = one_definition e q in cc
  keeps_all (choice w vs) e k z _ (is_wide_choice {w = v} q h) = let a = one_definition e q in let b : w ≡ v = cc in omega (arith, b, k)
  keeps_all (sequence w lo hi el) e k z _ (is_empty q h) = let s = seq_parts (one_definition e q) in omega (arith, s.1, s.2, h, k.0)
  keeps_all (sequence w lo hi el) e k z _ (is_not_power q h) = let s = seq_parts (one_definition e q) in omega (arith, s.0, h, k.1)
  keeps_all (sequence w lo hi el) e k z _ (is_too_wide q h) = let s = seq_parts (one_definition e q) in omega (arith, s.0, h, k.1)
  keeps_all (sequence w lo hi el) e k z _ (is_too_narrow {w = v} {hi = hj} q h i) = let s = seq_parts (one_definition e q) in width_keeps w hi k.1 (subst (λ n. BreaksWidth tag_too_narrow n hi) (sym s.0) (subst (λ n. BreaksWidth tag_too_narrow v n) (sym s.2) (not_narrow v hj h i)))
  keeps_all (sequence w lo hi el) e k z _ (is_zst_sequence {w = v} {lo = mo} {hi = hj} {e = f} q h i) = let s = seq_parts (one_definition e q) in z el (element_is w lo hi el (λ g. h (sym s.0 ∙ g.0, sym s.1 ∙ g.1 ∙ s.2))) (subst (λ y. IsZeroSize C y) (sym s.3) i)
  keeps_all (sequence w lo hi el) e k z _ (is_wide_choice q h) = let a = one_definition e q in cc

  -- the error of a reached name that breaks the rule
  pub rules_fault : (root x : List ℕ) (r : Rule) (e : SchemaContainerValidateError) → IsRulesError r x e → Reached C root x → Breaks C r x → RulesFault C root e
  rules_fault root x r (ZSTSequence m) h l b = (subst (λ y. Reached C root y) (sym h.1) l, subst (λ y. Breaks C zst_sequence y) (sym h.1) (subst (λ k. Breaks C k x) h.0 b))
  rules_fault root x r (TagTooWide m) h l b = (subst (λ y. Reached C root y) (sym h.1) l, subst (λ y. Breaks C tag_too_wide y) (sym h.1) (subst (λ k. Breaks C k x) h.0 b))
  rules_fault root x r (TagTooNarrow m) h l b = (subst (λ y. Reached C root y) (sym h.1) l, subst (λ y. Breaks C tag_too_narrow y) (sym h.1) (subst (λ k. Breaks C k x) h.0 b))
  rules_fault root x r (TagNotPowerOfTwo m) h l b = (subst (λ y. Reached C root y) (sym h.1) l, subst (λ y. Breaks C tag_not_power_of_two y) (sym h.1) (subst (λ k. Breaks C k x) h.0 b))
  rules_fault root x r (MissingDefinition m) h l b = (subst (λ y. Reached C root y) (sym h.1) l, subst (λ y. Breaks C missing_definition y) (sym h.1) (subst (λ k. Breaks C k x) h.0 b))
  rules_fault root x r (EmptyLengthRange m) h l b = (subst (λ y. Reached C root y) (sym h.1) l, subst (λ y. Breaks C empty_length_range y) (sym h.1) (subst (λ k. Breaks C k x) h.0 b))
  rules_fault root x r OutOfMemory h l b = tt

-- the element that is checked is referred to
pub checked_referenced : (d : Shape) (e : List ℕ) → checked_element d ≡ Some e → IsIn e (references d)
checked_referenced (primitive n) e h = cc
checked_referenced (sequence w lo hi el) e h = let k = element_fixed w lo hi el e h in subst (λ y. IsIn e (y ∷ [])) (sym k.0) first
checked_referenced (product ps) e h = cc
checked_referenced (choice w vs) e h = cc
