-- A container that has the definitions of a type, and no others, is valid and unambiguous where these are by themselves.
use Rattle.std.proofs.Common.{◌≡◌, ℕ, zero, suc, ◌+◌, ◌<◌, ◌≤◌, ◌^◌, ℤ, Bool, true, false, not, ◌&&◌, ◌||◌, cond, List, [], ◌∷◌, Option, Some, None, refl, sym, ◌∙◌, ap, subst, inl, inr, arith, true≢false}
use Rattle.std.specs.Prelude.{◌⊎◌, eqb, nat_lt, nat_le, is_some, option_map, option_and_then, bytes_eq}
use Rattle.std.specs.List.{list_all}
use Rattle.std.proofs.lemmas.Bool.{eqb-true, leb-true, ltb-true}
use Rattle.std.proofs.lemmas.Slice.Eq.{bytes_eq-Decides}
use Rattle.borsh_walks.specs.Container.{Shape, primitive, sequence, product, choice, tag, references, zero_size_references, IsIn, first, later, IsListedVariant, first_variant, later_variant, Reaches, stays, onward, IsZeroSize, zeroed, Rule, Breaks, is_missing, is_empty, is_not_power, is_too_wide, is_too_narrow, is_zst_sequence, is_wide_choice, IsFixed}
use Rattle.borsh_values.specs.Unambiguous.{DistinctTags, no_tags, more_tags, UnambiguousShape}
use Rattle.borsh_definitions.specs.Described.{Form, shape_of_form, DefinitionTree, none, defined, both, DefinitionMap, nothing_defined, IsInTree}
use Rattle.borsh_schema.specs.Joined.{IsUnion}
use Rattle.borsh_codec.specs.Codec.{Codec, Lawful}
use Rattle.borsh_codec.proofs.Laws.Lists.{and_true}
use Rattle.borsh_walks.proofs.Forms.{shapes_are}
use Rattle.borsh_schema.specs.declared.container.BorshSchemaContainer.{BorshSchemaContainer}
use Rattle.borsh_schema.specs.Containers.{DescribesRoot, IsContainerOf, language_of, map_of, root_of}
use Rattle.borsh.specs.WellFormed.{DecodesToMembers, definition_or, shape_in, is_defined_in, tree_size, all_pass, may_be_zero_size, is_range, has_distinct_tags, is_kept_in, is_well_formed_in, all_definitions, are_well_formed, IsWellFormed}

or_true : (a b : Bool) → a || b ≡ true → (a ≡ true) ⊎ (b ≡ true)
or_true true b e = inl refl
or_true false b e = inr e

not_true : (a : Bool) → not a ≡ true → a ≡ false
not_true true e = absurd (true≢false (sym e))
not_true false e = refl

-- ---- the definition of a name in a tree

-- the definition that is found is in the tree, or is the other one
found : (ps : DefinitionTree) (other : Option Form) (n : List ℕ) (d : Form) → definition_or other ps n ≡ Some d → IsInTree n d ps ⊎ (other ≡ Some d)
found none other n d e = inr e
found (defined m e ps) other n d f = by (bytes_eq m n) refl (found ps other n d) f
  where
    by : (b : Bool) → bytes_eq m n ≡ b → (definition_or other ps n ≡ Some d → IsInTree n d ps ⊎ (other ≡ Some d)) → cond b (Some e) (definition_or other ps n) ≡ Some d → IsInTree n d (defined m e ps) ⊎ (other ≡ Some d)
    by true i rest g = inl (inl ((bytes_eq-Decides m n).0 i, (cc)))
    by false i rest g = elim (rest g) [ inl h ↦ inl (inr h) | inr h ↦ inr h ]
found (both ps qs) other n d f =
    elim (found ps (definition_or other qs n) n d f) [ inl h ↦ inl (inl h) | inr h ↦ elim (found qs other n d h) [ inl k ↦ inl (inr k) | inr k ↦ inr k ] ]

-- where no definition is found, none is in the tree, and there is no other one
record IsAbsent (ps : DefinitionTree) (other : Option Form) (n : List ℕ) : Type 0 where
  pub nowhere : (d : Form) → IsInTree n d ps → ⊥
  pub neither : other ≡ None

absent : (ps : DefinitionTree) (other : Option Form) (n : List ℕ) → definition_or other ps n ≡ None → IsAbsent ps other n
absent none other n e = record { nowhere = λ d h. h; neither = e }
absent (defined m e ps) other n f = by (bytes_eq m n) refl (absent ps other n) f
  where
    by : (b : Bool) → bytes_eq m n ≡ b → (definition_or other ps n ≡ None → IsAbsent ps other n) → cond b (Some e) (definition_or other ps n) ≡ None → IsAbsent (defined m e ps) other n
    by true i rest g = absurd (cc)
    by false i rest g = record {
      nowhere = λ d h. elim h [ inl k ↦ absurd (true≢false (sym ((bytes_eq-Decides m n).1 k.0) ∙ i)) | inr k ↦ (rest g).nowhere d k ];
      neither = (rest g).neither;
    }
absent (both ps qs) other n f =
    let before = absent ps (definition_or other qs n) n f in
    let behind = absent qs other n before.neither in
    record { nowhere = λ d h. elim h [ inl k ↦ before.nowhere d k | inr k ↦ behind.nowhere d k ]; neither = behind.neither }

-- what is defined is the first definition of the tree
pub same_definition : {ps : DefinitionTree} {D : DefinitionMap} → IsUnion nothing_defined ps D → (n : List ℕ) → D n ≡ definition_or None ps n
same_definition {ps = ps} {D = D} u n = by (definition_or None ps n) refl (D n) refl
  where
    by : (o : Option Form) → definition_or None ps n ≡ o → (p : Option Form) → D n ≡ p → D n ≡ o
    by (Some d) e p f = elim (found ps None n d e) [ inl h ↦ u.has n d h | inr h ↦ absurd (cc) ]
    by None e None f = f
    by None e (Some d) f = elim (u.only n d f) [ inl h ↦ absurd (cc) | inr h ↦ absurd ((absent ps None n e).nowhere d h) ]

-- ---- what the tests say

all_in : (test : List ℕ → Bool) (ns : List (List ℕ)) → list_all test ns ≡ true → (n : List ℕ) → IsIn n ns → test n ≡ true
all_in test [] e n h = elim h [ ]
all_in test (m ∷ ns) e n first = (and_true (test m) (list_all test ns) e).0
all_in test (m ∷ ns) e n (later h) = all_in test ns (and_true (test m) (list_all test ns) e).1 n h

in_all : (test : List ℕ → Bool) (ns : List (List ℕ)) → ((n : List ℕ) → IsIn n ns → test n ≡ true) → list_all test ns ≡ true
in_all test [] f = refl
in_all test (m ∷ ns) f = ap (λ b. b && list_all test ns) (f m first) ∙ in_all test ns (λ n h. f n (later h))

each_passes : (test : Shape → Bool) (ps : DefinitionTree) → all_definitions test ps ≡ true → (n : List ℕ) (d : Form) → IsInTree n d ps → test (shape_of_form d) ≡ true
each_passes test none e n d h = absurd h
each_passes test (defined m c ps) e n d (inl h) = ap (λ k. test (shape_of_form k)) (sym h.1) ∙ (and_true (test (shape_of_form c)) (all_definitions test ps) e).0
each_passes test (defined m c ps) e n d (inr h) = each_passes test ps (and_true (test (shape_of_form c)) (all_definitions test ps) e).1 n d h
each_passes test (both ps qs) e n d (inl h) = each_passes test ps (and_true (all_definitions test ps) (all_definitions test qs) e).0 n d h
each_passes test (both ps qs) e n d (inr h) = each_passes test qs (and_true (all_definitions test ps) (all_definitions test qs) e).1 n d h

-- the tags of variants
module _ (w : ℕ) where
  apart : (v : ℤ × List ℕ) (us : List (ℤ × List ℕ)) → list_all (λ u. not (bytes_eq (tag w v.0) (tag w u.0))) us ≡ true → (k : ℤ) (p : List ℕ) → IsListedVariant k p us → tag w v.0 ≡ tag w k → ⊥
  apart v [] f k p l g = elim l [ ]
  apart v (u ∷ us) f k p first_variant g =
      let h = and_true (not (bytes_eq (tag w v.0) (tag w k))) (list_all (λ u. not (bytes_eq (tag w v.0) (tag w u.0))) us) f in
      true≢false (sym ((bytes_eq-Decides (tag w v.0) (tag w k)).1 g) ∙ not_true (bytes_eq (tag w v.0) (tag w k)) h.0)
  apart v (u ∷ us) f k p (later_variant l) g =
      apart v us (and_true (not (bytes_eq (tag w v.0) (tag w u.0))) (list_all (λ u. not (bytes_eq (tag w v.0) (tag w u.0))) us) f).1 k p l g

  distinct : (vs : List (ℤ × List ℕ)) → has_distinct_tags w vs ≡ true → DistinctTags w vs
  distinct [] e = no_tags
  distinct (v ∷ vs) e =
      let h = and_true (list_all (λ u. not (bytes_eq (tag w v.0) (tag w u.0))) vs) (has_distinct_tags w vs) e in
      more_tags (apart v vs h.0) (distinct vs h.1)

-- one count that isn't written, or counts that fit in the width
data KeepsRange (w lo hi : ℕ) : Type 0 where
  one_count : w ≡ 0 → lo ≡ hi → KeepsRange w lo hi
  written : (w ≡ 1) ⊎ ((w ≡ 2) ⊎ ((w ≡ 4) ⊎ (w ≡ 8))) → lo ≤ hi → hi < 256 ^ w → KeepsRange w lo hi

one_of : (w : ℕ) → (eqb w 1 || (eqb w 2 || (eqb w 4 || eqb w 8))) ≡ true → (w ≡ 1) ⊎ ((w ≡ 2) ⊎ ((w ≡ 4) ⊎ (w ≡ 8)))
one_of w e = elim (or_true (eqb w 1) (eqb w 2 || (eqb w 4 || eqb w 8)) e) [
  | inl h ↦ inl (eqb-true w 1 h)
  | inr h ↦ elim (or_true (eqb w 2) (eqb w 4 || eqb w 8) h) [
    | inl k ↦ inr (inl (eqb-true w 2 k))
    | inr k ↦ elim (or_true (eqb w 4) (eqb w 8) k) [ inl l ↦ inr (inr (inl (eqb-true w 4 l))) | inr l ↦ inr (inr (inr (eqb-true w 8 l))) ]
  ]
]

range : (w lo hi : ℕ) → is_range w lo hi ≡ true → KeepsRange w lo hi
range w lo hi e = elim (or_true (eqb w 0 && eqb lo hi) ((eqb w 1 || (eqb w 2 || (eqb w 4 || eqb w 8))) && (nat_le lo hi && nat_lt hi (256 ^ w))) e) [
  | inl h ↦ (let k = and_true (eqb w 0) (eqb lo hi) h in one_count (eqb-true w 0 k.0) (eqb-true lo hi k.1))
  | inr h ↦ (
      let k = and_true (eqb w 1 || (eqb w 2 || (eqb w 4 || eqb w 8))) (nat_le lo hi && nat_lt hi (256 ^ w)) h in
      let l = and_true (nat_le lo hi) (nat_lt hi (256 ^ w)) k.1 in
      written (one_of w k.0) (leb-true lo hi l.0) (ltb-true hi (256 ^ w) l.1)
      )
]

range_counts : {w lo hi : ℕ} → KeepsRange w lo hi → hi < lo + 256 ^ w
range_counts {w} {lo} {hi} (one_count e f) = subst (λ k. hi < lo + 256 ^ k) (sym e) (omega (arith, f))
range_counts (written o l h) = omega (arith, h)

range_ordered : {w lo hi : ℕ} → KeepsRange w lo hi → hi < lo → ⊥
range_ordered (one_count e f) g = omega (arith, f, g)
range_ordered (written o l h) g = omega (arith, l, g)

range_power : {w lo hi : ℕ} → KeepsRange w lo hi → (w ≡ 3) ⊎ (w ≡ 5) ⊎ (w ≡ 6) ⊎ (w ≡ 7) → ⊥
range_power (one_count e f) g = grind (arith, e, g)
range_power (written o l h) g = grind (arith, o, g)

range_wide : {w lo hi : ℕ} → KeepsRange w lo hi → 8 < w → ⊥
range_wide (one_count e f) g = omega (arith, e, g)
range_wide (written o l h) g = grind (arith, o, g)

range_narrow : {w lo hi : ℕ} → KeepsRange w lo hi → (w ≡ 1) ⊎ (w ≡ 2) ⊎ (w ≡ 4) → 256 ^ w ≤ hi → ⊥
range_narrow (one_count e f) o g = grind (arith, e, o)
range_narrow (written p l h) o g = omega (arith, h, g)

range_fixed : {w lo hi : ℕ} → KeepsRange w lo hi → eqb w 0 ≡ true → IsFixed w lo hi
range_fixed (one_count e f) g = (e, f)
range_fixed {w} (written o l h) g = let z = eqb-true w 0 g in absurd (grind (arith, o, z))

-- ---- definitions that are those of the tree

module _ (C : List ℕ → Option Shape) (root : List ℕ) (ps : DefinitionTree) (same : (x : List ℕ) → C x ≡ shape_in ps x) (well : are_well_formed root ps ≡ true) where
  both_tests : (is_defined_in ps root ≡ true) × (all_definitions (is_well_formed_in ps) ps ≡ true)
  both_tests = and_true (is_defined_in ps root) (all_definitions (is_well_formed_in ps) ps) well

  -- a definition passes both tests
  passes : (x : List ℕ) (d : Shape) → C x ≡ Some d → (is_kept_in ps d ≡ true) × (list_all (is_defined_in ps) (references d) ≡ true)
  passes x d e = and_true (is_kept_in ps d) (list_all (is_defined_in ps) (references d)) (by (definition_or None ps x) refl (sym (same x) ∙ e))
    where
      by : (o : Option Form) → definition_or None ps x ≡ o → option_map shape_of_form o ≡ Some d → is_well_formed_in ps d ≡ true
      by None f g = absurd (cc)
      by (Some n) f g =
          let s : shape_of_form n ≡ d = cc in
          elim (found ps None x n f) [ inl h ↦ ap (is_well_formed_in ps) (sym s) ∙ each_passes (is_well_formed_in ps) ps both_tests.1 x n h | inr h ↦ absurd (cc) ]

  -- a name that is reached is defined
  is_there : {x : List ℕ} → Reaches C references root x → is_defined_in ps x ≡ true
  is_there stays = both_tests.0
  is_there (onward {y = y} {z = z} d r e i) = all_in (is_defined_in ps) (references d) (passes y d e).1 z i

  -- a name of zero size may be so
  maybe_zero : {x : List ℕ} → IsZeroSize C x → (steps : ℕ) → may_be_zero_size steps ps x ≡ true
  maybe_zero z zero = refl
  maybe_zero {x} (zeroed d ns e f each) (suc steps) =
      ap (λ o. all_pass (may_be_zero_size steps ps) (option_and_then zero_size_references o)) (sym (same x) ∙ e)
      ∙ ap (all_pass (may_be_zero_size steps ps)) f
      ∙ in_all (may_be_zero_size steps ps) ns (λ n h. maybe_zero (each n h) steps)

  keeps_range : {x e : List ℕ} {w lo hi : ℕ} → C x ≡ Some (sequence w lo hi e) → KeepsRange w lo hi × ((eqb w 0 || not (may_be_zero_size (tree_size ps) ps e)) ≡ true)
  keeps_range {x} {e} {w} {lo} {hi} f =
      let h = and_true (is_range w lo hi) (eqb w 0 || not (may_be_zero_size (tree_size ps) ps e)) (passes x (sequence w lo hi e) f).0 in
      (range w lo hi h.0, h.1)

  keeps_tags : {x : List ℕ} {w : ℕ} {vs : List (ℤ × List ℕ)} → C x ≡ Some (choice w vs) → (w ≤ 8) × DistinctTags w vs
  keeps_tags {x} {w} {vs} f =
      let h = and_true (nat_le w 8) (has_distinct_tags w vs) (passes x (choice w vs) f).0 in
      (leb-true w 8 h.0, distinct w vs h.1)

  no_rule_broken : (x : List ℕ) → Reaches C references root x → (r : Rule) → Breaks C r x → ⊥
  no_rule_broken x h r (is_missing e) = let t = is_there h in let s = same x in let k : option_map shape_of_form (definition_or None ps x) ≡ None = cc in none_there (definition_or None ps x) k t
    where
      none_there : (o : Option Form) → option_map shape_of_form o ≡ None → is_some o ≡ true → ⊥
      none_there None f t = true≢false (sym t)
      none_there (Some d) f t = absurd (cc)
  no_rule_broken x h r (is_empty e f) = range_ordered (keeps_range e).0 f
  no_rule_broken x h r (is_not_power e f) = range_power (keeps_range e).0 f
  no_rule_broken x h r (is_too_wide e f) = range_wide (keeps_range e).0 f
  no_rule_broken x h r (is_too_narrow e f g) = range_narrow (keeps_range e).0 f g
  no_rule_broken x h r (is_zst_sequence {w = w} {e = e} f g z) =
      let k = keeps_range f in
      elim (or_true (eqb w 0) (not (may_be_zero_size (tree_size ps) ps e)) k.1) [
        | inl l ↦ g (range_fixed k.0 l)
        | inr l ↦ true≢false (sym (maybe_zero z (tree_size ps)) ∙ not_true (may_be_zero_size (tree_size ps) ps e) l)
      ]
  no_rule_broken x h r (is_wide_choice e f) = let k = (keeps_tags e).0 in omega (arith, k, f)

  one_way : (x : List ℕ) (d : Shape) → Reaches C references root x → C x ≡ Some d → UnambiguousShape d
  one_way x (primitive n) h e = tt
  one_way x (sequence w lo hi p) h e = range_counts (keeps_range e).0
  one_way x (product ns) h e = tt
  one_way x (choice w vs) h e = (keeps_tags e).1

  pub well_formed : IsWellFormed C root
  well_formed = record { valid = no_rule_broken; unambiguous = one_way }

-- ---- the container of a type

pub own_well_formed : (name : List ℕ) (ps : DefinitionTree) (c : BorshSchemaContainer) → IsContainerOf name ps c → are_well_formed name ps ≡ true → IsWellFormed (language_of c) (root_of c)
own_well_formed name ps c h well =
    let same : (x : List ℕ) → language_of c x ≡ shape_in ps x = λ x. ap (λ C. C x) (sym (shapes_are (map_of c))) ∙ ap (option_map shape_of_form) (same_definition h.definitions x) in
    subst (IsWellFormed (language_of c)) (sym h.root) (well_formed (language_of c) name ps same well)

-- of a canonical type what decodes is an encoding, and so a member
pub decoded_members : {A : Type 0} {c : Codec A} → Lawful A c → (container : BorshSchemaContainer) → DescribesRoot c container → c.is_canonical ≡ true → DecodesToMembers c container
decoded_members l container d canonical a x h = d a x (l.canonical x a canonical h)
