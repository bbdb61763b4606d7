-- Definitions of a type that are valid and unambiguous by themselves, as a test that computes.
use Rattle.std.specs.Prelude.{ℕ, zero, suc, ◌+◌, ◌^◌, ℤ, Bool, true, false, not, ◌&&◌, ◌||◌, cond, eqb, nat_lt, nat_le, List, [], ◌∷◌, Option, Some, None, is_some, option_map, option_and_then, bytes_eq}
use Rattle.std.specs.List.{list_all}
use Rattle.borsh_walks.specs.Container.{Shape, primitive, sequence, product, choice, tag, references, zero_size_references, IsValid, Member}
use Rattle.borsh_codec.specs.Codec.{Codec}
use Rattle.borsh_schema.specs.declared.container.BorshSchemaContainer.{BorshSchemaContainer}
use Rattle.borsh_schema.specs.Containers.{language_of, root_of}
use Rattle.borsh_values.specs.Unambiguous.{IsUnambiguous}
use Rattle.borsh_definitions.specs.Described.{Form, shape_of_form, DefinitionTree, none, defined, both}

-- the first definition of the name in the tree, and else `other`
abbrev pub definition_or : Option Form → DefinitionTree → List ℕ → Option Form
definition_or other none n = other
definition_or other (defined m d ps) n = cond (bytes_eq m n) (Some d) (definition_or other ps n)
definition_or other (both ps qs) n = definition_or (definition_or other qs n) ps n

-- the definition of the name in the tree, without the names of its fields and variants
abbrev pub shape_in : DefinitionTree → List ℕ → Option Shape
shape_in ps n = option_map shape_of_form (definition_or None ps n)

abbrev pub is_defined_in : DefinitionTree → List ℕ → Bool
is_defined_in ps n = is_some (definition_or None ps n)

-- how many definitions the tree has
abbrev pub tree_size : DefinitionTree → ℕ
tree_size none = 0
tree_size (defined n d ps) = suc (tree_size ps)
tree_size (both ps qs) = tree_size ps + tree_size qs

-- whether all of the names pass, if there are names
abbrev pub all_pass : (List ℕ → Bool) → Option (List (List ℕ)) → Bool
all_pass test None = false
all_pass test (Some ns) = list_all test ns

-- whether the name may be of zero size, as far as so many steps along the definitions tell
abbrev pub may_be_zero_size : ℕ → DefinitionTree → List ℕ → Bool
may_be_zero_size zero ps n = true
may_be_zero_size (suc steps) ps n = all_pass (may_be_zero_size steps ps) (option_and_then zero_size_references (shape_in ps n))

-- a range of one count that isn't written, or of counts that a width of 1, 2, 4 or 8 bytes holds
abbrev pub is_range : ℕ → ℕ → ℕ → Bool
is_range w lo hi = (eqb w 0 && eqb lo hi) || ((eqb w 1 || (eqb w 2 || (eqb w 4 || eqb w 8))) && (nat_le lo hi && nat_lt hi (256 ^ w)))

-- whether no two of the variants have one tag in that width
abbrev pub has_distinct_tags : ℕ → List (ℤ × List ℕ) → Bool
has_distinct_tags w [] = true
has_distinct_tags w (v ∷ vs) = list_all (λ u. not (bytes_eq (tag w v.0) (tag w u.0))) vs && has_distinct_tags w vs

-- whether the definition keeps the rules and is unambiguous, among those of the tree
abbrev pub is_kept_in : DefinitionTree → Shape → Bool
is_kept_in ps (primitive n) = true
is_kept_in ps (sequence w lo hi e) = is_range w lo hi && (eqb w 0 || not (may_be_zero_size (tree_size ps) ps e))
is_kept_in ps (product ns) = true
is_kept_in ps (choice w vs) = nat_le w 8 && has_distinct_tags w vs

-- the same, and each name that it refers to is defined
abbrev pub is_well_formed_in : DefinitionTree → Shape → Bool
is_well_formed_in ps d = is_kept_in ps d && list_all (is_defined_in ps) (references d)

-- whether each definition passes
abbrev pub all_definitions : (Shape → Bool) → DefinitionTree → Bool
all_definitions test none = true
all_definitions test (defined n d ps) = test (shape_of_form d) && all_definitions test ps
all_definitions test (both ps qs) = all_definitions test ps && all_definitions test qs

-- whether the name and its definitions are valid and unambiguous by themselves; for a type without parameters this computes
abbrev pub are_well_formed : List ℕ → DefinitionTree → Bool
are_well_formed name ps = is_defined_in ps name && all_definitions (is_well_formed_in ps) ps

-- each name that is reached keeps the rules, and no bytes are a member in two ways
pub record IsWellFormed (C : List ℕ → Option Shape) (root : List ℕ) : Type 0 where
  pub valid : IsValid C root
  pub unambiguous : IsUnambiguous C root

-- whatever bytes decode to a value, they are a member of the container's root
abbrev pub DecodesToMembers : {A : Type 0} → Codec A → BorshSchemaContainer → Type 0
DecodesToMembers {A = A} c container = (a : A) (x : List ℕ) → c.decodes true x a → Member (language_of container) (root_of container) x
