-- What a call returns that checks a container's rules or computes its size, and what it counts.
use Rattle.std.specs.Prelude.{◌≡◌, ℕ, List, length, Option, MatchResult, OnOk, Result}
use Rattle.std.specs.BTreeMap.{btree_map_len}
use Rattle.borsh_walks.specs.declared.counted.Expansions.{Expansions}
use Rattle.borsh_walks.specs.declared.counted.Question.TheVariants.{Size}
use Rattle.borsh_walks.specs.declared.error.SchemaContainerValidateError.{SchemaContainerValidateError}
use Rattle.borsh_walks.specs.declared.error.SchemaMaxSerializedSizeError.{SchemaMaxSerializedSizeError}
use Rattle.borsh_walks.specs.Container.{Shape, IsValid}
use Rattle.borsh_walks.specs.Counts.{SizeWork, add_to}
use Rattle.borsh_walks.specs.RulesAnswer.{RulesFault, AcceptsIfValid}
use Rattle.borsh_walks.specs.RulesState.{JudgedCounts, RulesWork}
use Rattle.borsh_walks.specs.SizeAnswer.{AreSizeReached, CountsNeeded}
use Rattle.borsh_walks.specs.SizeOutcome.{AnswersSize}
use Rattle.borsh_schema.specs.declared.container.BorshSchemaContainer.{BorshSchemaContainer}
use Rattle.borsh_schema.specs.Containers.{map_of, language_of, root_of}

-- ---- what is counted

module _ (C : List ℕ → Option Shape) (root : List ℕ) where
  -- `size` rose by the number of needed names
  abbrev pub SizedCounts : Expansions → Expansions → Type 0
  SizedCounts old new = (xs : List (List ℕ)) × AreSizeReached C root xs × (new ≡ add_to Size (length xs) old)

-- ---- results

module _ (c : BorshSchemaContainer) where
  -- the outcome of a call that is to check the rules of a container
  pub record Validates (result : Result (Unit {0}) SchemaContainerValidateError) : Type 0 where
    -- `Ok`: each reached name is defined and keeps the rules; `Err`: a reached name breaks a rule, or an allocation failed
    pub answer : MatchResult result (λ _. IsValid (language_of c) (root_of c)) (λ e. RulesFault (language_of c) (root_of c) e)
    -- a container in which each reached name keeps the rules is accepted, unless an allocation fails
    pub complete : AcceptsIfValid (language_of c) (root_of c) result

  -- the same of a call that counts the definitions that it visits
  pub record ValidatesCounting (old new : Expansions) (result : Result (Unit {0}) SchemaContainerValidateError) : Type 0 where
    -- `Ok`: each reached name is defined and keeps the rules; `Err`: a reached name breaks a rule, or an allocation failed
    pub answer : MatchResult result (λ _. IsValid (language_of c) (root_of c)) (λ e. RulesFault (language_of c) (root_of c) e)
    -- a container in which each reached name keeps the rules is accepted, unless an allocation fails
    pub complete : AcceptsIfValid (language_of c) (root_of c) result
    -- `Ok`: `rules` rose by the number of reached names, and `zero` by at least the number of elements that are checked
    pub counts : OnOk result (JudgedCounts (language_of c) (root_of c) old new)
    -- only reached definitions were checked, each once, and only those tested for zero size that a checked element depends on, whatever the result
    pub work : RulesWork (language_of c) (root_of c) (btree_map_len (map_of c)) old new

  -- the outcome of a call that computes a container's greatest size; no encoding is longer
  abbrev pub Sizes : Result ℕ SchemaMaxSerializedSizeError → Type 0
  Sizes result = AnswersSize (language_of c) (root_of c) result

  -- the same of a call that counts the definitions that it visits
  pub record SizesCounting (old new : Expansions) (result : Result ℕ SchemaMaxSerializedSizeError) : Type 0 where
    -- `Ok`: the greatest size; `Err`: why there is none
    pub size : Sizes result
    -- only names that the size needs were looked at, each once; after `Ok` these are all that it needs
    pub counts : CountsNeeded (language_of c) (root_of c) old new result
    -- `size` rose by at most the number of definitions, and the others stay, whatever the result
    pub bounded_work : SizeWork (btree_map_len (map_of c)) old new
