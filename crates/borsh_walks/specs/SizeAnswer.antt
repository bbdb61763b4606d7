-- What a result of `root_size` means.
use Rattle.std.specs.Prelude.{◌≡◌, ◌≢◌, AllPairs, ℕ, ◌^◌, ◌≤◌, ◌↔◌, List, [], length, Option, None, string_bytes, ⊤, MatchResult, OnOk, Result}
use Rattle.borsh_walks.specs.declared.error.SchemaMaxSerializedSizeError.{SchemaMaxSerializedSizeError}
use Rattle.borsh_walks.specs.declared.error.SchemaMaxSerializedSizeError.TheVariants.{Overflow, Recursive, MissingDefinition, OutOfMemory, Redefinition}
use Rattle.borsh_walks.specs.declared.counted.Expansions.{Expansions}
use Rattle.borsh_walks.specs.declared.counted.Question.TheVariants.{Size}
use Rattle.borsh_walks.specs.Container.{Shape, IsIn, IsDefined, MaxSize, PartialSize, SizeReaches, IsRecursive}
use Rattle.borsh_walks.specs.Counts.{add_to}

-- the error of a name without a definition, or `OutOfMemory` if the name could not be copied
abbrev pub IsMissing : List ℕ → SchemaMaxSerializedSizeError → Type 0
IsMissing name (MissingDefinition m) = string_bytes m ≡ name
IsMissing name OutOfMemory = ⊤
IsMissing name _ = ⊥

module _ (C : List ℕ → Option Shape) (root : List ℕ) where
  -- the cause of an error
  abbrev pub SizeFault : SchemaMaxSerializedSizeError → Type 0
  SizeFault Overflow = (k : ℕ) × PartialSize C [] root k × (2 ^ 64 ≤ k)
  SizeFault Recursive = IsRecursive C root
  SizeFault (MissingDefinition m) = SizeReaches C root (string_bytes m) × (C (string_bytes m) ≡ None)
  SizeFault OutOfMemory = ⊤
  SizeFault (Redefinition m) = ⊥

  -- the names that the size needs, each once
  abbrev pub AreSizeReached : List (List ℕ) → Type 0
  AreSizeReached xs = AllPairs ◌≢◌ xs × ((x : List ℕ) → IsIn x xs ↔ SizeReaches C root x)

  -- a returned size is the `MaxSize`; an error has its cause
  abbrev pub IsSizeAnswer : Result ℕ SchemaMaxSerializedSizeError → Type 0
  IsSizeAnswer r = MatchResult r (λ n. MaxSize C root n) (λ e. SizeFault e)

  -- `size` rose by the number of names in a list, each there once, needed and defined
  pub record VisitsNeeded (old new : Expansions) (xs : List (List ℕ)) : Type 0 where
    pub once : AllPairs ◌≢◌ xs
    pub needed : (x : List ℕ) → IsIn x xs → SizeReaches C root x × IsDefined C x
    pub counts : new ≡ add_to Size (length xs) old

  -- only names that the size needs and that are defined were looked at, each once; if a size is returned, these are all that it needs
  abbrev pub CountsNeeded : Expansions → Expansions → Result ℕ SchemaMaxSerializedSizeError → Type 0
  CountsNeeded old new r = (xs : List (List ℕ)) × VisitsNeeded old new xs × OnOk r (AreSizeReached xs)
