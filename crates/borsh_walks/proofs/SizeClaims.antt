-- What the laws of sizes claim.
use Rattle.std.specs.Prelude.{◌≡◌, ℕ, ◌^◌, ◌<◌, ◌≤◌, ◌⊎◌, List, Option, None, MatchResult, Result}
use Rattle.borsh_walks.specs.declared.error.SchemaMaxSerializedSizeError.{SchemaMaxSerializedSizeError}
use Rattle.borsh_walks.specs.declared.error.SchemaMaxSerializedSizeError.TheVariants.{Overflow, OutOfMemory}
use Rattle.borsh_walks.specs.Container.{Shape, MaxSize, SizeReaches, IsRecursive}

module _ (C : List ℕ → Option Shape) (root : List ℕ) where
  -- where the `MaxSize` fits it is returned, and otherwise `Overflow`, unless an allocation fails
  abbrev pub AnswersIfFits : Result ℕ SchemaMaxSerializedSizeError → Type 0
  AnswersIfFits r = ((n : ℕ) → MaxSize C root n → n < 2 ^ 64 → MatchResult r (λ m. m ≡ n) (λ e. e ≡ OutOfMemory)) × ((n : ℕ) → MaxSize C root n → 2 ^ 64 ≤ n → MatchResult r (λ m. ⊥) (λ e. (e ≡ Overflow) ⊎ (e ≡ OutOfMemory)))

  -- where no needed name is missing or leads back to itself, there is a size
  abbrev pub HasSize : Type 0
  HasSize = ((x : List ℕ) → SizeReaches C root x → C x ≡ None → ⊥) → (IsRecursive C root → ⊥) → (n : ℕ) × MaxSize C root n
