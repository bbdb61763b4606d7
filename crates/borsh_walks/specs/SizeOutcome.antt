-- The outcome of a call that computes a container's greatest size.
use Rattle.std.specs.Prelude.{◌≡◌, ℕ, ◌^◌, ◌<◌, ◌≤◌, ◌⊎◌, List, length, Option, None, IfOk, MatchResult, Result}
use Rattle.borsh_walks.specs.declared.error.SchemaMaxSerializedSizeError.{SchemaMaxSerializedSizeError}
use Rattle.borsh_walks.specs.declared.error.SchemaMaxSerializedSizeError.TheVariants.{Overflow, OutOfMemory}
use Rattle.borsh_walks.specs.Container.{Shape, Member, MaxSize, SizeReaches, IsRecursive, IsValid, HasVariants, IsLongest}
use Rattle.borsh_walks.specs.SizeAnswer.{IsSizeAnswer}

-- the number is returned if it fits, and otherwise `Overflow`, unless an allocation fails
pub record IsAnswered (n : ℕ) (r : Result ℕ SchemaMaxSerializedSizeError) : Type 0 where
  pub fits : n < 2 ^ 64 → MatchResult r (λ m. m ≡ n) (λ e. e ≡ OutOfMemory)
  pub overflows : 2 ^ 64 ≤ n → MatchResult r (λ m. ⊥) (λ e. (e ≡ Overflow) ⊎ (e ≡ OutOfMemory))

-- some member has this length and none is longer, and it is returned
pub record AnswersLongest (C : List ℕ → Option Shape) (root : List ℕ) (r : Result ℕ SchemaMaxSerializedSizeError) : Type 0 where
  pub longest : ℕ
  pub is : IsLongest C root longest
  pub answered : IsAnswered longest r

pub record AnswersSize (C : List ℕ → Option Shape) (root : List ℕ) (r : Result ℕ SchemaMaxSerializedSizeError) : Type 0 where
  -- `Ok`: the `MaxSize`; `Err`: the cause of the error
  pub answer : IsSizeAnswer C root r
  -- no member is longer than a returned size
  pub bounds : IfOk r (λ n. (bs : List ℕ) → Member C root bs → length bs ≤ n)
  -- where there is a `MaxSize`, it is returned as `IsAnswered` says
  pub complete : (n : ℕ) → MaxSize C root n → IsAnswered n r
  -- where no needed name is missing or leads back to itself, there is a `MaxSize`
  pub size_exists : ((x : List ℕ) → SizeReaches C root x → C x ≡ None → ⊥) → (IsRecursive C root → ⊥) → (n : ℕ) × MaxSize C root n
  -- in a valid container whose reached enums have variants, a returned size is the length of a member of the root, and none is longer
  pub longest : IsValid C root → HasVariants C root → IfOk r (IsLongest C root)
  -- and where no needed name leads back to itself, the longest length is returned
  pub longest_answered : IsValid C root → HasVariants C root → (IsRecursive C root → ⊥) → AnswersLongest C root r
