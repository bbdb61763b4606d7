-- The outcome of a walk for a size, from what each answer says.
use Rattle.std.proofs.Common.{◌≡◌, ℕ, ◌<◌, ◌^◌, List}
use Rattle.std.specs.Prelude.{Option, Result, Ok, Err, IfOk, length, ◌≤◌}
use Rattle.borsh_walks.specs.Container.{Shape, Member, missing_definition, is_missing, IsValid, HasVariants, IsLongest}
use Rattle.borsh_walks.specs.SizeAnswer.{IsSizeAnswer}
use Rattle.borsh_walks.specs.SizeOutcome.{AnswersSize}
use Rattle.borsh_walks.specs.declared.error.SchemaMaxSerializedSizeError.{SchemaMaxSerializedSizeError}
use Rattle.borsh_walks.proofs.Laws.{needed_reached, member_bound, size_longest}
use Rattle.borsh_walks.proofs.SizeClaims.{HasSize}
use Rattle.borsh_walks.proofs.SizeComplete.{if_fits}

module _ (C : List ℕ → Option Shape) (root : List ℕ) where
  bounds : (r : Result ℕ SchemaMaxSerializedSizeError) → IsSizeAnswer C root r → IfOk r (λ n. (bs : List ℕ) → Member C root bs → length bs ≤ n)
  bounds (Ok n) a = λ bs m. member_bound C m a
  bounds (Err e) a = tt

  longest : IsValid C root → HasVariants C root → (r : Result ℕ SchemaMaxSerializedSizeError) → IsSizeAnswer C root r → IfOk r (IsLongest C root)
  longest valid variants (Ok n) a = size_longest C root valid variants a
  longest valid variants (Err e) a = tt

  pub answers_size : (r : Result ℕ SchemaMaxSerializedSizeError) → ((n : ℕ) → r ≡ Ok n → n < 2 ^ 64) → HasSize C root → IsSizeAnswer C root r → AnswersSize C root r
  answers_size r fits has a =
      let d = if_fits C root r fits a in
      record {
        answer = a;
        bounds = bounds r a;
        complete = λ n s. record { fits = d.0 n s; overflows = d.1 n s };
        size_exists = has;
        longest = λ valid variants. longest valid variants r a;
        longest_answered = λ valid variants back.
            (let s = has (λ x l none. valid x (needed_reached C l) missing_definition (is_missing none)) back in
            record { longest = s.0; is = size_longest C root valid variants s.1; answered = record { fits = d.0 s.0 s.1; overflows = d.1 s.0 s.1 } });
      }
