-- Which answers must be given, from what each answer says.
use Rattle.std.proofs.Common.{◌≡◌, ℕ, ◌<◌, ◌≤◌, ◌^◌, List, None, refl, arith, ◌⊎◌, inl, inr}
use Rattle.std.specs.Prelude.{Option, Result, Ok, Err}
use Rattle.borsh_walks.specs.Container.{Shape, MaxSize, sized}
use Rattle.borsh_walks.specs.SizeAnswer.{IsSizeAnswer, SizeFault}
use Rattle.borsh_walks.specs.declared.error.SchemaMaxSerializedSizeError.{SchemaMaxSerializedSizeError}
use Rattle.borsh_walks.specs.declared.error.SchemaMaxSerializedSizeError.TheVariants.{Overflow, Recursive, MissingDefinition, OutOfMemory, Redefinition}
use Rattle.borsh_walks.proofs.Laws.{one_size, partial_bound, no_cycle, size_of_needed}
use Rattle.borsh_walks.proofs.SizeClaims.{AnswersIfFits}

module _ (C : List ℕ → Option Shape) (root : List ℕ) where
  no_missing : (m : List ℕ) {n : ℕ} → MaxSize C m n → C m ≡ None → ⊥
  no_missing m (sized d p ss) q = cc

  -- an error of a name that has a size
  only_overflow : (e : SchemaMaxSerializedSizeError) {n : ℕ} → MaxSize C root n → SizeFault C root e → ((e ≡ Overflow) × (2 ^ 64 ≤ n)) ⊎ (e ≡ OutOfMemory)
  only_overflow Overflow s f = let b = partial_bound C f.1 s in inl (refl, omega (arith, b, f.2))
  only_overflow Recursive s f = absurd (no_cycle C (size_of_needed C s f.1).1 f.2)
  only_overflow (MissingDefinition m) s f = absurd (no_missing _ (size_of_needed C s f.0).1 f.1)
  only_overflow OutOfMemory s f = inr refl
  only_overflow (Redefinition m) s f = absurd f

  pub if_fits : (r : Result ℕ SchemaMaxSerializedSizeError) → ((n : ℕ) → r ≡ Ok n → n < 2 ^ 64) → IsSizeAnswer C root r → AnswersIfFits C root r
  if_fits (Ok n) fits a = ((λ m s low. one_size C a s), λ m s high. let e = one_size C a s in let f = fits n refl in absurd (omega arith))
  if_fits (Err e) fits a = (
    (λ m s low. elim (only_overflow e s a) [ inl h ↦ absurd (omega (arith, h.1)) | inr h ↦ h ]),
    λ m s high. elim (only_overflow e s a) [ inl h ↦ inl h.0 | inr h ↦ inr h ],
  )
