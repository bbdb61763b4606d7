-- A count of bytes that is no `usize`.
use Rattle.std.proofs.Common.{◌≡◌, ℕ, ◌+◌, ◌-◌, ◌^◌, ◌<◌, ◌≤◌, min, Bool, List, length, Option, None, Some, Result, Ok, Err, IfErr, SomeIff, refl, subst, sym, arith}
use Rattle.std.specs.Option.{ok_or}
use Rattle.std.proofs.lemmas.Bool.{cases_lt}
use Rattle.borsh_io.specs.declared.error.Error.{Error}
use Rattle.borsh_io.specs.declared.error.ErrorKind.TheVariants.{OutOfMemory}
use Rattle.borsh_io.specs.Errors.{error_kind}
use Rattle.borsh.specs.Length.{WhyNoLength}
use Rattle.borsh.specs.Length.WhyNoLength.{too_long}

too_many : (n k : ℕ) → (n < 2 ^ 64 → ⊥) → min n (2 ^ 128 - 1) ≡ min (0 + k) (2 ^ 128 - 1) → 2 ^ 64 ≤ k
too_many n k none e = Rattle.std.proofs.Common.⊎_elim (λ (h : n < 2 ^ 64). absurd (none h)) (λ (h : 2 ^ 64 ≤ n). omega arith) (cases_lt n (2 ^ 64))

pub no_length : (own : Bool) (encoding : Option (List ℕ)) (bytes : List ℕ) (n : ℕ) (o : Option ℕ) (e : Error) (r : Result ℕ Error) → r ≡ ok_or o e → SomeIff o (n < 2 ^ 64) n → error_kind e ≡ OutOfMemory → encoding ≡ Some bytes
    → min n (2 ^ 128 - 1) ≡ min (0 + length bytes) (2 ^ 128 - 1) → IfErr r (λ f. WhyNoLength own encoding (error_kind f))
no_length own encoding bytes n None e r is fits kind there same = subst (λ s. IfErr s (λ f. WhyNoLength own encoding (error_kind f))) (sym is) (too_long kind bytes there (too_many n (length bytes) fits same))
no_length own encoding bytes n (Some k) e r is fits kind there same = subst (λ s. IfErr s (λ f. WhyNoLength own encoding (error_kind f))) (sym is) tt
