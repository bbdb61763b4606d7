-- Bytes that decode to no value are not those of a type of their width.
use Rattle.std.proofs.Common.{ℕ, true, List, length, None, refl, sym, ◌∙◌, true≢false}
use Rattle.borsh_io.specs.declared.error.ErrorKind.{ErrorKind}
use Rattle.borsh_io.specs.Stream.{slice_state}
use Rattle.borsh_codec.specs.Codec.{Codec}
use Rattle.borsh_codec.specs.Reading.{WhyNotDecoded, NotDecoded}
use Rattle.borsh_codec.specs.Reading.WhyNotDecoded.{malformed, no_memory}
use Rattle.borsh_codec.proofs.ReadWhole.{whole_denied}
use Rattle.borsh_de.specs.FixedWidth.{AreBytes, IsFixedWidth, GetsValue}

module _ {A : Type 0} {c : Codec A} where
  why : (xs : List ℕ) {k : ErrorKind} → AreBytes xs → IsFixedWidth c (length xs) → WhyNotDecoded c true xs k → ⊥
  why xs b f (malformed r n) = n (f.all xs b refl)
  why xs b f (no_memory r m) = true≢false (sym m ∙ f.without_memory)

  pub gets_none : (xs ys : List ℕ) {k : ErrorKind} → AreBytes xs → NotDecoded A c (slice_state xs) (slice_state ys) k → GetsValue c xs None
  gets_none xs ys b p = record { value = λ f. why xs b f (whole_denied xs ys p); made = tt }
