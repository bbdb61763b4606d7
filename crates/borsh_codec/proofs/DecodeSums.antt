-- Outcomes of reads of a value of two variants: a tag, and then the value of its variant.
use Rattle.std.proofs.Common.{◌≡◌, ℕ, ◌⊎◌, Result, Ok, Err, refl, inl, inr}
use Rattle.std.specs.Result.{IsErrAnd}
use Rattle.borsh_io.specs.declared.error.Error.{Error}
use Rattle.borsh_io.specs.Stream.{ReaderState}
use Rattle.borsh_codec.specs.Codec.{Codec, Lawful}
use Rattle.borsh_codec.specs.Shapes.{contramap}
use Rattle.borsh_codec.specs.Types.Sums.{two_variants}
use Rattle.borsh_codec.specs.Reading.{Decodes, any_byte}
use Rattle.borsh_codec.proofs.ReadParts.{denied_contramap}
use Rattle.borsh_codec.proofs.ReadSums.{reads_first, reads_second, denied_first, denied_second}
use Rattle.borsh_codec.proofs.DecodeOutcomes.{decodes_exit, decodes_err, decodes_ok, reads_made, byte_took}

module _ {A B C : Type 0} {a : Codec A} {b : Codec B} (view : C → A ⊎ (B ⊎ ⊥)) (la : Lawful A a) (lb : Lawful B b) where
  -- the tag is that of the first variant, and its value was not read
  pub decodes_exit_first : {R : Type 0} {state : R → ReaderState} {s t u : R} {j : ℕ} (e : Error) {r : Result C Error} → j ≡ 0 → Decodes any_byte state s t (Ok j) → IsErrAnd r (λ y. y ≡ e) → Decodes a state t u (Err e) → Decodes (contramap view (two_variants a b)) state s u r
  decodes_exit_first e zero tag is f = decodes_exit e is (decodes_err refl (denied_contramap view (denied_first la lb zero (byte_took tag.ok) f.err)))

  -- the same for the second variant
  pub decodes_exit_second : {R : Type 0} {state : R → ReaderState} {s t u : R} {j : ℕ} (e : Error) {r : Result C Error} → j ≡ 1 → Decodes any_byte state s t (Ok j) → IsErrAnd r (λ y. y ≡ e) → Decodes b state t u (Err e) → Decodes (contramap view (two_variants a b)) state s u r
  decodes_exit_second e one tag is f = decodes_exit e is (decodes_err refl (denied_contramap view (denied_second la lb one (byte_took tag.ok) f.err)))

module _ {A B C : Type 0} (view : C → A ⊎ (B ⊎ ⊥)) {R : Type 0} {state : R → ReaderState} {s t u : R} {j : ℕ} {w : C} where
  -- the tag is that of the first variant, and its value was read
  pub decodes_first : {a : Codec A} (b : Codec B) {v : A} → view w ≡ inl v → j ≡ 0 → Decodes any_byte state s t (Ok j) → Decodes a state t u (Ok v) → Decodes (contramap view (two_variants a b)) state s u (Ok w)
  decodes_first b is zero tag d = decodes_ok refl (reads_made view is (reads_first b zero (byte_took tag.ok) d.ok))

  -- the same for the second variant
  pub decodes_second : (a : Codec A) {b : Codec B} {v : B} → view w ≡ inr (inl v) → j ≡ 1 → Decodes any_byte state s t (Ok j) → Decodes b state t u (Ok v) → Decodes (contramap view (two_variants a b)) state s u (Ok w)
  decodes_second a is one tag d = decodes_ok refl (reads_made view is (reads_second a one (byte_took tag.ok) d.ok))
