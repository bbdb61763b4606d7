-- The bits of a floating-point number, and which are a NaN's.
use Rattle.std.proofs.Common.{◌≡◌, ℕ, ◌<◌, ◌≤◌, ◌*◌, ◌%◌, true, false, sym, ◌∙◌, ap, true≢false, lt-ltb, le-ltb}
use Rattle.std.proofs.lemmas.Float.{T_from_false}
use Rattle.std.specs.Prelude.{not}
use lib.Dec.{T}
use lib.Ieee.{Float, nan, inf, fin, Format, ones, hid, top, is_nan, fits, of_bits, to_bits, nan_bits}
use lib.Ieee.Fits.{nan-fits}
use lib.Ieee.Bits.{is_false, of_bits-to_bits, to_bits-of_bits, nan_bits_is, nan_bits_above}
use Rattle.borsh_codec.specs.Types.Floats.{is_number}

-- the bits of a number are a NaN's where it is one
nan_of : (f : Format) (v : Float) → T (fits f v) → nan_bits f (to_bits f v) ≡ is_nan v
nan_of f v h = nan_bits_is f (to_bits f v) ∙ ap is_nan (of_bits-to_bits f v h)

pub passes : (f : Format) (v : Float) → T (fits f v) → T (not (is_nan v)) → is_number f (to_bits f v) ≡ true
passes f v h n = ap not (nan_of f v h ∙ is_false (is_nan v) n)

-- a NaN is one whether or not the format has it, so a value behind a reference needs no premise
pub fails : (f : Format) (v : Float) → is_nan v ≡ true → is_number f (to_bits f v) ≡ false
unfolding is_nan
fails f nan e = ap not (nan_of f nan (nan-fits f) ∙ e)
fails f (inf s) e = absurd (true≢false (sym e))
fails f (fin s m x) e = absurd (true≢false (sym e))

-- and of bits that were read: but for the sign's, a NaN's are above those of infinity
module _ (f : Format) (b : ℕ) where
  pub above_fails : ones f * hid f < b % top f → is_number f b ≡ true → ⊥
  above_fails h q = true≢false (sym q ∙ ap not (nan_bits_above f b ∙ lt-ltb _ _ h))

  pub below_passes : b % top f ≤ ones f * hid f → T (is_number f b)
  below_passes h = T_from_false _ (nan_bits_above f b ∙ le-ltb _ _ h)

  pub bits_back : b < 2 * top f → T (is_number f b) → to_bits f (of_bits f b) ≡ b
  bits_back l n = to_bits-of_bits f b l (T_from_false _ (sym (nan_bits_is f b) ∙ is_false _ n))
