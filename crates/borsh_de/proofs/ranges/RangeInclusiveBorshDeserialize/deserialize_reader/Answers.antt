use Rattle.std.proofs.Common.{◌≡◌, false, refl, Err}
use Rattle.std.specs.Range.{range_inclusive_start, range_inclusive_end, range_inclusive_exhausted}
use Rattle.borsh_codec.proofs.DecodeOutcomes.{decodes_exit, decodes_exit_contramap, decodes_with}
use Rattle.borsh_de.proofs.ranges.RangeInclusiveBorshDeserialize.deserialize_reader.Goals as goal

pub returns-in_err-start : goal.returns-in_err-start
returns-in_err-start g c =
    decodes_exit _ c.from_residual.ensures.1 (decodes_with (λ r. range_inclusive_exhausted r ≡ false) (Err _) tt
    (decodes_exit_contramap (λ r. (range_inclusive_start r, range_inclusive_end r)) _ refl c.in_err-start.ensures))
