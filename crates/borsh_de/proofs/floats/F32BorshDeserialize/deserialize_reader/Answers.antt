use Rattle.std.proofs.Common.{false, refl, inl, sym, subst}
use lib.Ieee.{binary32, to_bits}
use lib.Ieee.Bits.{is_true}
use Rattle.borsh_codec.specs.Reading.{Decoded}
use Rattle.borsh_codec.specs.Types.Floats.{is_number, float_bits}
use Rattle.borsh_codec.proofs.DecodeOutcomes.{decodes_err, decodes_ok}
use Rattle.borsh_codec.proofs.FloatBits.{above_fails, below_passes, bits_back}
use Rattle.borsh_codec.proofs.Laws.Numbers.{unsigned-lawful, number_some}
use Rattle.borsh_codec.proofs.Laws.Types.{number_respects}
use Rattle.borsh_codec.proofs.ReadParts.{reads_contramap, denied_contramap, reads_passed, denied_failed}
use Rattle.borsh_de.proofs.floats.F32BorshDeserialize.deserialize_reader.Goals as goal

pub returns-then-bits-gt2139095040 : goal.returns-then-bits-gt2139095040
returns-then-bits-gt2139095040 g c =
    decodes_err refl (denied_contramap (to_bits binary32) {c = float_bits binary32 4}
    (denied_failed false (is_number binary32) (number_respects binary32 4) (unsigned-lawful 4) c.in_ok-bits.ensures.ok (inl c.refused.ensures) (above_fails binary32 _ c.if-bits-gt2139095040.true)))

pub float_from_bits-result : goal.float_from_bits-result
float_from_bits-result g c = below_passes binary32 _ c.if-bits-gt2139095040.false

pub returns : goal.returns
returns g c =
    let p = c.in_ok-bits.ensures.ok in
    let n = float_from_bits-result g c in
    let back = bits_back binary32 _ (number_some 4 _ _ p.took.holds).0 n in
    decodes_ok refl (reads_contramap (to_bits binary32) {c = float_bits binary32 4}
    (subst (Decoded _ (float_bits binary32 4) _ _) (sym back) (reads_passed false (is_number binary32) (is_true _ n) p)))
