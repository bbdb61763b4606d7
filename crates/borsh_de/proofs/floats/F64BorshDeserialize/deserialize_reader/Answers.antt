use Rattle.std.proofs.Common.{false, refl, inl, sym, subst}
use lib.Ieee.{binary64, to_bits}
use lib.Ieee.Bits.{is_true}
use Rattle.borsh_codec.specs.Reading.{Decoded}
use Rattle.borsh_codec.specs.Types.Floats.{is_number, float_bits}
use Rattle.borsh_codec.proofs.DecodeOutcomes.{decodes_err, decodes_ok}
use Rattle.borsh_codec.proofs.FloatBits.{above_fails, below_passes, bits_back}
use Rattle.borsh_codec.proofs.Laws.Numbers.{unsigned-lawful, number_some}
use Rattle.borsh_codec.proofs.Laws.Types.{number_respects}
use Rattle.borsh_codec.proofs.ReadParts.{reads_contramap, denied_contramap, reads_passed, denied_failed}
use Rattle.borsh_de.proofs.floats.F64BorshDeserialize.deserialize_reader.Goals as goal

pub returns-then-bits-gt9218868437227405312 : goal.returns-then-bits-gt9218868437227405312
returns-then-bits-gt9218868437227405312 g c =
    decodes_err refl (denied_contramap (to_bits binary64) {c = float_bits binary64 8}
    (denied_failed false (is_number binary64) (number_respects binary64 8) (unsigned-lawful 8) c.in_ok-bits.ensures.ok (inl c.refused.ensures) (above_fails binary64 _ c.if-bits-gt9218868437227405312.true)))

pub float_from_bits-result : goal.float_from_bits-result
float_from_bits-result g c = below_passes binary64 _ c.if-bits-gt9218868437227405312.false

pub returns : goal.returns
returns g c =
    let p = c.in_ok-bits.ensures.ok in
    let n = float_from_bits-result g c in
    let back = bits_back binary64 _ (number_some 8 _ _ p.took.holds).0 n in
    decodes_ok refl (reads_contramap (to_bits binary64) {c = float_bits binary64 8}
    (subst (Decoded _ (float_bits binary64 8) _ _) (sym back) (reads_passed false (is_number binary64) (is_true _ n) p)))
