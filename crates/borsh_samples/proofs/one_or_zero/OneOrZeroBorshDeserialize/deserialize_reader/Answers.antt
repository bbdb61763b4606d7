use Rattle.std.proofs.Common.{refl, inl}
use Rattle.borsh.proofs.DecodeOutcomes.{decodes_exit, decodes_err, decodes_ok, decodes_no_byte, byte_took}
use Rattle.borsh.proofs.ReadParts.{reads_tag, denied_tag}
use Rattle.borsh_samples.specs.OneOrZero.{one_or_zero-lawful}
use Rattle.borsh_samples.proofs.Narrow.{reads_narrow, denied_narrow, denied_many}
use Rattle.borsh_samples.proofs.one_or_zero.OneOrZeroBorshDeserialize.deserialize_reader.Goals as goal

pub returns-in_err-tag : goal.returns-in_err-tag
returns-in_err-tag g c = decodes_no_byte one_or_zero-lawful refl refl _ c.from_residual.ensures.1 c.in_err-tag.ensures

pub returns-then-tag-eq2 : goal.returns-then-tag-eq2
returns-then-tag-eq2 g c = decodes_err refl (denied_tag one_or_zero-lawful refl (byte_took c.in_ok-tag.ensures.ok) (denied_many _ c.if-tag-eq2.true (inl c.new.ensures.kind)))

pub returns-in_err-deserialize_variant : goal.returns-in_err-deserialize_variant
returns-in_err-deserialize_variant g c =
    decodes_exit _ c.from_residual-in_err-deserialize_variant.ensures.1 (decodes_err refl (denied_tag one_or_zero-lawful refl (byte_took c.in_ok-tag.ensures.ok) (denied_narrow c.in_err-deserialize_variant.ensures.err)))

pub returns : goal.returns
returns g c = decodes_ok refl (reads_tag (byte_took c.in_ok-tag.ensures.ok) (reads_narrow c.if-tag-eq2.false c.in_ok-deserialize_variant.ensures.ok))
