use Rattle.std.proofs.Common.{inl, inr}
use Rattle.borsh_source.proofs.formats.non_zero_width_of.Goals as goal

pub returns-in-NonZeroU16 : goal.returns-in-NonZeroU16
returns-in-NonZeroU16 c = inr (inl (let e = c.in-NonZeroU16.is in cc))
