use Rattle.std.proofs.Common.{ap, Some}
use Rattle.borsh_codec.proofs.ReadWhole.{no_fault}
use Rattle.borsh.proofs.de.from_slice_unordered.Goals as goal

pub returns : goal.returns
returns g c = c.try_from_reader.ensures.whole c.args.v.now (ap (λ x. Some x.now) c.new.ensures) no_fault
