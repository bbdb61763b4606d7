use Rattle.std.proofs.Common.{rules}
use Rattle.borsh_de.proofs.GetsWhole.{gets_none}
use Rattle.borsh_de.proofs.deserialize.BorshDeserialize.get.Goals as goal

pub returns-in_default : goal.returns-in_default
returns-in_default g c = gets_none c.args.bytes.now _ (search rules) c.in_default.ensures.err
