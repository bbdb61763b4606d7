use Rattle.std.proofs.Common.{[], ◌∷◌, Some}
use Rattle.borsh_ser.proofs.lengths.tagged_length.Goals as goal

pub returns : goal.returns
returns g c = c.joined_length.ensures (Some (c.args.tag ∷ [])) (g.T.BorshType.codec.encoding c.args.part.now) c.bytes_length.ensures c.encoded_length.ensures
