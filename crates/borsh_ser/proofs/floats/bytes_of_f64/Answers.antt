use lib.Ieee.{binary64, to_bits}
use lib.Ieee.Bits.{to_bits-lt}
use Rattle.std.proofs.lemmas.Float.{T_from_true}
use Rattle.borsh_codec.proofs.FloatBits.{passes}
use Rattle.borsh_codec.proofs.Laws.Exact.{passed_is}
use Rattle.borsh_codec.proofs.NumberBytes.{bytes_of}
use Rattle.borsh_ser.proofs.floats.bytes_of_f64.Goals as goal

pub returns : goal.returns
returns c =
    let v = c.args.value in
    let f = T_from_true _ c.well_formed.0.1 in
    passed_is _ (passes binary64 v f c.requires) (bytes_of 8 (to_bits binary64 v) (to_bits-lt binary64 v f) c.to_le_bytes.ensures)
