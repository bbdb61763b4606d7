use Rattle.std.proofs.Common.{ap, sym, ◌∙◌, cond, None, false}
use lib.Ieee.{binary64, to_bits}
use Rattle.borsh_codec.specs.Shapes.{unsigned_encoding}
use Rattle.borsh_codec.proofs.FloatBits.{fails}
use Rattle.borsh_codec.proofs.WriteOutcomes.{writes_refused}
use Rattle.borsh_ser.proofs.floats.F64BorshSerialize.serialize.Goals as goal

pub returns-then-is_nan : goal.returns-then-is_nan
returns-then-is_nan g c =
    let v = c.args.self.now in
    writes_refused g.met.W.Write.lawful false false c.args.writer.now
    (ap (λ b. cond b (unsigned_encoding 8 (to_bits binary64 v)) None) (fails binary64 v (sym c.is_nan.ensures.value ∙ c.if-is_nan.true))) c.new.ensures.kind
