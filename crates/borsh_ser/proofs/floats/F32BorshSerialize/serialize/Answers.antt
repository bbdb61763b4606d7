use Rattle.std.proofs.Common.{ap, sym, ◌∙◌, cond, None, false}
use lib.Ieee.{binary32, to_bits}
use Rattle.borsh_codec.specs.Shapes.{unsigned_encoding}
use Rattle.borsh_codec.proofs.FloatBits.{fails}
use Rattle.borsh_codec.proofs.WriteOutcomes.{writes_refused}
use Rattle.borsh_ser.proofs.floats.F32BorshSerialize.serialize.Goals as goal

pub returns-then-is_nan : goal.returns-then-is_nan
returns-then-is_nan g c =
    let v = c.args.self.now in
    writes_refused g.met.W.Write.lawful false false c.args.writer.now
    (ap (λ b. cond b (unsigned_encoding 4 (to_bits binary32 v)) None) (fails binary32 v (sym c.is_nan.ensures.value ∙ c.if-is_nan.true))) c.new.ensures.kind
