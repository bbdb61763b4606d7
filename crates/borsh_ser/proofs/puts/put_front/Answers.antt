use Rattle.std.proofs.Common.{arith}
use Rattle.borsh_codec.proofs.PutSteps.{puts_is, puts_then, puts_kept, all_joined-more}
use Rattle.borsh_ser.proofs.puts.put_front.Goals as goal

pub loop-count-preserved : goal.loop-count-preserved
loop-count-preserved g c =
    let at = c.loop-count in
    record {
      within = omega arith;
      puts = puts_is
          (all_joined-more g.T.BorshType.codec.encoding c.args.items.now at.count c.index-items-count.result (omega arith) c.index-items-count.is)
          (puts_then at.filled c.in-Some.n _ c.args.room.now at.room c.put.new._room at.invariant.puts c.in-Some.ensures);
    }

pub returns-in-None-clause-put : goal.returns-in-None-clause-put
returns-in-None-clause-put g c =
    let at = c.loop-count in
    puts_kept at.filled _ c.args.room.now at.room c.put.new._room at.invariant.puts c.put.ensures.same
