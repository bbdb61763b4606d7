use Rattle.std.proofs.Common.{rules}
use Rattle.borsh_check_lines.proofs.Turns.{flushed}
use Rattle.borsh_check_lines.proofs.runner.run_counted.Goals as goal

pub returns : goal.returns
returns g c = flushed g.met.W.Write.lawful c.run_lines.result c.flush_all.result (search rules) c.run_lines.ensures (search rules) (search rules)
