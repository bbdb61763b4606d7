use Rattle.borsh_values.proofs.Stepping.{next_fits}
use Rattle.borsh_values.proofs.cursor.Cursor.step.Goals as goal

pub next_part-requires : goal.next_part-requires
next_part-requires c = record { fits = next_fits c.args.self.now c.requires }
