use Rattle.std.proofs.Common.{◌+◌, ◌*◌}
use Rattle.borsh_texts.proofs.cursor.Cursor.+values.Given as goal

abbrev pub decreases-value_of : goal.decreases-value_of
decreases-value_of l = 2 * l.depth

abbrev pub decreases-parts : goal.decreases-parts
decreases-parts l = 2 * l.depth + 1
