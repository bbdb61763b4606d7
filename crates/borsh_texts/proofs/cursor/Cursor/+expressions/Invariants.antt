use Rattle.std.proofs.Common.{◌+◌, ◌*◌}
use Rattle.borsh_texts.proofs.cursor.Cursor.+expressions.Given as goal

abbrev pub decreases-binary : goal.decreases-binary
decreases-binary l = 4 * l.depth

abbrev pub decreases-bracketed_expression : goal.decreases-bracketed_expression
decreases-bracketed_expression l = 4 * l.depth + 1

abbrev pub decreases-negated : goal.decreases-negated
decreases-negated l = 4 * l.depth + 1

abbrev pub decreases-operand : goal.decreases-operand
decreases-operand l = 4 * l.depth + 2
