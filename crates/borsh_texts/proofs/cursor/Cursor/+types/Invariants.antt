use Rattle.std.proofs.Common.{◌+◌, ◌*◌}
use Rattle.borsh_texts.proofs.cursor.Cursor.+types.Given as goal

abbrev pub decreases-type_index : goal.decreases-type_index
decreases-type_index l = 8 * l.depth

abbrev pub decreases-argument : goal.decreases-argument
decreases-argument l = 8 * l.depth + 2

abbrev pub decreases-arguments : goal.decreases-arguments
decreases-arguments l = 8 * l.depth + 3

abbrev pub decreases-path : goal.decreases-path
decreases-path l = 8 * l.depth + 4

abbrev pub decreases-list : goal.decreases-list
decreases-list l = 8 * l.depth + 1

abbrev pub decreases-reference : goal.decreases-reference
decreases-reference l = 8 * l.depth + 1

abbrev pub decreases-tuple : goal.decreases-tuple
decreases-tuple l = 8 * l.depth + 1

abbrev pub decreases-type_or_binding : goal.decreases-type_or_binding
decreases-type_or_binding l = 8 * l.depth + 1
