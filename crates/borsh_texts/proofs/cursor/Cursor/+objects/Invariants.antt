use Rattle.std.proofs.Common.{◌+◌, ◌*◌}
use Rattle.borsh_texts.proofs.cursor.Cursor.+objects.Given as goal

abbrev pub decreases-type_of : goal.decreases-type_of
decreases-type_of l = 8 * l.depth

abbrev pub decreases-made : goal.decreases-made
decreases-made l = 8 * l.depth + 7

abbrev pub decreases-made_of_two : goal.decreases-made_of_two
decreases-made_of_two l = 8 * l.depth + 1

abbrev pub decreases-array_of : goal.decreases-array_of
decreases-array_of l = 8 * l.depth + 1

abbrev pub decreases-defined : goal.decreases-defined
decreases-defined l = 8 * l.depth + 2

abbrev pub decreases-tuple_of : goal.decreases-tuple_of
decreases-tuple_of l = 8 * l.depth + 1

abbrev pub decreases-fields_in : goal.decreases-fields_in
decreases-fields_in l = 8 * l.depth + 1

abbrev pub decreases-made_struct : goal.decreases-made_struct
decreases-made_struct l = 8 * l.depth + 2

abbrev pub decreases-variant_of : goal.decreases-variant_of
decreases-variant_of l = 8 * l.depth + 2

abbrev pub decreases-made_enum : goal.decreases-made_enum
decreases-made_enum l = 8 * l.depth + 3

abbrev pub decreases-generic : goal.decreases-generic
decreases-generic l = 8 * l.depth + 1
