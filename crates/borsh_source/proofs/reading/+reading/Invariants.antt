use Rattle.std.proofs.Common.{◌≡◌, ◌+◌, ◌*◌, take, false}
use Rattle.std.specs.List.{list_any}
use Rattle.borsh_source.specs.Reading.{names}
use Rattle.borsh_source.specs.Views.{source_of}
use Rattle.borsh_source.proofs.reading.+reading.Given as goal

abbrev pub decreases-names : goal.decreases-names
decreases-names l = 3 * l.depth

abbrev pub decreases-any_names : goal.decreases-any_names
decreases-any_names l = 3 * l.depth + 1

abbrev pub invariant-any_names-loop-at : goal.invariant-any_names-loop-at
invariant-any_names-loop-at l = list_any (names (source_of l.context) l.depth l.parameter) (take l.at-index l.types) ≡ false

abbrev pub decreases-path_names : goal.decreases-path_names
decreases-path_names l = 3 * l.depth + 2
