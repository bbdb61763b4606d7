use Rattle.std.proofs.Common.{◌+◌, ◌*◌, take, map}
use Rattle.borsh_source.specs.Container.{Brings}
use Rattle.borsh_source.specs.Meaning.{Gives, MeansAll}
use Rattle.borsh_source.specs.Views.{source_of, parameters_of, given_in, stands, texts_of}
use Rattle.borsh_source.proofs.types.+types.Given as goal

abbrev pub decreases-named : goal.decreases-named
decreases-named l = 3 * l.depth

abbrev pub decreases-all_named : goal.decreases-all_named
decreases-all_named l = 3 * l.depth + 1

abbrev pub decreases-item_named : goal.decreases-item_named
decreases-item_named l = 3 * l.depth + 1

abbrev pub decreases-one_given : goal.decreases-one_given
decreases-one_given l = 3 * l.depth + 1

abbrev pub decreases-all_given : goal.decreases-all_given
decreases-all_given l = 3 * l.depth + 2

abbrev pub decreases-array_named : goal.decreases-array_named
decreases-array_named l = 3 * l.depth + 2

abbrev pub invariant-all_named-names : goal.invariant-all_named-names
invariant-all_named-names l = Brings (MeansAll (source_of l.context) (parameters_of l.scope) (given_in l.scope) (take l.at-index l.types) (texts_of l.names.items)) l.fn.output l.output

abbrev pub invariant-all_given-arguments : goal.invariant-all_given-arguments
invariant-all_given-arguments l = Brings (Gives (source_of l.context) (parameters_of l.scope) (given_in l.scope) l.item.kind (take l.at l.item.parameters.items) (take l.at l.arguments) (map stands l.given.items)) l.fn.output l.output
