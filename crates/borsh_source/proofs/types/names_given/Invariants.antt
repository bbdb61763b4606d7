use Rattle.std.proofs.Common.{◌≡◌, take, map}
use Rattle.borsh_source.specs.Meaning.{parameter_names}
use Rattle.borsh_source.specs.Views.{stands, texts_of}
use Rattle.borsh_source.proofs.types.names_given.Given as goal

abbrev pub invariant-loop-given : goal.invariant-loop-given
invariant-loop-given l = texts_of l.names.items ≡ parameter_names (map stands (take l.given-index l.given))
