use Rattle.std.proofs.Common.{◌≡◌, take}
use Rattle.borsh_source.specs.Views.{texts_of}
use Rattle.borsh_source.proofs.forms.copied.Given as goal

abbrev pub invariant-loop-name : goal.invariant-loop-name
invariant-loop-name l = texts_of l.copies.items ≡ texts_of (take l.name-index l.names)
