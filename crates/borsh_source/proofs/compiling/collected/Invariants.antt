use Rattle.std.specs.Prelude.{string_bytes}
use Rattle.borsh_source.specs.Container.{definitions_so_far, uses_in}
use Rattle.borsh_source.specs.Views.{source_of}
use Rattle.borsh_source.proofs.Collected.{Collected}
use Rattle.borsh_source.proofs.compiling.collected.Given as goal

abbrev pub invariant-loop-next : goal.invariant-loop-next
invariant-loop-next l = Collected (source_of l.context) l.root (string_bytes l.declaration) (definitions_so_far l.output) (uses_in l.output) l.next
