use Rattle.std.proofs.Common.{[], map}
use Rattle.borsh_source.specs.Container.{AreThese, Brings}
use Rattle.borsh_source.specs.Forms.{entry}
use Rattle.borsh_source.proofs.adding.add_all.Given as goal

abbrev pub invariant-loop-entry : goal.invariant-loop-entry
invariant-loop-entry l = Brings (AreThese (map entry l.yielded) []) l.fn.output l.output
