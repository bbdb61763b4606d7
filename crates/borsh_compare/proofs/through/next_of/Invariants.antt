use Rattle.borsh_plan.specs.Plan.{definitions_of}
use Rattle.borsh_compare.specs.Together.{PassesTo}
use Rattle.borsh_compare.specs.Walks.{names_from}
use Rattle.borsh_compare.proofs.through.next_of.Given as goal

abbrev pub invariant-loop : goal.invariant-loop
invariant-loop l = PassesTo (definitions_of l.plan) (names_from l.plan l.fn.names.items) l.bytes (names_from l.plan l.names.items)
