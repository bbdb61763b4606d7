use Rattle.std.proofs.Common.{ℕ, List, ◌++◌, subst}
use Rattle.borsh_walks.specs.Container.{Member}
use Rattle.borsh_plan.specs.Plan.{definitions_of, root_of}
use Rattle.borsh_io.specs.Buffered.{held, reader_of}
use Rattle.borsh_tool_commands.proofs.FrontLaws.{read-front}
use Rattle.borsh_tool_commands.proofs.fronts.read_value.Goals as goal

pub returns-then-is_no_value : goal.returns-then-is_no_value
returns-then-is_no_value g c =
    let l = c.args.plan.now in
    let none = subst (λ (bytes : List ℕ). (more : List ℕ) → Member (definitions_of l) (root_of l) (bytes ++ more) → ⊥) c.held.ensures (c.is_no_value.ensures c.if-is_no_value.true) in
    read-front (definitions_of l) (root_of l) (held c.loop.input) (g.R.Read.stream (reader_of c.args.input.now)).bytes (g.R.Read.stream (reader_of c.loop.input)).bytes c.loop.invariant none
