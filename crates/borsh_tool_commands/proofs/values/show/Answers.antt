use Rattle.std.proofs.Common.{rules, ◌≡◌, Err}
use Rattle.std.specs.Prelude.{IfErr, OnOk}
use Rattle.borsh_walks.specs.Container.{Member}
use Rattle.borsh_walks.specs.Definitions.{definitions_in}
use Rattle.borsh_tool_commands.specs.Colored.{IsShowFailure}
use Rattle.borsh_tool_commands.specs.declared.failure.Failure.TheVariants.{OutOfMemory}
use Rattle.borsh_tool_commands.proofs.Failing.{by_plan}
use Rattle.borsh_tool_commands.proofs.Painting.{painted_start, painted_stop}
use Rattle.borsh_tool_commands.proofs.values.show.Goals as goal

pub returns-in_err-plan-clause-painted : goal.returns-in_err-plan-clause-painted
returns-in_err-plan-clause-painted g c =
    let e : c.from_residual.result ≡ Err OutOfMemory = search rules in
    painted_stop c.from_residual.result OutOfMemory e (painted_start g.met.W.Write.lawful c.args.out.now)

pub returns-clause-member : goal.returns-clause-member
returns-clause-member g c =
    by_plan (λ root map. OnOk c.write_rows.result (Member (definitions_in map) root c.args.bytes.now)) c.in_ok-plan.plan c.in_ok-plan.ensures c.as_str.ensures.value c.write_rows.ensures.member

pub returns-clause-err : goal.returns-clause-err
returns-clause-err g c =
    by_plan (λ root map. IfErr c.write_rows.result (IsShowFailure (definitions_in map) root c.args.path.now c.args.bytes.now)) c.in_ok-plan.plan c.in_ok-plan.ensures c.as_str.ensures.value c.write_rows.ensures.err
