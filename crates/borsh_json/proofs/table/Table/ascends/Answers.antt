use Rattle.std.proofs.Common.{subst}
use Rattle.borsh_plan.specs.Plan.{root_of}
use Rattle.borsh_json.specs.{declared.definitions.Definitions.{Definitions}, Found.{forms_of}, InOrder.{NeedsNoCheck}}
use Rattle.borsh_json.proofs.FreeLaws.{no_check}
use Rattle.borsh_json.proofs.table.Table.ascends.Goals as goal

pub returns : goal.returns
returns c e =
    let v = c.self.invariant in
    subst (λ (d : Definitions). NeedsNoCheck (forms_of d) (root_of d.plan.now)) c.self.view_is (no_check c.self.inside.definitions c.self.inside.kinds.items v.whole v.right (v.free e))
