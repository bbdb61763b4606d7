use Rattle.std.proofs.{Common.{sym, subst, arith}, lemmas.Result.{IfErr-weaker, IfOk-weaker}}
use Rattle.borsh_walks.specs.Container.{Member}
use Rattle.borsh_plan.specs.Plan.{definitions_of, map_of, root_of}
use Rattle.borsh_values.specs.{Membership.{IsAnswer}, declared.members.Membership.{Membership}}
use Rattle.borsh_values.proofs.Bytes.{small_bytes}
use Rattle.borsh_json.specs.Forms.{forms_in}
use Rattle.borsh_walks.proofs.Forms.{shapes_are}
use Rattle.borsh_json.proofs.{CompleteLaws.{given_up}, StopLaws.{stop_reason}}
use Rattle.borsh_json.proofs.table.Table.write.Goals as goal

pub write_value-requires : goal.write_value-requires
write_value-requires c =
    let l = c.args.self.now.plan.now in
    let m = subst (λ (a : Membership). IsAnswer (definitions_of l) (root_of l) c.args.bytes.now a) c.in-Member.is c.in_ok-membership.ensures in
    record { member = subst (λ C. Member C (root_of l) c.args.bytes.now) (sym (shapes_are (map_of l))) m; empty = c.requires }

pub returns-in-Member-clause-member : goal.returns-in-Member-clause-member
returns-in-Member-clause-member c =
    let l = c.args.self.now.plan.now in
    let m = subst (λ (a : Membership). IsAnswer (definitions_of l) (root_of l) c.args.bytes.now a) c.in-Member.is c.in_ok-membership.ensures in
    IfOk-weaker c.write_value.result _ _ (λ out w. m) c.write_value.ensures.written

pub returns-in-Member-clause-reason : goal.returns-in-Member-clause-reason
returns-in-Member-clause-reason c =
    let l = c.args.self.now.plan.now in
    let m = subst (λ (a : Membership). IsAnswer (definitions_of l) (root_of l) c.args.bytes.now a) c.in-Member.is c.in_ok-membership.ensures in
    IfErr-weaker c.write_value.result _ _ (λ e s. stop_reason (map_of l) (root_of l) c.args.bytes.now e m s) c.write_value.ensures.stops

pub returns-in-Member-clause-complete : goal.returns-in-Member-clause-complete
returns-in-Member-clause-complete c t =
    let l = c.args.self.now.plan.now in
    let bytes = c.args.bytes.now in
    let small = small_bytes bytes (λ k. let b = c.type_inv.bytes k in omega (arith, b)) in
    IfErr-weaker c.write_value.result _ _ (λ e s. given_up (forms_in (map_of l)) (root_of l) bytes e small s t) c.write_value.ensures.stops

pub returns-in-NoMember-clause-complete : goal.returns-in-NoMember-clause-complete
returns-in-NoMember-clause-complete c t =
    let l = c.args.self.now.plan.now in
    let m = subst (λ (a : Membership). IsAnswer (definitions_of l) (root_of l) c.args.bytes.now a) c.in-NoMember.is c.in_ok-membership.ensures in
    m.0 (subst (λ C. Member C (root_of l) c.args.bytes.now) (shapes_are (map_of l)) t.1.3)
