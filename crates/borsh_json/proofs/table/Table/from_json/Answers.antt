use Rattle.std.proofs.{Common.{◌≡◌, ◌∙◌, [], ◌∷◌, Some, refl, sym, subst}, lemmas.Result.{err_from_is_err_and}}
use Rattle.json.specs.Json.{Json}
use Rattle.borsh_walks.specs.Container.{Member}
use Rattle.borsh_plan.specs.Plan.{definitions_of, map_of, root_of}
use Rattle.borsh_values.specs.Membership.{IsAnswer}
use Rattle.borsh_json.specs.{Forms.{forms_in, shapes}, InOrder.{InOrder}, Represents.{HaveBytes}}
use Rattle.borsh_walks.proofs.Forms.{shapes_are}
use Rattle.borsh_json.proofs.{InOrderLaws.{given_up}, PlanLaws.{said_by}, RepresentsLaws.{bytes_one, text_one}, TextLaws.{fall_denies, fall_reason}}
use Rattle.borsh_json.proofs.table.Table.from_json.Goals as goal

pub check_order-requires : goal.check_order-requires
check_order-requires c =
    let y = c.args.self.now.plan.now in
    let m = subst (IsAnswer (definitions_of y) (root_of y) c.as_slice.result.now) c.in-Member.is c.in_ok-membership.ensures in
    subst (λ b. Member (shapes (forms_in (map_of y))) (root_of y) b) (c.as_slice.ensures.value ∙ sym c.as_slice-in-Member.ensures.value) (subst (λ C. Member C (root_of y) c.as_slice.result.now) (sym (shapes_are (map_of y))) m)

pub returns-in-Ok-clause-says : goal.returns-in-Ok-clause-says
returns-in-Ok-clause-says c =
    let y = c.args.self.now.plan.now in
    let read = c.in_ok-bytes.bytes.items in
    let m = subst (IsAnswer (definitions_of y) (root_of y) c.as_slice.result.now) c.in-Member.is c.in_ok-membership.ensures in
    said_by c.args.self.now c.args.text.now read read c.in_ok-bytes.ensures.says refl (subst (λ b. Member (definitions_of y) (root_of y) b) c.as_slice.ensures.value m)

pub returns-in-Ok-clause-determined : goal.returns-in-Ok-clause-determined
returns-in-Ok-clause-determined c bytes s =
    let y = c.args.self.now.plan.now in
    text_one (forms_in (map_of y)) (root_of y) c.args.text.now (returns-in-Ok-clause-says c) s

pub returns-in-Ok-clause-in_order : goal.returns-in-Ok-clause-in_order
returns-in-Ok-clause-in_order c j e =
    let y = c.args.self.now.plan.now in
    let F = forms_in (map_of y) in
    let r = c.in_ok-bytes.ensures.says in
    let f : Some r.0 ≡ Some j = sym r.1 ∙ e in
    let q : r.0 ≡ j = cc in
    c.in-Ok.ensures.in_order j (subst (λ b. HaveBytes F ((root_of y, j) ∷ []) b) (sym c.as_slice-in-Member.ensures.value) (subst (λ (j : Json). HaveBytes F ((root_of y, j) ∷ []) c.in_ok-bytes.bytes.items) q r.2))

pub returns-in-Ok-clause-answers : goal.returns-in-Ok-clause-answers
returns-in-Ok-clause-answers c bytes t = returns-in-Ok-clause-determined c bytes (t.0, t.1, t.2, t.3)

pub returns-in-Member-clause-reason : goal.returns-in-Member-clause-reason
returns-in-Member-clause-reason c =
    let y = c.args.self.now.plan.now in
    let r = c.in_ok-bytes.ensures.says in
    fall_reason (map_of y) (root_of y) c.args.text.now r.0 r.1 c.in-Err.error (c.in-Err.ensures.falls r.0 (subst (λ b. HaveBytes (forms_in (map_of y)) ((root_of y, r.0) ∷ []) b) (sym c.as_slice-in-Member.ensures.value) r.2))

pub returns-in-Member-clause-answers : goal.returns-in-Member-clause-answers
returns-in-Member-clause-answers c bytes t =
    let y = c.args.self.now.plan.now in
    let F = forms_in (map_of y) in
    let root = root_of y in
    let r = c.in_ok-bytes.ensures.says in
    given_up F root c.args.text.now bytes c.in-Err.error t (fall_denies F root c.args.text.now r.0 r.1 c.in-Err.error (c.in-Err.ensures.falls r.0 (subst (λ b. HaveBytes F ((root, r.0) ∷ []) b) (sym c.as_slice-in-Member.ensures.value) r.2)))

pub returns-in-NoMember-clause-denies : goal.returns-in-NoMember-clause-denies
returns-in-NoMember-clause-denies c j e =
    let y = c.args.self.now.plan.now in
    let F = forms_in (map_of y) in
    let root = root_of y in
    let read = c.in_ok-bytes.bytes.items in
    let m = subst (IsAnswer (definitions_of y) root c.as_slice.result.now) c.in-NoMember.is c.in_ok-membership.ensures in
    let r = c.in_ok-bytes.ensures.says in
    let f : Some r.0 ≡ Some j = sym r.1 ∙ e in
    let q : r.0 ≡ j = cc in
    (read, subst (λ (j : Json). HaveBytes F ((root, j) ∷ []) read) q r.2, λ s. m.0 (subst (λ b. Member (definitions_of y) root b) (sym c.as_slice.ensures.value) (subst (λ C. Member C root read) (shapes_are (map_of y)) s)))

pub returns-in_err-bytes-clause-answers : goal.returns-in_err-bytes-clause-answers
returns-in_err-bytes-clause-answers c bytes t =
    let y = c.args.self.now.plan.now in
    let e = c.in_err-bytes in
    let p = err_from_is_err_and c.from_residual.result c.from_residual.ensures.1 in
    rw (p.1, p.2) (given_up (forms_in (map_of y)) (root_of y) c.args.text.now bytes e.field-0.0 t e.ensures.denies)

pub returns-in-NoMember-clause-answers : goal.returns-in-NoMember-clause-answers
returns-in-NoMember-clause-answers c bytes t =
    let y = c.args.self.now.plan.now in
    let F = forms_in (map_of y) in
    let n = returns-in-NoMember-clause-denies c t.0 t.1 in
    n.2 (subst (λ b. Member (shapes F) (root_of y) b) (bytes_one F t.2 n.1) t.3)
