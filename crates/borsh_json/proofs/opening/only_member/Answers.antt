use Rattle.std.proofs.Common.{◌≡◌, ap, ◌∙◌}
use Rattle.json.specs.Json.{Members, no_members, member, object}
use Rattle.borsh_json.proofs.opening.only_member.Goals as goal

pub returns-in_default : goal.returns-in_default
returns-in_default c ms h =
    let n : ms ≡ no_members = c.in_default.ensures.value ms h in
    ((λ v e. cc), (λ v jv e. cc))

pub returns-in-Some-next : goal.returns-in-Some-next
returns-in-Some-next c ms h =
    let a = c.in-Some.ensures.value ms h in
    let d = c.in-Some-next.ensures.value a.1 a.4 in
    let p = a.2 in
    let q = d.2 in
    ((λ v e. cc), (λ v jv e. cc))

pub returns-in-None : goal.returns-in-None
returns-in-None c ms h =
    let a = c.in-Some.ensures.value ms h in
    let d = c.in-None.ensures.value a.1 a.4 in
    (a.0, ap (λ (m : Members). object m) (a.2 ∙ ap (λ r. member c.in-Some.name.now a.0 r) d), a.3)
