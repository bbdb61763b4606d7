use Rattle.std.proofs.Common.{◌≡◌, ◌∙◌, inl, inr, ℕ, List, Option, None, refl}
use Rattle.json.specs.Json.{Json}
use Rattle.borsh_plan.specs.Plan.{map_of, names_of as plan_names}
use Rattle.borsh_json.specs.{Forms.{Form, HasNoBytes, forms_in}, NoValue.{SaysOwn}}
use Rattle.borsh_json.proofs.OpeningLaws.{unmoved}
use Rattle.borsh_json.proofs.opening.open_part.Goals as goal

undefined_says : (F : List ℕ → Option Form) (x : List ℕ) (j : Json) → F x ≡ None → (HasNoBytes F x → ⊥) → SaysOwn F x j → ⊥
undefined_says F x j e full s =
    elim s.2.1 [
      | inl z ↦ full z.0
      | inr d ↦ (let g = d.2 in cc)
    ]

pub returns-then-is_zero_size : goal.returns-then-is_zero_size
returns-then-is_zero_size c x j at b =
    let F = forms_in (map_of c.args.json.now.plan.now) in
    let ns = plan_names c.args.json.now.plan.now in
    unmoved F ns x j c.args.out.now.items c.open_null.result (c.open_null.ensures F ns x j (inl ((c.is_zero_size.ensures x at).0 c.if-is_zero_size.true, refl)) b)

pub returns-in_default : goal.returns-in_default
returns-in_default c x j at b =
    let F = forms_in (map_of c.args.json.now.plan.now) in
    let full : HasNoBytes F x → ⊥ = λ z. (let q = (c.is_zero_size.ensures x at).1 z in let s = c.if-is_zero_size.false in cc) in
    let none = c.in_default.ensures.kind x at full in
    ((c.in_ok-name.ensures.ok ∙ c.name.ensures x at, none), inl (undefined_says F x j none full))

pub returns : goal.returns
returns c x j at b =
    let F = forms_in (map_of c.args.json.now.plan.now) in
    let full : HasNoBytes F x → ⊥ = λ z. (let q = (c.is_zero_size.ensures x at).1 z in let s = c.if-is_zero_size.false in cc) in
    let r = c.in-Some.ensures.kind x at full in
    c.open_kind.ensures x j at r.0 r.1 b
