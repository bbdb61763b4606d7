use Rattle.std.proofs.Common.{◌≡◌, ◌+◌, ◌<◌, ◌∷◌, List, [], sym, ap, subst, ◌∙◌, get_or, length, MatchOption}
use Rattle.borsh_plan.specs.Plan.{map_of, names_of as plan_names}
use Rattle.borsh_json.specs.{declared.position.Key.TheVariants.{Name}, declared.position.Parts.{Parts}, Forms.{forms_in}, Frames.{IsKey, IsWanted, Wanted}, Places.{IsAt}}
use Rattle.borsh_json.proofs.FrameLaws.{row_next, object_next, get_from}
use Rattle.borsh_json.proofs.position.Place.part_at.Goals as goal

pub returns-in-Row-clause-part : goal.returns-in-Row-clause-part
returns-in-Row-clause-part c =
    let F = forms_in (map_of c.args.json.now.plan.now) in
    let ns = plan_names c.args.json.now.plan.now in
    subst (λ (q : Parts). (ws : List Wanted) → IsWanted F ns q c.args.index ws → MatchOption c.copy_at-in-Row.result (ws ≡ []) (λ p. (w : Wanted) × (rest : List Wanted) × (ws ≡ w ∷ rest) × IsAt ns p.at w.1 × IsKey q p.key w.0 × IsWanted F ns q (c.args.index + 1) rest)) (sym c.in-Row.is)
    (row_next F ns c.in-Row.at c.in-Row.count c.args.index c.part.result c.copy_at-in-Row.result c.part.ensures c.copy_at-in-Row.ensures)

pub returns-in-Some-clause-part : goal.returns-in-Some-clause-part
returns-in-Some-clause-part c =
    let F = forms_in (map_of c.args.json.now.plan.now) in
    let ns = plan_names c.args.json.now.plan.now in
    let h = c.in-Some.ensures.lookup in
    let xs = c.in-Object.fields.now.items in
    let a = c.in-Some.field-0.now in
    let l : c.args.index < length xs = subst (λ ys. c.args.index < length ys) c.deref.ensures.value h.3.0 in
    let g : a ≡ get_or xs c.args.index a = h.1 ∙ ap (λ ys. get_or ys c.args.index a) c.deref.ensures.value in
    subst (λ (q : Parts). (ws : List Wanted) → IsWanted F ns q c.args.index ws → (w : Wanted) × (rest : List Wanted) × (ws ≡ w ∷ rest) × IsAt ns c.part-in-Some.result w.1 × IsKey q (Name c.as_str.result) w.0 × IsWanted F ns q (c.args.index + 1) rest) (sym c.in-Object.is)
    (object_next F ns c.in-Object.at c.args.index c.part-in-Some.result c.in-Object.fields a c.as_str.result (get_from xs c.args.index a l g) c.as_str.ensures.value c.part-in-Some.ensures)
