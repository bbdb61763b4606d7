use Rattle.std.proofs.Common.{◌≡◌, [], length, ap, sym, ◌∙◌}
use Rattle.json.specs.Json.{array}
use Rattle.borsh_json.specs.Table.{list_parts}
use Rattle.borsh_json.proofs.opening.array_of.Goals as goal

pub returns-in-Some : goal.returns-in-Some
returns-in-Some c j b =
    let a = c.in-Some-Some.ensures j b in
    let d = c.in-Some-Some.ensures' j b in
    let g : array d.0 ≡ array a.0 = sym d.1 ∙ a.1 in
    let s : d.0 ≡ a.0 = cc in
    (a.0, a.1, a.2, c.in-Some.ensures d.0 d.2 ∙ ap (λ js. length (list_parts [] js)) s)
