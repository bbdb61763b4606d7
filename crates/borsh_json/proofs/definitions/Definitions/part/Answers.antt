use Rattle.std.proofs.Common.{◌≡◌, ◌∙◌, Some, ap, sym, subst, unwrap_or}
use Rattle.borsh_plan.specs.Names.{name_of}
use Rattle.borsh_json.specs.Found.{names_of}
use Rattle.borsh_json.proofs.PlaceLaws.{part_there}
use Rattle.borsh_json.proofs.definitions.Definitions.part.Goals as goal

pub returns : goal.returns
returns c = λ x y f e d s.
    let r = part_there c.args.self.now.plan.now c.args.at c.args.index x y f c.part.result c.part.ensures.place e d s in
    let u : c.unwrap_or.result ≡ r.0 = c.unwrap_or.ensures ∙ ap (λ o. unwrap_or o 18446744073709551615) r.1 in
    subst (λ k. name_of (names_of c.args.self.now) k ≡ Some y) (sym u) r.2
