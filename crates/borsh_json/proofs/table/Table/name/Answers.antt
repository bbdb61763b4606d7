use Rattle.std.proofs.Common.{◌≡◌, ℕ, List, subst}
use Rattle.borsh_json.specs.{declared.definitions.Definitions.{Definitions}, Found.{names_of}, Places.{IsAt}}
use Rattle.borsh_json.proofs.table.Table.name.Goals as goal

pub returns : goal.returns
returns c = subst (λ (d : Definitions). (x : List ℕ) → IsAt (names_of d) c.args.at x → c.name.result.now ≡ x) c.self.view_is c.name.ensures
