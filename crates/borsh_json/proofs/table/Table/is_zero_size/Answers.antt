use Rattle.std.proofs.Common.{ℕ, List, Decides, subst}
use Rattle.borsh_json.specs.{declared.definitions.Definitions.{Definitions}, Forms.{HasNoBytes}, Found.{forms_of, names_of}, Places.{IsAt}}
use Rattle.borsh_json.proofs.table.Table.is_zero_size.Goals as goal

pub returns : goal.returns
returns c = subst (λ (d : Definitions). (x : List ℕ) → IsAt (names_of d) c.args.at x → Decides c.is_zero_size.result (HasNoBytes (forms_of d) x)) c.self.view_is c.is_zero_size.ensures
