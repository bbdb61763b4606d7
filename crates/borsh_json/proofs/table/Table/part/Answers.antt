use Rattle.std.proofs.Common.{◌≡◌, ℕ, List, Some, subst, slice_get}
use Rattle.borsh_walks.specs.Container.{references}
use Rattle.borsh_json.specs.{declared.definitions.Definitions.{Definitions}, Forms.{Form, shape_of_form}, Found.{forms_of, names_of}, Places.{IsAt}}
use Rattle.borsh_json.proofs.table.Table.part.Goals as goal

pub returns : goal.returns
returns c =
    subst (λ (d : Definitions). (x y : List ℕ) (f : Form) → IsAt (names_of d) c.args.at x → forms_of d x ≡ Some f → slice_get (references (shape_of_form f)) c.args.index ≡ Some y → IsAt (names_of d) c.part.result y) c.self.view_is c.part.ensures
