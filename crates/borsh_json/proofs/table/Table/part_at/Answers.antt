use Rattle.std.proofs.Common.{◌≡◌, ℕ, List, Some, subst}
use Rattle.borsh_walks.specs.Container.{references}
use Rattle.borsh_json.specs.{declared.definitions.Definitions.{Definitions}, Forms.{Form, shape_of_form}, Found.{forms_of, names_of}, Orders.{IsPartAt}, Places.{IsAt}}
use Rattle.borsh_json.proofs.table.Table.part_at.Goals as goal

pub returns-clause-part : goal.returns-clause-part
returns-clause-part c =
    subst (λ (d : Definitions). (x : List ℕ) (f : Form) → IsAt (names_of d) c.args.at x → forms_of d x ≡ Some f → IsPartAt (names_of d) (references (shape_of_form f)) c.args.index c.part_at.result) c.self.view_is c.part_at.ensures.part
