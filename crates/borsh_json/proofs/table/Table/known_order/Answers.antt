use Rattle.std.proofs.Common.{◌∙◌, ℕ, List, sym, subst}
use Rattle.borsh_json.specs.{declared.definitions.Definitions.{Definitions}, Found.{names_of}, Orders.{OrderedBy}, Places.{IsAt}}
use Rattle.borsh_json.proofs.FoundLaws.{got}
use Rattle.borsh_json.proofs.table.Table.known_order.Goals as goal

pub returns-in-Some : goal.returns-in-Some
returns-in-Some c =
    let s = sym (got c.self.inside.orders.items c.as_slice.result.now c.args.at c.get.result c.as_slice.ensures.value c.get.ensures.lookup.3) ∙ sym c.copied.ensures ∙ c.in-Some.is in
    subst (λ (d : Definitions). (x : List ℕ) → IsAt (names_of d) c.args.at x → OrderedBy d x c.in-Some.order) c.self.view_is (λ x i. c.self.invariant.ordered c.args.at x c.in-Some.order s i)

pub returns-in-None : goal.returns-in-None
returns-in-None c = subst (λ (d : Definitions). (x : List ℕ) → IsAt (names_of d) c.args.at x → OrderedBy d x c.order_of.result) c.self.view_is c.order_of.ensures
