use Rattle.std.proofs.Common.{◌∙◌, ℕ, List, None, IfSome, sym, subst}
use Rattle.borsh_json.specs.{declared.definitions.Definitions.{Definitions}, Found.{forms_of, names_of}, Orders.{KindHasOrder, KindTellsOrder}, Places.{IsAt, IsKindAt}}
use Rattle.borsh_json.proofs.{FoundLaws.{got}, KindOrders.{first_some, second_some}, PlaceLaws.{kind_there}}
use Rattle.borsh_json.proofs.table.Table.kind.Goals as goal

pub returns-in-Some-clause-kind : goal.returns-in-Some-clause-kind
returns-in-Some-clause-kind c =
    let s = sym (got c.self.inside.kinds.items c.as_slice.result.now c.args.at c.get.result c.as_slice.ensures.value c.get.ensures.lookup.3) ∙ sym c.copied.ensures ∙ c.in-Some.is in
    subst (λ (d : Definitions). IsKindAt (forms_of d) (names_of d) c.args.at c.in-Some.found) c.self.view_is (c.self.invariant.right c.args.at c.in-Some.found s).0

pub returns-in-None-clause-kind : goal.returns-in-None-clause-kind
returns-in-None-clause-kind c =
    let none = sym (got c.self.inside.kinds.items c.as_slice.result.now c.args.at c.get.result c.as_slice.ensures.value c.get.ensures.lookup.3) ∙ sym c.copied.ensures ∙ c.in-None.is in
    subst (λ (d : Definitions). IsKindAt (forms_of d) (names_of d) c.args.at None) c.self.view_is (λ x i full. absurd (kind_there (names_of c.self.inside.definitions) c.self.inside.kinds.items c.args.at x c.self.invariant.whole none i))

pub returns-in-Some-clause-order : goal.returns-in-Some-clause-order
returns-in-Some-clause-order c =
    let d = c.self.inside.definitions in
    let s = sym (got c.self.inside.kinds.items c.as_slice.result.now c.args.at c.get.result c.as_slice.ensures.value c.get.ensures.lookup.3) ∙ sym c.copied.ensures ∙ c.in-Some.is in
    subst (λ (d : Definitions). (x : List ℕ) → IsAt (names_of d) c.args.at x → IfSome c.in-Some.found (λ r. KindHasOrder (forms_of d) (names_of d) x r.1)) c.self.view_is
    (λ x i. first_some (λ r. KindHasOrder (forms_of d) (names_of d) x r.1) (λ r. KindTellsOrder (forms_of d) x r.1) c.in-Some.found ((c.self.invariant.right c.args.at c.in-Some.found s).1 x i))

pub returns-in-Some-clause-telling : goal.returns-in-Some-clause-telling
returns-in-Some-clause-telling c =
    let d = c.self.inside.definitions in
    let s = sym (got c.self.inside.kinds.items c.as_slice.result.now c.args.at c.get.result c.as_slice.ensures.value c.get.ensures.lookup.3) ∙ sym c.copied.ensures ∙ c.in-Some.is in
    subst (λ (d : Definitions). (x : List ℕ) → IsAt (names_of d) c.args.at x → IfSome c.in-Some.found (λ r. KindTellsOrder (forms_of d) x r.1)) c.self.view_is
    (λ x i. second_some (λ r. KindHasOrder (forms_of d) (names_of d) x r.1) (λ r. KindTellsOrder (forms_of d) x r.1) c.in-Some.found ((c.self.invariant.right c.args.at c.in-Some.found s).1 x i))
