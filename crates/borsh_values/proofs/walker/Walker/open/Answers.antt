use Rattle.std.proofs.Common.{◌≡◌, ◌+◌, ◌++◌, length, drop, Some, refl, sym, ◌∙◌, ap, subst, inl, inr, append-nil, take-append-drop, length-take-le, []}
use Rattle.borsh_walks.specs.Definitions.{shape_of}
use Rattle.borsh_plan.specs.Plan.{definitions_of, names_of}
use Rattle.borsh_plan.proofs.Laws.{defined, looked_up, reached}
use Rattle.borsh_plan.proofs.Places.{name_is}
use Rattle.borsh_values.specs.Nodes.{Opens}
use Rattle.borsh_values.specs.Cursor.{HasOneTag, OpensAs, OpensOnce, remaining}
use Rattle.borsh_values.specs.Walks.{CountsIfTaken}
use Rattle.borsh_values.proofs.MemberLaws.{members_head}
use Rattle.std.proofs.Math.Logic.{∥∥₁_elim}
use Rattle.borsh_values.proofs.TableProps.{tables_prop}
use Rattle.borsh_values.proofs.WalkedLaws.{read_on}
use Rattle.borsh_values.proofs.walker.Walker.open.Goals as goal

pub returns-in-Taken-clause-finds : goal.returns-in-Taken-clause-finds
returns-in-Taken-clause-finds c =
    let w = c.args.self.now in
    let l = w.plan.now in
    let C = definitions_of l in
    let ns = names_of l in
    let d = shape_of c.in-Some.definition.now in
    let n = c.in-Taken.taken in
    let left = w.left.now in
    let own = c.front.result.now in
    let o = subst (λ o. OpensAs C ns d left o) c.in-Taken.is c.in_ok-taken.ensures.opened in
    let parts = remaining ns c.in-Taken._parts in
    let opens : Opens C d own parts = subst (λ b. Opens C d b parts) (sym c.front.ensures) o.0.opens in
    let joins : left ≡ own ++ c.after-self.result.now = sym (take-append-drop n left) ∙ ap (λ b. b ++ drop n left) (sym c.front.ensures) ∙ ap (λ b. own ++ b) (sym c.after-self.ensures) in
    let once : OpensOnce C d own parts = subst (λ b. OpensOnce C d b parts) (sym c.front.ensures) o.0.once in
    λ x e. let there : C x ≡ Some d = defined l x c.args.at e ∙ sym c.in-Some.ensures.shape in record {
      name = c.name-name.ensures ∙ (name_is ns c.args.at x e).1;
      definition = looked_up l x c.args.at e ∙ sym c.in-Some.ensures.definition;
      bytes = joins;
      offset = refl;
      next = ap (λ i. w.offset + i) (sym (ap (λ b. length b) c.front.ensures ∙ length-take-le n left o.0.within));
      parts = parts;
      opens = opens;
      once = once;
      alone = subst (λ b. HasOneTag d b) (sym c.front.ensures) o.0.alone;
      counted = subst (λ o. CountsIfTaken d o) c.in-Taken.is c.in_ok-taken.ensures.counted;
      onward = λ root done ns ps h r. read_on C d ns there once joins h r;
    }

pub returns-in-Undecided-clause-finds : goal.returns-in-Undecided-clause-finds
returns-in-Undecided-clause-finds c = λ x e ps ms.
    let w = c.args.self.now in
    let l = w.plan.now in
    let C = definitions_of l in
    let ns = names_of l in
    let d = shape_of c.in-Some.definition.now in
    let left = w.left.now in
    let there : C x ≡ Some d = defined l x c.args.at e ∙ sym c.in-Some.ensures.shape in
    let s = members_head C ms in
    elim c.in-Undecided.is [
      | inl h ↦ (d, reached l x c.args.at e, there, subst (λ o. OpensAs C ns d left o) h c.in_ok-taken.ensures.opened)
      | inr h ↦ (
          let o = subst (λ o. OpensAs C ns d left o) h.1 c.in_ok-taken.ensures.opened in
          absurd (o.0 x there [] (λ _. refl) (s.0, s.1, s.2, append-nil left ∙ s.4)))
    ]

pub open_definition-requires-clause-tables : goal.open_definition-requires-clause-tables
open_definition-requires-clause-tables c = ∥∥₁_elim c.args.self.now.tabled (tables_prop (definitions_of c.args.self.now.plan.now) c.args.self.now.tables) λ t. t
