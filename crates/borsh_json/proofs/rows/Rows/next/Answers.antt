use Rattle.std.proofs.{Common.{rules, ◌≡◌, ◌∙◌, length, refl, subst, sym, true≢false}, lemmas.Bool.Decides.{Decides-eqb}}
use Rattle.std.specs.Prelude.{Option}
use Rattle.borsh_values.specs.{Preorder.{GivesNext}, declared.nodes.Node.{Node}}
use Rattle.borsh_json.specs.Rows.{none}
use Rattle.borsh_json.proofs.RowsLaws.{given, passed}
use Rattle.borsh_json.proofs.rows.Rows.next.Goals as goal

pub loop-init : goal.loop-init
loop-init c = record { plan = refl; bytes = refl; offset = refl; empty = none }

pub returns-then-not-is_empty-clause-row : goal.returns-then-not-is_empty-clause-row
returns-then-not-is_empty-clause-row c =
    let g = subst (λ (o : Option Node). GivesNext c.loop.self.nodes c.next.new.self o) c.in-Ok-Some.field-0-is c.in-Ok-Some.ensures.gives in
    let some : length c.in-Ok-Some.node.bytes.now ≡ 0 → ⊥ = λ z. true≢false (sym ((Decides-eqb (length c.in-Ok-Some.node.bytes.now) 0).1 z) ∙ sym c.is_empty.ensures ∙ c.if-not-is_empty.true) in
    given c.args.self.now c.loop.self (record { alloc = c.loop.self.alloc; nodes = c.next.new.self }) c.in-Ok-Some.node c.loop.invariant g some

pub loop-preserved : goal.loop-preserved
loop-preserved c =
    let g = subst (λ (o : Option Node). GivesNext c.loop.self.nodes c.next.new.self o) c.in-Ok-Some.field-0-is c.in-Ok-Some.ensures.gives in
    let none : length c.in-Ok-Some.node.bytes.now ≡ 0 = (Decides-eqb (length c.in-Ok-Some.node.bytes.now) 0).0 (sym c.is_empty.ensures ∙ c.if-not-is_empty.false) in
    passed c.args.self.now c.loop.self (record { alloc = c.loop.self.alloc; nodes = c.next.new.self }) c.in-Ok-Some.node c.loop.invariant c.next.ensures.plan g none

pub returns-then-node-gt-MAX_DEPTH-clause-deep : goal.returns-then-node-gt-MAX_DEPTH-clause-deep
returns-then-node-gt-MAX_DEPTH-clause-deep c = record {
  now = c.loop.self.nodes;
  new = c.next.new.self;
  node = c.in-Ok-Some.node;
  empty = c.loop.invariant.empty;
  gives = subst (λ (o : Option Node). GivesNext c.loop.self.nodes c.next.new.self o) c.in-Ok-Some.field-0-is c.in-Ok-Some.ensures.gives;
  deep = search rules;
  root = search rules;
  steps = search rules;
}
