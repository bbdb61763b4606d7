use Rattle.std.proofs.Common.{refl, sym, ◌∙◌, subst}
use Rattle.borsh_walks.specs.Definitions.{shape_of}
use Rattle.borsh_values.specs.declared.faults.Reason.TheVariants.{MissingDefinition}
use Rattle.borsh_plan.specs.Plan.{definitions_of, names_of}
use Rattle.borsh_values.specs.Cursor.{name_in, OpensAs}
use Rattle.borsh_values.proofs.Answers.{refused_why}
use Rattle.borsh_values.proofs.Walk.{going_missing}
use Rattle.borsh_plan.proofs.Laws.{defined_at}
use Rattle.borsh_values.proofs.Stepping.{cursor_stopped, has_tables, next_reached, other_tables, other_tables_happen}
use Rattle.borsh_values.proofs.cursor.Cursor.begin.Goals as goal

pub returns-in_default-clause-shows : goal.returns-in_default-clause-shows
returns-in_default-clause-shows c = λ i.
    let k = c.args.self.now in
    let s = c.args.step in
    let g = c.requires.step in
    let none = sym c.in_default.ensures.shape in
    cursor_stopped k i s g MissingDefinition (defined_at k.plan.now s.at g.within ∙ none) (going_missing k.plan.now i.going s g none)

pub returns-in-Undecided-clause-happens : goal.returns-in-Undecided-clause-happens
returns-in-Undecided-clause-happens c =
    let k = c.args.self.now in
    let l = k.plan.now in
    let s = c.args.step in
    let g = c.requires.step in
    let d = shape_of c.in-Some.definition.now in
    (refl, (d, next_reached k s g, defined_at l s.at g.within ∙ sym c.in-Some.ensures.shape, subst (λ o. OpensAs (definitions_of l) (names_of l) d k.left.now o) c.in-Undecided.is c.in_ok-open_definition.ensures.opened))

pub returns-in-Refused-clause-shows : goal.returns-in-Refused-clause-shows
returns-in-Refused-clause-shows c = λ i.
    let k = c.args.self.now in
    let l = k.plan.now in
    let s = c.args.step in
    let g = c.requires.step in
    let d = shape_of c.in-Some.definition.now in
    let why = c.in-Refused.why in
    let defined = defined_at l s.at g.within ∙ sym c.in-Some.ensures.shape in
    let o = subst (λ o. OpensAs (definitions_of k.plan.now) (names_of l) d k.left.now o) c.in-Refused.is c.in_ok-open_definition.ensures.opened in
    cursor_stopped k i s g why (refused_why (definitions_of k.plan.now) why d (name_in k s.at) k.left.now defined o.1) (o.0 (name_in k s.at) defined)

pub open_definition-requires-clause-tables : goal.open_definition-requires-clause-tables
open_definition-requires-clause-tables c = has_tables c.args.self.now c.requires.cursor

pub open_empty-requires-clause-cursor : goal.open_empty-requires-clause-cursor
open_empty-requires-clause-cursor c = other_tables c.args.self.now c.requires.cursor c.open_definition.new.tables c.open_definition.ensures.tables

pub open-requires-clause-cursor : goal.open-requires-clause-cursor
open-requires-clause-cursor c = other_tables c.args.self.now c.requires.cursor c.open_definition.new.tables c.open_definition.ensures.tables

pub returns-then-own-eq0-clause-happens : goal.returns-then-own-eq0-clause-happens
returns-then-own-eq0-clause-happens c = other_tables_happen c.args.self.now c.open_empty.new.self c.open_definition.new.tables c.open_empty.result c.open_empty.ensures.happens

pub returns-else-own-eq0-clause-happens : goal.returns-else-own-eq0-clause-happens
returns-else-own-eq0-clause-happens c = other_tables_happen c.args.self.now c.open.new.self c.open_definition.new.tables c.open.result c.open.ensures.happens
