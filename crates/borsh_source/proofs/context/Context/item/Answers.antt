use Rattle.std.proofs.Common.{sym, ◌∙◌, ap, Some}
use Rattle.borsh_source.proofs.Indexed.{indexed_at, not_nowhere}
use Rattle.borsh_source.proofs.context.Context.item.Goals as goal

pub returns-in_default : goal.returns-in_default
returns-in_default c = c.requires.complete c.args.name.now (sym c.in_default.ensures.value)

pub returns-in_default-element : goal.returns-in_default-element
returns-in_default-element c = λ i item h. not_nowhere c.args.self.now c.args.name.now c.in-Some-entry.at c.requires (sym c.in-Some.ensures.value ∙ ap (λ z. Some z) c.in-Some-entry.is) (sym c.in_default-element.ensures)

pub returns : goal.returns
returns c = indexed_at c.args.self.now c.args.name.now c.in-Some-entry.at c.in-Some-element.item.now c.requires (sym c.in-Some.ensures.value ∙ ap (λ z. Some z) c.in-Some-entry.is) (sym c.in-Some-element.ensures)
