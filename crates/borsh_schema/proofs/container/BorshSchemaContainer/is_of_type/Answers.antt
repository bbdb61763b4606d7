use Rattle.std.proofs.Common.{sym, ◌∙◌}
use Rattle.std.proofs.lemmas.Bool.Decides.{Decides-at, Decides-eqb}
use Rattle.borsh_schema.proofs.Equality.{container-Decides}
use Rattle.borsh_schema.proofs.Containing.{compared_long, compared_short, consistent}
use Rattle.borsh_schema.proofs.container.BorshSchemaContainer.is_of_type.Goals.{then-len, else-len}
use Rattle.borsh_schema.proofs.container.BorshSchemaContainer.is_of_type.Goals as goal

pub returns-clause-ok : goal.returns-clause-ok
returns-clause-ok g c = elim c.if-len.branch [
  | then-len w ↦
      compared_long c.in_ok-own.own c.args.self.now c.in_ok-own.ensures.ok c.len-2.ensures.ordered c.len.ensures.ordered c.if-len.result
      (Decides-at c.if-len.result _ (w.result-is ∙ w.eq.ensures) (container-Decides c.args.self.now c.in_ok-own.own))
  | else-len w ↦
      let f = compared_short c.in_ok-own.own c.args.self.now c.in_ok-own.ensures.ok c.len-2.ensures.ordered c.len.ensures.ordered (λ e. w.if-len.false (c.len.ensures.len ∙ e ∙ sym c.len-2.ensures.len)) in
      (λ e. absurd (w.if-len.false ((Decides-eqb c.len.result c.len-2.result).0 (sym w.result-is ∙ e))), λ h. absurd (f h))
]

pub returns-clause-consistent : goal.returns-clause-consistent
returns-clause-consistent g c = consistent c.in_ok-own.own c.in_ok-own.ensures.ok
