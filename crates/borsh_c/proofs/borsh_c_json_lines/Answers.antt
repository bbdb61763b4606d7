use Rattle.std.proofs.Common.{subst}
use Rattle.borsh_json.specs.declared.output.LongNumbers.{LongNumbers}
use Rattle.borsh_json.specs.Printed.{numbers_if}
use Rattle.borsh_c.specs.Answers.{About, IsUnclear}
use Rattle.borsh_c.specs.Many.{AreLines, HasNoLine}
use Rattle.borsh_c.proofs.Told.{refused_answers, yes_given}
use Rattle.borsh_c.proofs.borsh_c_json_lines.Goals as goal

pub returns-in-Ok-clause-answer : goal.returns-in-Ok-clause-answer
returns-in-Ok-clause-answer c = yes_given (AreLines (numbers_if c.args.has_quoted_numbers) c.args.values.now c.args.lengths.now c.in-Ok.lines.count) _ IsUnclear
    (subst (λ (n : LongNumbers). About c.args.schema.now (AreLines n c.args.values.now c.args.lengths.now c.in-Ok.lines.count c.in-Ok.lines.text.items)) c.style.ensures.2 c.in-Ok.ensures.ok) c.as_slice.ensures.value c.give.ensures.given

pub returns-in-Err-clause-answer : goal.returns-in-Err-clause-answer
returns-in-Err-clause-answer c = refused_answers c.args.schema.now _ (HasNoLine c.args.values.now c.args.lengths.now) IsUnclear c.in-Err.refusal c.in-Err.ensures.err c.tell.ensures.code c.tell.ensures.offset c.tell.ensures.given
