use Rattle.std.proofs.Common.{string_bytes, subst}
use Rattle.borsh_json.specs.declared.output.Layout.{Layout}
use Rattle.borsh_json.specs.Printed.{layout_if, numbers_if}
use Rattle.borsh_json.specs.declared.output.LongNumbers.{LongNumbers}
use Rattle.borsh_c.specs.Answers.{About, HasNoJson, IsJsonOf, IsUnclear}
use Rattle.borsh_c.proofs.Told.{refused_answers, yes_given}
use Rattle.borsh_c.proofs.borsh_c_to_json.Goals as goal

pub returns-in-Ok-clause-answer : goal.returns-in-Ok-clause-answer
returns-in-Ok-clause-answer c = yes_given (IsJsonOf (layout_if c.args.is_compact) (numbers_if c.args.has_quoted_numbers) c.args.value.now) _ IsUnclear
    (subst (λ (n : LongNumbers). About c.args.schema.now (IsJsonOf (layout_if c.args.is_compact) n c.args.value.now (string_bytes c.in-Ok.json))) c.style.ensures.2
    (subst (λ (l : Layout). About c.args.schema.now (IsJsonOf l c.style.result.long_numbers c.args.value.now (string_bytes c.in-Ok.json))) c.style.ensures.0 c.in-Ok.ensures.ok)) c.as_bytes.ensures.value c.give.ensures.given

pub returns-in-Err-clause-answer : goal.returns-in-Err-clause-answer
returns-in-Err-clause-answer c = refused_answers c.args.schema.now _ (HasNoJson c.args.value.now) IsUnclear c.in-Err.refusal c.in-Err.ensures.err c.tell.ensures.code c.tell.ensures.offset c.tell.ensures.given
