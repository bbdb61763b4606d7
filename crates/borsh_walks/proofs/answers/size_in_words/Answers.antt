use Rattle.std.proofs.Common.{Err, subst, string_bytes}
use Rattle.std.proofs.lemmas.Result.{IfOk-weaker}
use Rattle.borsh_walks.specs.Answers.SaysUnsized.{overflows, misses}
use Rattle.borsh_walks.specs.Definitions.{definitions_in}
use Rattle.borsh_walks.specs.SizeOutcome.{AnswersSize}
use Rattle.borsh_walks.specs.declared.error.SchemaMaxSerializedSizeError.TheVariants.{Overflow, MissingDefinition}
use Rattle.borsh_walks.proofs.Spoken.{unsized}
use Rattle.borsh_walks.proofs.answers.size_in_words.Goals as goal

pub returns-in-Err-Overflow : goal.returns-in-Err-Overflow
returns-in-Err-Overflow c =
    let root = c.args.root.now in
    let found = rw c.in-Err-Overflow.field-0-is at c.in-Err-Overflow.ensures.size in
    let a = subst (λ m. AnswersSize (definitions_in m.now) root (Err Overflow)) c.new-counted.ensures.0 found in
    IfOk-weaker c.no_size.result _ _ (λ r p. unsized (definitions_in c.args.definitions.now) root Overflow a (λ e. cc) p.0 (overflows a.answer.0 a.answer.1 a.answer.2 p.1)) c.no_size.ensures

pub returns-in-Err-MissingDefinition : goal.returns-in-Err-MissingDefinition
returns-in-Err-MissingDefinition c =
    let root = c.args.root.now in
    let name = c.in-Err-MissingDefinition.name in
    let found = rw c.in-Err-MissingDefinition.field-0-is at c.in-Err-MissingDefinition.ensures.size in
    let a = subst (λ m. AnswersSize (definitions_in m.now) root (Err (MissingDefinition name))) c.new-counted.ensures.0 found in
    IfOk-weaker c.no_size-in-Err-MissingDefinition.result _ _ (λ r p. unsized (definitions_in c.args.definitions.now) root (MissingDefinition name) a (λ e. cc) p.0 (misses (string_bytes name) a.answer.0 a.answer.1 p.1)) c.no_size-in-Err-MissingDefinition.ensures
