use Rattle.std.proofs.Common.{Option, [], ℕ, refl, string_bytes, subst, sym}
use Rattle.borsh_c.specs.Answers.{About, IsUnclear}
use Rattle.borsh_c.specs.Answers.Answers.{yes}
use Rattle.borsh_c.specs.Many.{IsCutShort, IsNoRecord}
use Rattle.borsh_c.specs.Many.AnswersRecords.{whole, cut}
use Rattle.borsh_c.proofs.Told.{refused_answers}
use Rattle.borsh_c.proofs.borsh_c_records.Goals as goal

pub returns-in-Ok-Values-clause-answer : goal.returns-in-Ok-Values-clause-answer
returns-in-Ok-Values-clause-answer c =
    let found = rw c.in-Ok-Values.field-0-is at c.in-Ok-Values.ensures.ok in
    ([], whole (yes (found.0, found.1, (found.2, refl)) refl), c.give.ensures.given)

pub returns-in-Ok-Short-clause-answer : goal.returns-in-Ok-Short-clause-answer
returns-in-Ok-Short-clause-answer c =
    let is_cut = rw c.in-Ok-Short.field-0-is at c.in-Ok-Short.ensures.ok in
    (string_bytes c.in-Ok-Short.said.text, cut (subst (λ (o : Option ℕ). About c.args.schema.now (IsCutShort c.args.bytes.now o (string_bytes c.in-Ok-Short.said.text))) (sym c.tell.ensures.offset) is_cut) refl, c.tell.ensures.given)

pub returns-in-Err-clause-answer : goal.returns-in-Err-clause-answer
returns-in-Err-clause-answer c =
    let told = refused_answers c.args.schema.now _ (IsNoRecord c.args.bytes.now) IsUnclear c.in-Err.refusal c.in-Err.ensures.err c.tell-in-Err.ensures.code c.tell-in-Err.ensures.offset c.tell-in-Err.ensures.given in
    (told.0, whole told.1, told.2)
