use Rattle.std.proofs.Common.{refl, codes, sym, subst, inl, inr}
use Rattle.std.proofs.lemmas.Result.{IfOk-weaker}
use Rattle.borsh_io.specs.Lines.{IsLine}
use Rattle.borsh_check_lines.proofs.OneLineSteps.{line_of_text, line_of_digits}
use Rattle.borsh_check_lines.proofs.schemas.container_of.Goals as goal

pub returns-in-Err-Redefinition-clause-answers : goal.returns-in-Err-Redefinition-clause-answers
returns-in-Err-Redefinition-clause-answers g c =
    IfOk-weaker c.line_of.result _ _ (λ out e. inr (record { name = _; clash = rw c.in-Err-Redefinition.field-0-is at c.in-Err-Redefinition.ensures.err })) c.line_of.ensures

pub returns-in-Err-Redefinition-clause-line : goal.returns-in-Err-Redefinition-clause-line
returns-in-Err-Redefinition-clause-line g c =
    IfOk-weaker c.line_of.result _ _ (λ out e. subst IsLine (sym e) (line_of_text (codes "error two definitions of one name") refl)) c.line_of.ensures

pub returns-in-Ok-to_vec-clause-answers : goal.returns-in-Ok-to_vec-clause-answers
returns-in-Ok-to_vec-clause-answers g c =
    IfOk-weaker c.digits_line.result _ _ (λ out e. inl (record { own = c.in-Ok.container; bytes = c.in-Ok-to_vec.bytes.items; is = c.in-Ok.ensures.ok; encoded = c.in-Ok-to_vec.ensures.ok; text = rw c.deref.ensures.value at e })) c.digits_line.ensures

pub returns-in-Ok-to_vec-clause-line : goal.returns-in-Ok-to_vec-clause-line
returns-in-Ok-to_vec-clause-line g c = IfOk-weaker c.digits_line.result _ _ (λ out e. subst IsLine (sym e) (line_of_digits c.deref.result.now)) c.digits_line.ensures
