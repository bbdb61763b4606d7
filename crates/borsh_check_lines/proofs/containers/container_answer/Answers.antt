use Rattle.std.proofs.Common.{◌∙◌, ap, subst, sym, string_bytes}
use Rattle.std.proofs.lemmas.Result.{IfOk-weaker}
use Rattle.borsh_io.specs.Lines.{IsLine}
use Rattle.borsh_walks.specs.Answers.{SaysRules, SaysSize, words_of}
use Rattle.borsh_walks.specs.Definitions.{definitions_in}
use Rattle.borsh_walks.proofs.Spoken.{rules_plain, size_plain}
use Rattle.borsh_schema.specs.Containers.{language_of}
use Rattle.borsh_check_lines.specs.Containers.AnswersAbout.{answered}
use Rattle.borsh_check_lines.proofs.Asked.{line_of_spoken}
use Rattle.borsh_check_lines.proofs.containers.container_answer.Goals as goal

pub returns-in-Check-clause-answers : goal.returns-in-Check-clause-answers
returns-in-Check-clause-answers c =
    let k = c.in-Ok.container in
    let b = c.in_ok-words-in-Check.field-0-0 in
    let w = words_of c.in_ok-words-in-Check.words in
    let by_map = subst (λ m. SaysRules (definitions_in m) c.as_str-root.result.now b w) c.as_map.ensures c.in_ok-words-in-Check.ensures in
    let says = subst (λ root. SaysRules (language_of k) root b w) (c.as_str-root.ensures.value ∙ ap string_bytes c.declaration.ensures) by_map in
    rw c.in-Check.is (IfOk-weaker c.words_line.result _ _ (λ out e. answered k c.in-Ok.ensures.ok (b, (w, says, e))) c.words_line.ensures)

pub returns-in-Check-clause-line : goal.returns-in-Check-clause-line
returns-in-Check-clause-line c =
    let plain = rules_plain _ _ c.in_ok-words-in-Check.field-0-0 (words_of c.in_ok-words-in-Check.words) c.in_ok-words-in-Check.ensures in
    IfOk-weaker c.words_line.result _ _ (λ out e. subst IsLine (sym e) (line_of_spoken (words_of c.in_ok-words-in-Check.words) plain)) c.words_line.ensures

pub returns-in-Size-clause-answers : goal.returns-in-Size-clause-answers
returns-in-Size-clause-answers c =
    let k = c.in-Ok.container in
    let n = c.in_ok-words-in-Size.field-0-0 in
    let w = words_of c.in_ok-words-in-Size.words in
    let by_map = subst (λ m. SaysSize (definitions_in m) c.as_str-root.result.now n w) c.as_map-in-Size.ensures c.in_ok-words-in-Size.ensures in
    let says = subst (λ root. SaysSize (language_of k) root n w) (c.as_str-root.ensures.value ∙ ap string_bytes c.declaration.ensures) by_map in
    rw c.in-Size.is (IfOk-weaker c.words_line-in-Size.result _ _ (λ out e. answered k c.in-Ok.ensures.ok (n, (w, says, e))) c.words_line-in-Size.ensures)

pub returns-in-Size-clause-line : goal.returns-in-Size-clause-line
returns-in-Size-clause-line c =
    let plain = size_plain _ _ c.in_ok-words-in-Size.field-0-0 (words_of c.in_ok-words-in-Size.words) c.in_ok-words-in-Size.ensures in
    IfOk-weaker c.words_line-in-Size.result _ _ (λ out e. subst IsLine (sym e) (line_of_spoken (words_of c.in_ok-words-in-Size.words) plain)) c.words_line-in-Size.ensures

pub returns-clause-answers : goal.returns-clause-answers
returns-clause-answers c = rw c.in-Counts.is (IfOk-weaker c.counts_answer.result _ _ (λ out p. answered c.in-Ok.container c.in-Ok.ensures.ok p) c.counts_answer.ensures.answers)
