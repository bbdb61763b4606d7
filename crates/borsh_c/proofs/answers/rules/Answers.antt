use Rattle.std.proofs.Common.{[], refl, subst}
use Rattle.borsh_walks.specs.Answers.{SaysRules, words_of}
use Rattle.borsh_walks.specs.Container.{IsValid}
use Rattle.borsh_walks.specs.Definitions.{definitions_in}
use Rattle.borsh_c.specs.Answers.{Alone, IsInvalid, Never, wherever}
use Rattle.borsh_c.proofs.Told.{about_told, no_told}
use Rattle.borsh_c.proofs.answers.rules.Goals as goal

pub returns-then-is_valid-clause-ok : goal.returns-then-is_valid-clause-ok
returns-then-is_valid-clause-ok c =
    let says = subst (λ b. SaysRules (definitions_in c.in_ok-root.definitions) c.as_str.result.now b (words_of c.in_ok-is_valid.words)) c.if-is_valid.true c.in_ok-is_valid.ensures in
    about_told (c.in_ok-root.root, c.in_ok-root.definitions) c.in_ok-root.ensures.ok c.as_str.result.now c.as_str.ensures.value (Alone IsValid []) (says.0, refl)

pub returns-clause-err : goal.returns-clause-err
returns-clause-err c =
    let says = subst (λ b. SaysRules (definitions_in c.in_ok-root.definitions) c.as_str.result.now b (words_of c.in_ok-is_valid.words)) c.if-is_valid.false c.in_ok-is_valid.ensures in
    no_told (c.in_ok-root.root, c.in_ok-root.definitions) c.in_ok-root.ensures.ok c.as_str.result.now c.as_str.ensures.value (wherever IsInvalid) Never (words_of c.in_ok-is_valid.words, says, c.in_ok-text_of.ensures) c.no.result c.no.ensures
