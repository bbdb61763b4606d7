use Rattle.std.proofs.Common.{[], refl, subst}
use Rattle.borsh_walks.specs.Answers.{SaysSize, words_of}
use Rattle.borsh_walks.specs.Container.{MaxSize}
use Rattle.borsh_walks.specs.Definitions.{definitions_in}
use Rattle.borsh_c.specs.Answers.{Alone, HasNoSize, Never, wherever}
use Rattle.borsh_c.proofs.Told.{about_told, no_told}
use Rattle.borsh_c.proofs.answers.greatest_size.Goals as goal

pub returns-in-Some-clause-ok : goal.returns-in-Some-clause-ok
returns-in-Some-clause-ok c =
    let says = subst (λ n. SaysSize (definitions_in c.in_ok-root.definitions) c.as_str.result.now n (words_of c.in_ok-size.words)) c.in-Some.is c.in_ok-size.ensures in
    about_told (c.in_ok-root.root, c.in_ok-root.definitions) c.in_ok-root.ensures.ok c.as_str.result.now c.as_str.ensures.value (Alone (λ C root. MaxSize C root c.in-Some.size) []) (says.0, refl)

pub returns-clause-err : goal.returns-clause-err
returns-clause-err c =
    let says = subst (λ n. SaysSize (definitions_in c.in_ok-root.definitions) c.as_str.result.now n (words_of c.in_ok-size.words)) c.in-None.is c.in_ok-size.ensures in
    no_told (c.in_ok-root.root, c.in_ok-root.definitions) c.in_ok-root.ensures.ok c.as_str.result.now c.as_str.ensures.value (wherever HasNoSize) Never (words_of c.in_ok-size.words, says, c.in_ok-text_of-in-None.ensures) c.no.result c.no.ensures
