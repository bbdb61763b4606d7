use Rattle.borsh_json.specs.{Forms.{form_of}, Found.{forms_of, names_of}}
use Rattle.borsh_json.proofs.TellingLaws.{empty_word, not_empty}
use Rattle.borsh_json.proofs.table.Table.word.Goals as goal

pub returns-then-is_zero_size : goal.returns-then-is_zero_size
returns-then-is_zero_size c x i =
    let d = c.args.self.now in
    empty_word (forms_of d) (names_of d) x c.is_zero_size.result c.if-is_zero_size.true (c.is_zero_size.ensures x i)

pub returns-in-Some : goal.returns-in-Some
returns-in-Some c x i =
    let d = c.args.self.now in
    let full = not_empty (forms_of d) (names_of d) x c.is_zero_size.result c.if-is_zero_size.false (c.is_zero_size.ensures x i) in
    c.word_of.ensures (forms_of d) (names_of d) x (form_of c.in-Some.field-0-0.now) (c.in-Some.ensures.kind x i full).1 (c.in-Some.ensures.order x i) (c.in-Some.ensures.telling x i)
