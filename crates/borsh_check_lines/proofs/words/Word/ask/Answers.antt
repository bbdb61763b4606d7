use Rattle.borsh_check_lines.proofs.words.Word.ask.Goals as goal

pub returns-in-Ranges-clause-answers : goal.returns-in-Ranges-clause-answers
returns-in-Ranges-clause-answers g c = rw c.in-Ranges.is c.answer-in-Ranges.ensures.answers

pub returns-in-ListZero-clause-answers : goal.returns-in-ListZero-clause-answers
returns-in-ListZero-clause-answers g c = rw c.in-ListZero.is c.answer-in-ListZero.ensures.answers
