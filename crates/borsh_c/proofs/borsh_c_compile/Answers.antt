use Rattle.borsh_c.proofs.Two.{type_given, type_told}
use Rattle.borsh_c.proofs.borsh_c_compile.Goals as goal

pub returns-in-Ok-clause-answer : goal.returns-in-Ok-clause-answer
returns-in-Ok-clause-answer c = type_given c.in-Ok.ensures.ok c.as_slice.ensures.value c.give.ensures.given

pub returns-in-Err-clause-answer : goal.returns-in-Err-clause-answer
returns-in-Err-clause-answer c = type_told c.in-Err.refusal c.in-Err.ensures.err c.tell.ensures.code c.tell.ensures.given
