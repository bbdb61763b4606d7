use Rattle.borsh_c.proofs.Two.{compared_given, compared_told}
use Rattle.borsh_c.proofs.borsh_c_compare.Goals as goal

pub returns-in-Ok-clause-answer : goal.returns-in-Ok-clause-answer
returns-in-Ok-clause-answer c = compared_given c.args.old_schema.now c.args.new_schema.now c.in-Ok.ensures.ok c.as_bytes.ensures.value c.give.ensures.given

pub returns-in-Err-clause-answer : goal.returns-in-Err-clause-answer
returns-in-Err-clause-answer c = compared_told c.args.old_schema.now c.args.new_schema.now c.in-Err.refusal c.in-Err.ensures.err c.tell.ensures.code c.tell.ensures.given
