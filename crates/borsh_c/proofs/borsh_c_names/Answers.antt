use Rattle.borsh_c.specs.Answers.{Never, TellsKinds, wherever}
use Rattle.borsh_c.proofs.Told.{refused_answers, yes_given}
use Rattle.borsh_c.proofs.borsh_c_names.Goals as goal

pub returns-in-Ok-clause-answer : goal.returns-in-Ok-clause-answer
returns-in-Ok-clause-answer c = yes_given TellsKinds Never Never c.in-Ok.ensures.ok c.as_bytes.ensures.value c.give.ensures.given

pub returns-in-Err-clause-answer : goal.returns-in-Err-clause-answer
returns-in-Err-clause-answer c = refused_answers c.args.schema.now TellsKinds (wherever Never) Never c.in-Err.refusal c.in-Err.ensures.err c.tell.ensures.code c.tell.ensures.offset c.tell.ensures.given
