use Rattle.std.proofs.Common.{refl}
use Rattle.borsh_walks.specs.Container.{IsValid}
use Rattle.borsh_c.specs.Answers.{Alone, IsInvalid, Never, wherever}
use Rattle.borsh_c.proofs.Told.{refused_answers, yes_given}
use Rattle.borsh_c.proofs.borsh_c_valid.Goals as goal

pub returns-in-Ok-clause-answer : goal.returns-in-Ok-clause-answer
returns-in-Ok-clause-answer c = yes_given (Alone IsValid) IsInvalid Never c.in-Ok.ensures.ok refl c.give.ensures.given

pub returns-in-Err-clause-answer : goal.returns-in-Err-clause-answer
returns-in-Err-clause-answer c = refused_answers c.args.schema.now (Alone IsValid) (wherever IsInvalid) Never c.in-Err.refusal c.in-Err.ensures.err c.tell.ensures.code c.tell.ensures.offset c.tell.ensures.given
