use Rattle.borsh_values.proofs.Stepping.{cursor_pass}
use Rattle.borsh_values.proofs.cursor.Cursor.pass.Goals as goal

pub returns-in-Some-clause-cursor : goal.returns-in-Some-clause-cursor
returns-in-Some-clause-cursor c = (cursor_pass c.args.self.now c.requires c.in-Some.passed c.in-Some.ensures c.after-self.result c.after-self.ensures).0

pub returns-in-Some-clause-moves : goal.returns-in-Some-clause-moves
returns-in-Some-clause-moves c = λ _. (cursor_pass c.args.self.now c.requires c.in-Some.passed c.in-Some.ensures c.after-self.result c.after-self.ensures).1
