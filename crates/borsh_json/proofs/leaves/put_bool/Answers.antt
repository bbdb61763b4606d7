use Rattle.borsh_json.proofs.LeafLaws.{no_bool, put_boolean, says_bool}
use Rattle.borsh_json.proofs.leaves.put_bool.Goals as goal

pub returns-in_ok-put-in-Some : goal.returns-in_ok-put-in-Some
returns-in_ok-put-in-Some c = λ F x h l. put_boolean F x c.args.own.now c.args.out.now c.put.new.self c.in-Some.value c.in_ok-put-in-Some.ensures (says_bool F x c.args.own.now c.in-Some.value h c.in-Some.ensures)

pub returns-in-None : goal.returns-in-None
returns-in-None c = λ F x h l. (h, no_bool F x c.args.own.now h l c.in-None.ensures.0 c.in-None.ensures.1)
