use Rattle.borsh_json.proofs.leaves.put_element.Goals as goal

pub returns-in-Err : goal.returns-in-Err
returns-in-Err c = λ F e k p h l. c.of_element.ensures F e c.args.own.now k h l (c.in-Err.ensures F e k p h l)
