use Rattle.borsh_json.proofs.LeafLaws.{put_null}
use Rattle.borsh_json.proofs.leaves.write_null.Goals as goal

pub returns : goal.returns
returns c = λ F x own s. put_null F x own c.args.out.now c.put.new.self c.in_ok-put.ensures s
