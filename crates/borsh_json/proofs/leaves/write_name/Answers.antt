use Rattle.borsh_json.proofs.LeafLaws.{put_string}
use Rattle.borsh_json.proofs.leaves.write_name.Goals as goal

pub returns : goal.returns
returns c = λ F x own s. put_string F x own c.args.out.now c.put.new.self c.args.name.now c.in_ok-put.ensures s
