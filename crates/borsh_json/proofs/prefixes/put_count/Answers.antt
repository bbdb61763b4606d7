use Rattle.std.proofs.Common.{arith}
use Rattle.borsh_json.proofs.NumberLaws.{count_bytes, put_is}
use Rattle.borsh_json.proofs.prefixes.put_count.Goals as goal

pub returns : goal.returns
returns c = put_is c.put_wide.result c.put_wide.new.out.items c.args.out.now.items c.args.width _ 0 _ _ c.to_le_bytes.ensures (count_bytes c.args.width c.args.count (omega arith)) c.put_wide.ensures
