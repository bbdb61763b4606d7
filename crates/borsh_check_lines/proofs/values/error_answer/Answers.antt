use Rattle.std.proofs.Common.{rules, get_or}
use Rattle.borsh_check_lines.proofs.OneLineSteps.{error_line_none, error_line_more}
use Rattle.borsh_check_lines.proofs.values.error_answer.Goals as goal

pub loop-byte-init : goal.loop-byte-init
loop-byte-init c = error_line_none (search rules)

pub loop-byte-preserved : goal.loop-byte-preserved
loop-byte-preserved c = error_line_more (get_or c.as_bytes-byte-items.result.now c.loop-byte.byte-index 0) c.loop-byte.invariant (search rules) c.space_for_feed.ensures
