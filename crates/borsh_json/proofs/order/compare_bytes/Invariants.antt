use Rattle.std.proofs.Common.{◌≡◌, ◌≤◌, length, drop}
use Rattle.borsh_json.proofs.order.compare_bytes.Given as goal

abbrev pub invariant-loop-end : goal.invariant-loop-end
invariant-loop-end l = (l.end ≤ length l.left) × (l.end ≤ length l.right) × (length l.left ≡ length l.right → drop l.end l.left ≡ drop l.end l.right)

abbrev pub decreases-loop-end : goal.decreases-loop-end
decreases-loop-end l = l.end
