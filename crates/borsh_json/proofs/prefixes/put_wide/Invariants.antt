use Rattle.std.proofs.Common.{◌≡◌, ◌≤◌, ◌++◌, ◌-◌, max, min, replicate, take}
use Rattle.borsh_json.proofs.prefixes.put_wide.Given as goal

abbrev pub invariant-loop : goal.invariant-loop
invariant-loop l = (l.out.items ≡ l.fn.out.items ++ take (min l.fn.width 8) l.fn.bytes ++ replicate (l.counter - 8) l.fill) × (l.counter ≤ max 8 l.fn.width)
