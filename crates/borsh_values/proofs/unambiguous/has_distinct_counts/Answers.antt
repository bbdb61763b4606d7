use Rattle.std.proofs.Common.{ℕ, ◌+◌, ◌^◌, ◌<◌, ◌≤◌, refl, arith}
use Rattle.std.proofs.Math.Nat.{pow-le-pow_right}
use Rattle.borsh_values.proofs.unambiguous.has_distinct_counts.Goals as goal

all_fit : (w lo hi : ℕ) → 8 ≤ w → hi < 18446744073709551616 → hi < lo + 256 ^ w
all_fit w lo hi h k = let p : 256 ^ 8 ≤ 256 ^ w = pow-le-pow_right (omega arith) h in omega (arith, p)

pub returns-in-None : goal.returns-in-None
returns-in-None c = ((λ _. all_fit c.args.width c.args.start c.args.end c.in-None.ensures (omega arith)), λ _. refl)
