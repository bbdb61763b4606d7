use Rattle.std.proofs.{Common.{arith}, lemmas.Bool.Decides.{nat_tests}}
use Rattle.borsh_json.proofs.NumberLaws.{below_shift}
use Rattle.borsh_json.proofs.numbers.is_below.Goals as goal

pub returns-else-size-ge16 : goal.returns-else-size-ge16
returns-else-size-ge16 c = λ h. let b = below_shift c.args.number c.args.size in ((λ e. b.0 (grind (arith, nat_tests))), (λ l. let z = b.1 l in grind (arith, nat_tests)))
