use Rattle.std.proofs.Common.{◌≡◌, ℕ, ◌<◌, ◌^◌, length, arith}
use Rattle.std.specs.Prelude.{Result, Ok, Err, IfOk}
use Rattle.borsh_walks.specs.Counts.{definitions_of}
use Rattle.borsh_walks.proofs.SizeOutcome.{answers_size}
use Rattle.borsh_walks.proofs.SizeExists.{has_size}
use Rattle.borsh_walks.proofs.Names.{names_within}
use Rattle.borsh_walks.proofs.sizes.root_size.Goals as goal

fits : {E : Type 0} (r : Result ℕ E) → IfOk r (λ n. n < 2 ^ 64) → (n : ℕ) → r ≡ Ok n → n < 2 ^ 64
fits (Ok m) h n e = let q : m ≡ n = cc in omega (arith, q, h)
fits (Err x) h n e = cc

pub returns-clause-bounded_work : goal.returns-clause-bounded_work
returns-clause-bounded_work c = let k = c.walk_sizes.ensures.counts in (length k.0, names_within c.args.counted.now.map.now k.0 k.1.once (λ x a. (k.1.needed x a).1), k.1.counts)

pub returns-clause-size : goal.returns-clause-size
returns-clause-size c = answers_size (definitions_of c.args.counted.now) c.args.root.now c.walk_sizes.result (fits c.walk_sizes.result c.walk_sizes.ensures.fits) (has_size c.args.counted.now.map.now c.args.root.now) c.walk_sizes.ensures.answer
