use Rattle.std.proofs.Common.{◌-◌, ℕ, List}
use Rattle.borsh_json.specs.{Table.{MayBeNull}, Found.{IsNamed, forms_of}}
use Rattle.borsh_json.proofs.kinds.may_be_null.Given as goal

abbrev pub invariant-loop : goal.invariant-loop
invariant-loop l = (x0 : List ℕ) → IsNamed l.definitions l.fn.at x0 → (x : List ℕ) × IsNamed l.definitions l.at x × (MayBeNull (forms_of l.definitions) (128 - l.counter) x → MayBeNull (forms_of l.definitions) 128 x0) × (MayBeNull (forms_of l.definitions) 128 x0 → MayBeNull (forms_of l.definitions) (128 - l.counter) x)
