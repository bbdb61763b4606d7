use Rattle.std.proofs.Common.{◌≡◌, ℕ, ◌<◌, List, Some}
use Rattle.std.specs.Prelude.{slice_get}
use Rattle.borsh_compare.specs.Alike.{field_names}
use Rattle.borsh_compare.proofs.alike.fields_alike.Given as goal

abbrev pub invariant-loop-index : goal.invariant-loop-index
invariant-loop-index l = (i : ℕ) (x y : List ℕ) → i < l.index → slice_get (field_names l.old) i ≡ Some x → slice_get (field_names l.new) i ≡ Some y → x ≡ y
