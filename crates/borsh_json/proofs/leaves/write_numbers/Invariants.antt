use Rattle.std.proofs.Common.{◌≡◌, ◌≤◌, ◌*◌, ℕ, List, Option, length}
use Rattle.borsh_json.specs.{Forms.{Form}, Found.{IsPrimitiveKind}, Leaves.{HasSize}, Table.{HasKind, Kind}}
use Rattle.borsh_json.proofs.ListLaws.{IsIndexed, IsListing}
use Rattle.borsh_json.proofs.leaves.write_numbers.Given as goal

abbrev pub invariant-elements : goal.invariant-elements
invariant-elements l =
    IsIndexed l.index l.initial.rest l.rest
    × ((F : List ℕ → Option Form) (e : List ℕ) (k : Kind) (m : ℕ) → IsPrimitiveKind l.kind k → HasKind F e k → HasSize k l.size → 1 ≤ l.size → length l.initial.rest ≡ m * l.size →
    IsListing F e l.size l.initial.rest l.rest l.index l.fn.out l.out)

abbrev pub decreases-elements : goal.decreases-elements
decreases-elements l = length l.rest
