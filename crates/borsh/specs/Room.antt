-- How many bytes a list takes, and which bytes a slice takes.
use Rattle.std.specs.Prelude.{◌≡◌, ℕ, ◌+◌, ◌≤◌, Bool, false, List, length, Some, Result, IsOk}
use Rattle.borsh_io.specs.declared.error.Error.{Error}
use Rattle.borsh_io.specs.Sink.{overwriting}
use Rattle.borsh_codec.specs.Codec.{Codec}
use Rattle.borsh_codec.specs.Shapes.{list}
use Rattle.borsh_codec.specs.Writing.{Writes}

-- bytes that decode to a list are four, for its count, and one or more for each element
abbrev pub TakesAByteEach : {A : Type 0} → Codec A → Type 0
TakesAByteEach {A = A} c = (strict : Bool) (bytes : List ℕ) (items : List A) → (list c).decodes strict bytes items → 4 + length items ≤ length bytes

-- a call that is to write a value over the front of a slice does so, if the encoding is there and fits, and encoding doesn't allocate
abbrev pub FitsIntoRoom : {A W : Type 0} → Codec A → (W → List ℕ) → Type 0
FitsIntoRoom {A = A} {W = W} c room = (v : A) (bytes : List ℕ) (old new : W) (result : Result (Unit {0}) Error) → c.encoding_allocates ≡ false → c.encoding v ≡ Some bytes → length bytes ≤ length (room old)
    → Writes c v (overwriting room) old new result → IsOk result
