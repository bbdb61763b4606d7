-- What is read of bytes that may be a value.
use Rattle.std.specs.Prelude.{◌≡◌, ◌++◌, ℕ, List, Option}
use Rattle.borsh_walks.specs.Container.{Shape, Member}

-- all bytes were read; or the first of bytes that are no member of the root, and are none themselves
pub data IsRead (C : List ℕ → Option Shape) (root all read : List ℕ) : Type 0 where
  whole : read ≡ all → IsRead C root all read
  front : (more : List ℕ) → all ≡ read ++ more → (Member C root read → ⊥) → (Member C root all → ⊥) → IsRead C root all read
