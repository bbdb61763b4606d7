-- How bytes are handed to C.
use Rattle.std.specs.Prelude.{◌≡◌, ◌≤◌, ◌<◌, ℕ, List, length, take, drop}

-- the bytes have this length, and are the beginning of the room if they fit
pub record IsGiven (bytes room : List ℕ) (needed : ℕ) : Type 0 where
  pub counted : needed ≡ length bytes
  pub copied : needed ≤ length room → take needed room ≡ bytes

-- the room is as it was, but for so many first bytes if they fit
pub record IsKept (old new : List ℕ) (needed : ℕ) : Type 0 where
  pub size : length new ≡ length old
  pub others : needed ≤ length old → drop needed new ≡ drop needed old
  pub unchanged : length old < needed → new ≡ old
