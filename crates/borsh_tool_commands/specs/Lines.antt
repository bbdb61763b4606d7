-- Lines of bytes, and of a reader.
use Rattle.std.specs.Prelude.{◌≡◌, ◌⊎◌, ℕ, ◌<◌, Bool, true, false, List, [], ◌∷◌, ◌++◌, length, Some}
use Rattle.std.specs.Io.KnownBytes.{Consumes, IsAtEnd}
use Rattle.borsh_io.specs.Lines.{IsLine}
use Rattle.borsh_io.specs.Stream.{ReaderState}
use Rattle.borsh_io.specs.Buffered.{held, piece, reader_of}
use Rattle.borsh_io.specs.declared.buffered.Buffered.{Buffered}

-- more bytes than a line may have come before the first line feed
abbrev pub IsLong : List ℕ → Type 0
IsLong bytes = (front : List ℕ) × (more : List ℕ) × (bytes ≡ front ++ more) × IsLine front × (268435456 < length front)

-- the bytes begin with this line, which has its line feed unless it is the last one, and others are left
pub record IsFirstLine (line bytes left : List ℕ) : Type 0 where
  pub text : List ℕ
  pub whole : IsLine text
  pub split : bytes ≡ line ++ left
  pub ended : (line ≡ text ++ 10 ∷ []) ⊎ ((line ≡ text) × (0 < length text) × (left ≡ []))

-- the next line of the bytes that are held or still to come; none only where there are no such bytes
pub record NextLine {R : Type 0} (state : R → ReaderState) (old new : Buffered R) (found : Bool) : Type 0 where
  -- the bytes that were read
  pub read : List ℕ
  pub taken : Consumes (state (reader_of old)).bytes (state (reader_of new)).bytes read
  pub some : found ≡ true → (more : List ℕ) → (state (reader_of new)).bytes ≡ Some more → IsFirstLine (piece new) ((held old ++ read) ++ more) (held new ++ more)
  pub none : found ≡ false → (held old ++ read ≡ []) × IsAtEnd (state (reader_of new)).bytes
