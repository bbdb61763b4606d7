-- Bytes that are read over those of a slice.
use Rattle.std.proofs.Common.{◌≡◌, List, ℕ, length, Result, Ok, Err}
use Rattle.borsh_io.specs.declared.error.Error.{Error}
use Rattle.borsh_io.specs.Stream.{ReaderState}
use Rattle.borsh_codec.specs.RawBytes.{FillsBuffer}
use Rattle.borsh_codec.specs.Shapes.{unsigned}
use Rattle.borsh_codec.proofs.ReadBytes.{reads_byte_row, denied_byte_row}
use Rattle.borsh_de.specs.FixedWidth.{DecodesOver}

-- bytes that fill the slice are its values
pub over_filled : {R : Type 0} {state : R → ReaderState} {a b : R} {before after : List ℕ} (r : Result (Unit {0}) Error) → length after ≡ length before → FillsBuffer state a b before after r → DecodesOver (unsigned 1) state a b before after r
over_filled (Ok u) same f = record { ok = reads_byte_row same f.fits f.ok; err = tt }
over_filled (Err e) same f = record { ok = tt; err = denied_byte_row f.err }
