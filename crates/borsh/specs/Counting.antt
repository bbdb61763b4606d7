-- A writer that counts.
use Rattle.std.specs.Prelude.{◌≡◌, ℕ, ◌+◌, ◌-◌, ◌^◌, min, false, length}
use Rattle.std.proofs.Common.{arith, length-append}
use Rattle.borsh_io.specs.Sink.{WriterModel, WriterLaws, no_faults}
use Rattle.borsh.specs.declared.length.LengthWriter.{LengthWriter}

abbrev pub counted_bytes : LengthWriter → ℕ
counted_bytes w = w.len

-- the count rises by what is written; at its greatest value it stays
abbrev pub counting : WriterModel LengthWriter
counting = record {
  wrote = λ a b xs. min b.len (2 ^ 128 - 1) ≡ min (a.len + length xs) (2 ^ 128 - 1);
  sink = λ _. no_faults false;
  allocates = false;
}

pub counting-laws : WriterLaws LengthWriter counting
counting-laws = record {
  none = λ a. omega arith;
  more = λ a b c x y p q. omega (arith, p, q, length-append x y);
}
