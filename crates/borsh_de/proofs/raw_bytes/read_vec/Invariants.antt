-- Bytes were read, and no more than were announced.
use Rattle.std.proofs.Common.{ℕ, get_or, ◌≡◌, ◌<◌, ◌≤◌, ◌-◌, length}
use Rattle.borsh_codec.specs.Reading.{TakesPrefix}
use Rattle.borsh_de.proofs.raw_bytes.read_vec.Given as goal

abbrev pub invariant-bytes : goal.invariant-bytes
invariant-bytes g l = record {
  took : TakesPrefix (λ x. x ≡ l.bytes.items) (g.R.Read.stream l.fn.reader) (g.R.Read.stream l.reader);
  few : length l.bytes.items ≤ l.len;
  fit : (i : ℕ) → get_or l.bytes.items i 0 < 256;
  some : 0 < l.len → 0 < length l.bytes.items;
}

abbrev pub decreases-bytes : goal.decreases-bytes
decreases-bytes g l = l.len - length l.bytes.items
