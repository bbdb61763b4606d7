use Rattle.std.proofs.Common.{◌≡◌, ◌≤◌, length, map, drop}
use Rattle.borsh_values.specs.Tags.{byte_as, number_of}
use Rattle.borsh_json.proofs.integers.magnitude_in.Given as goal

abbrev pub invariant-loop-place : goal.invariant-loop-place
invariant-loop-place l = record { within : l.place ≤ length l.bytes; value : length l.bytes ≤ 16 → l.value ≡ number_of (map (byte_as l.is_negative) (drop l.place l.bytes)) }

abbrev pub decreases-loop-place : goal.decreases-loop-place
decreases-loop-place l = l.place
