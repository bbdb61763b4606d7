use Rattle.std.proofs.Common.{◌≡◌}
use Rattle.borsh_json.specs.Writes.{IsWritingAt}
use Rattle.borsh_json.proofs.writing.write_value.Given as goal

abbrev pub invariant-loop : goal.invariant-loop
invariant-loop l = IsWritingAt l.fn.json l.writing l.writing.position.place × (l.writing.bytes.now ≡ l.fn.bytes)
