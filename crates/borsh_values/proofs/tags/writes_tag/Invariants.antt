use Rattle.std.proofs.Common.{◌≡◌, ◌-◌, length, drop}
use Rattle.borsh_values.specs.Tags.{tag_from}
use Rattle.borsh_values.proofs.tags.writes_tag.Given as goal

abbrev pub invariant-loop-b : goal.invariant-loop-b
invariant-loop-b l = record {
  forth : tag_from l.negative (length l.bytes) l.number ≡ l.bytes → tag_from l.negative (length l.bytes - l.b-index) l.left ≡ drop l.b-index l.bytes;
  back : tag_from l.negative (length l.bytes - l.b-index) l.left ≡ drop l.b-index l.bytes → tag_from l.negative (length l.bytes) l.number ≡ l.bytes;
}
