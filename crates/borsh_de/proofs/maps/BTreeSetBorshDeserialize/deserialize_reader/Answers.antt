use Rattle.std.proofs.Common.{sym, subst}
use Rattle.std.specs.List.Sorted.{IsStrictlySortedBy}
use Rattle.borsh_codec.specs.Maps.{unit_entries}
use Rattle.borsh_codec.proofs.DecodeViews.{decodes_as, made_exit, made_ok}
use Rattle.borsh_codec.proofs.ReadMaps.{reads_ordered, denied_ordered, set_values, keys-bare_entries}
use Rattle.borsh_de.proofs.maps.BTreeSetBorshDeserialize.deserialize_reader.Goals as goal

pub returns-in_err-read : goal.returns-in_err-read
returns-in_err-read g c =
    let codec = g.K.BorshType.codec in
    decodes_as (made_exit (λ s. unit_entries s.keys) _ c.from_residual.ensures.1 (λ h. h) (denied_ordered codec.is_zero_width) c.in_err-read.ensures)

pub returns : goal.returns
returns g c =
    let codec = g.K.BorshType.codec in
    let made = c.in_ok-collected.field-0 in
    let values = set_values g.met.K.Ord.total c.in_ok-read.read.items made.keys (c.in_ok-collected.ensures tt).0 in
    let up = subst (IsStrictlySortedBy g.K.Ord.cmp) (sym (keys-bare_entries made.keys)) (c.in_ok-collected.ensures tt).1 in
    decodes_as (made_ok (λ s. unit_entries s.keys) (λ h. h) c.in_ok-read.ensures (reads_ordered codec.is_zero_width (unit_entries made.keys) g.met.K.Ord.total values up c.in_ok-read.ensures.ok))
