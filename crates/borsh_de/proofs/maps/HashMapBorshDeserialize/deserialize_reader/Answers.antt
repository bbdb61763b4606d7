use Rattle.std.specs.Map.{keys_of}
use Rattle.borsh_codec.proofs.DecodeViews.{decodes_as, made_exit, made_ok}
use Rattle.borsh_codec.proofs.ReadMaps.{last_values_from_eq, distinct_from_eq, reads_sorted, denied_sorted}
use Rattle.borsh_de.proofs.maps.HashMapBorshDeserialize.deserialize_reader.Goals as goal

pub returns-in_err-read : goal.returns-in_err-read
returns-in_err-read g c =
    let codec = g.K.BorshType.codec in
    decodes_as (made_exit (λ m. m.entries) _ c.from_residual.ensures.1 (λ h. h) (denied_sorted codec.is_zero_width g.V.BorshType.codec.equivalent) c.in_err-read.ensures)

pub returns : goal.returns
returns g c =
    let codec = g.K.BorshType.codec in
    let made = c.in_ok-collected.field-0 in
    let values = last_values_from_eq g.K.PartialEq.eq g.K.Ord.cmp g.met.K.Ord.matches_eq c.in_ok-read.read.items made.entries (c.in_ok-collected.ensures tt).0 in
    let apart = distinct_from_eq g.K.PartialEq.eq g.K.Ord.cmp g.met.K.Ord.matches_eq (keys_of made.entries) (c.in_ok-collected.ensures tt).1 in
    decodes_as (made_ok (λ m. m.entries) (λ h. h) c.in_ok-read.ensures (reads_sorted codec.is_zero_width g.V.BorshType.codec.equivalent made.entries g.met.K.Ord.total values apart c.in_ok-read.ensures.ok))
