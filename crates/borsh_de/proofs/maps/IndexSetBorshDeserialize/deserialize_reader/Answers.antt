use Rattle.borsh_codec.specs.Maps.{unit_entries, key_only}
use Rattle.borsh_codec.proofs.DecodeViews.{decodes_as, made_exit, made_ok}
use Rattle.borsh_codec.proofs.ReadMaps.{reads_inserted, denied_inserted, reads_bare, denied_bare, gathered_bare}
use Rattle.borsh_de.proofs.maps.IndexSetBorshDeserialize.deserialize_reader.Goals as goal

pub returns-in_err-read : goal.returns-in_err-read
returns-in_err-read g c =
    let codec = g.K.BorshType.codec in
    decodes_as (made_exit (λ s. unit_entries s.keys) _ c.from_residual.ensures.1 (λ h. h) (λ p. denied_inserted {item = key_only codec} codec.is_zero_width g.K.PartialEq.eq (denied_bare codec codec.is_zero_width p)) c.in_err-read.ensures)

pub returns : goal.returns
returns g c =
    let codec = g.K.BorshType.codec in
    let made = c.in_ok-collected.field-0 in
    let read = reads_bare codec codec.is_zero_width _ c.in_ok-read.ensures.ok in
    let gathers = gathered_bare g.K.PartialEq.eq c.in_ok-read.read.items made.keys (c.in_ok-collected.ensures tt).0 in
    decodes_as (made_ok (λ s. unit_entries s.keys) (λ h. h) c.in_ok-read.ensures (reads_inserted codec.is_zero_width (unit_entries made.keys) g.met.K.Eq.laws gathers read))
