use Rattle.borsh_codec.proofs.DecodeViews.{decodes_as, made_exit, made_ok}
use Rattle.borsh_codec.proofs.ReadMaps.{reads_inserted, denied_inserted}
use Rattle.borsh_de.proofs.maps.IndexMapBorshDeserialize.deserialize_reader.Goals as goal

pub returns-in_err-read : goal.returns-in_err-read
returns-in_err-read g c =
    let codec = g.K.BorshType.codec in
    decodes_as (made_exit (λ m. m.entries) _ c.from_residual.ensures.1 (λ h. h) (denied_inserted codec.is_zero_width g.K.PartialEq.eq) c.in_err-read.ensures)

pub returns : goal.returns
returns g c =
    let codec = g.K.BorshType.codec in
    let made = c.in_ok-collected.field-0 in
    decodes_as (made_ok (λ m. m.entries) (λ h. h) c.in_ok-read.ensures (reads_inserted codec.is_zero_width made.entries g.met.K.Eq.laws (c.in_ok-collected.ensures tt).0 c.in_ok-read.ensures.ok))
