use Rattle.std.proofs.Common.{sym, subst}
use Rattle.std.specs.Bool.{⊤}
use Rattle.std.specs.List.{IsDistinct}
use Rattle.std.specs.Ordering.{eq_by_cmp}
use Rattle.borsh_codec.specs.Maps.{unit_entries}
use Rattle.borsh_codec.proofs.DecodeViews.{decodes_as, made_exit, made_ok}
use Rattle.borsh_codec.proofs.ReadMaps.{reads_sorted, denied_sorted, set_values, members_from_eq, distinct_from_eq, keys-bare_entries}
use Rattle.borsh_de.proofs.maps.HashSetBorshDeserialize.deserialize_reader.Goals as goal

pub returns-in_err-read : goal.returns-in_err-read
returns-in_err-read g c =
    let codec = g.K.BorshType.codec in
    decodes_as (made_exit (λ s. unit_entries s.keys) _ c.from_residual.ensures.1 (λ h. h) (denied_sorted codec.is_zero_width (λ v w. ⊤)) c.in_err-read.ensures)

pub returns : goal.returns
returns g c =
    let codec = g.K.BorshType.codec in
    let made = c.in_ok-collected.field-0 in
    let members = members_from_eq g.K.PartialEq.eq g.K.Ord.cmp g.met.K.Ord.matches_eq c.in_ok-read.read.items made.keys (c.in_ok-collected.ensures tt).0 in
    let values = set_values g.met.K.Ord.total c.in_ok-read.read.items made.keys members in
    let apart = subst (IsDistinct (eq_by_cmp g.K.Ord.cmp)) (sym (keys-bare_entries made.keys)) (distinct_from_eq g.K.PartialEq.eq g.K.Ord.cmp g.met.K.Ord.matches_eq made.keys (c.in_ok-collected.ensures tt).1) in
    decodes_as (made_ok (λ s. unit_entries s.keys) (λ h. h) c.in_ok-read.ensures (reads_sorted codec.is_zero_width (λ v w. ⊤) (unit_entries made.keys) g.met.K.Ord.total values apart c.in_ok-read.ensures.ok))
