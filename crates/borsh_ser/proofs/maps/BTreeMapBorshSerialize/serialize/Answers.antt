use Rattle.borsh_codec.specs.Shapes.{pair}
use Rattle.borsh_codec.specs.Maps.{btree_entries}
use Rattle.borsh_codec.proofs.WriteOutcomes.{writes_is, writes_allowed_if}
use Rattle.borsh_codec.proofs.WriteMaps.{btree_written}
use Rattle.borsh_ser.proofs.Items.{writes_first, refused_exit}
use Rattle.borsh_ser.proofs.maps.BTreeMapBorshSerialize.serialize.Goals as goal

pub returns-in_err-refuse_empty : goal.returns-in_err-refuse_empty
returns-in_err-refuse_empty g c =
    let k = g.K.BorshType.codec in
    refused_exit g.met.W.Write.lawful k.is_zero_width (btree_entries g.K.Ord.cmp (pair k g.V.BorshType.codec)) c.args.self.now.entries _ _ c.from_residual.ensures.1 c.in_err-refuse_empty.ensures

pub returns : goal.returns
returns g c =
    let k = g.K.BorshType.codec in
    writes_allowed_if k.is_zero_width (btree_entries g.K.Ord.cmp (pair k g.V.BorshType.codec)) c.args.self.now.entries c.in_ok-refuse_empty.ensures
    (writes_is (btree_written (pair k g.V.BorshType.codec) g.K.Ord.cmp c.args.self.now.entries c.len.ensures.ordered) (writes_first (λ p. (p.0.now, p.1.now)) (pair k g.V.BorshType.codec) _ c.args.self.now.entries c.iter.ensures.rest c.len.ensures.len c.write_items.ensures))
