use Rattle.borsh_codec.specs.Shapes.{pair}
use Rattle.borsh_codec.specs.Maps.{btree_entries}
use Rattle.borsh_codec.proofs.LengthSteps.{tells_is}
use Rattle.borsh_codec.proofs.WriteMaps.{btree_written}
use Rattle.borsh_ser.proofs.ItemLengths.{tells_allowed}
use Rattle.borsh_ser.proofs.Items.{tells_first}
use Rattle.borsh_ser.proofs.maps.BTreeMapBorshSerialize.encoded_length.Goals as goal

pub returns : goal.returns
returns g c =
    let k = g.K.BorshType.codec in
    let r = c.keyed_length.result in
    let item = pair k g.V.BorshType.codec in
    tells_allowed k.is_zero_width (btree_entries g.K.Ord.cmp item) c.args.self.now.entries r c.keyed_length.ensures.keys
    (tells_is r (btree_written item g.K.Ord.cmp c.args.self.now.entries c.len.ensures.ordered) (tells_first r (λ p. (p.0.now, p.1.now)) item _ c.args.self.now.entries c.iter.ensures.rest c.len.ensures.len c.keyed_length.ensures.items))
