use Rattle.borsh_codec.specs.Maps.{btree_entries, key_only, unit_entries}
use Rattle.borsh_codec.proofs.LengthSteps.{tells_is}
use Rattle.borsh_codec.proofs.WriteMaps.{btree_set_written}
use Rattle.borsh_ser.proofs.ItemLengths.{tells_allowed}
use Rattle.borsh_ser.proofs.Items.{tells_first}
use Rattle.borsh_ser.proofs.maps.BTreeSetBorshSerialize.encoded_length.Goals as goal

pub returns : goal.returns
returns g c =
    let k = g.K.BorshType.codec in
    let r = c.keyed_length.result in
    tells_allowed k.is_zero_width (btree_entries g.K.Ord.cmp (key_only k)) (unit_entries c.args.self.now.keys) r c.keyed_length.ensures.keys
    (tells_is r (btree_set_written k g.K.Ord.cmp c.args.self.now.keys c.len.ensures.ordered) (tells_first r (λ p. p.now) k _ c.args.self.now.keys c.iter.ensures.rest c.len.ensures.len c.keyed_length.ensures.items))
