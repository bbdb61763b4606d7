use Rattle.std.specs.Map.Iter.{deref_pair}
use Rattle.borsh_codec.specs.Maps.{hash_entries}
use Rattle.borsh_codec.specs.Shapes.{pair}
use Rattle.borsh_ser.proofs.ItemLengths.{tells_allowed, tells_sorted}
use Rattle.borsh_ser.proofs.Items.{tells_first}
use Rattle.borsh_ser.proofs.hashed.HashMapBorshSerialize.encoded_length.Goals as goal

pub returns : goal.returns
returns g c =
    let k = g.K.BorshType.codec in
    let v = g.V.BorshType.codec in
    let item = pair k v in
    let es = c.args.self.now.entries in
    let r = c.keyed_length.result in
    tells_allowed k.is_zero_width (hash_entries g.K.Ord.cmp v.equivalent item) es r c.keyed_length.ensures.keys
    (tells_sorted g.met.K.Ord.total g.K.PartialEq.eq g.met.K.Ord.matches_eq item es r c.len.ensures.unique (tells_first r deref_pair item _ es c.iter.ensures.rest c.len.ensures.len c.keyed_length.ensures.items))
