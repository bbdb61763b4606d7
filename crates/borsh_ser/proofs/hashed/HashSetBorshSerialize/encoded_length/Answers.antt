use Rattle.std.specs.Bool.{⊤}
use Rattle.borsh_codec.specs.Maps.{hash_entries, key_only, unit_entries}
use Rattle.borsh_ser.proofs.ItemLengths.{tells_allowed, tells_sorted_keys}
use Rattle.borsh_ser.proofs.Items.{tells_first}
use Rattle.borsh_ser.proofs.hashed.HashSetBorshSerialize.encoded_length.Goals as goal

pub returns : goal.returns
returns g c =
    let k = g.K.BorshType.codec in
    let ks = c.args.self.now.keys in
    let r = c.keyed_length.result in
    tells_allowed k.is_zero_width (hash_entries g.K.Ord.cmp (λ v w. ⊤) (key_only k)) (unit_entries ks) r c.keyed_length.ensures.keys
    (tells_sorted_keys g.met.K.Ord.total g.K.PartialEq.eq g.met.K.Ord.matches_eq k ks r c.len.ensures.unique (tells_first r (λ p. p.now) k _ ks c.iter.ensures.rest c.len.ensures.len c.keyed_length.ensures.items))
