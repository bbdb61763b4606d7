use Rattle.std.proofs.Common.{rules, ◌≡◌, length, refl, sym}
use Rattle.borsh_codec.proofs.Laws.Rows.{row_is}
use Rattle.borsh_codec.proofs.WriteOutcomes.{writes_is}
use Rattle.borsh_ser.proofs.arrays.ArrayBorshSerialize.serialize.Goals as goal

pub returns : goal.returns
returns g c =
    let long : length c.args.self.now ≡ g.row.N = search rules in
    writes_is (sym (row_is g.row.N g.met.T.BorshType.lawful c.args.self.now long refl)) c.write_elements.ensures
