use Rattle.std.proofs.Common.{refl}
use Rattle.borsh_codec.specs.Shapes.{pair}
use Rattle.borsh_codec.proofs.DecodeOutcomes.{decodes_exit_contramap, decodes_made, decodes_pair, decodes_pair_first, decodes_pair_second}
use Rattle.borsh_de.proofs.tuples.Tuple4BorshDeserialize.deserialize_reader.Goals as goal

pub returns-in_err-a : goal.returns-in_err-a
returns-in_err-a g c = decodes_exit_contramap (λ t. (t.0, (t.1, (t.2, t.3)))) _ c.from_residual.ensures.1
    (decodes_pair_first (pair g.B.BorshType.codec (pair g.C.BorshType.codec g.D.BorshType.codec)) _ refl c.in_err-a.ensures)

pub returns-in_err-b : goal.returns-in_err-b
returns-in_err-b g c = decodes_exit_contramap (λ t. (t.0, (t.1, (t.2, t.3)))) _ c.from_residual-in_err-b.ensures.1
    (decodes_pair_second _ g.met.A.BorshType.lawful c.in_ok-a.ensures refl
    (decodes_pair_first (pair g.C.BorshType.codec g.D.BorshType.codec) _ refl c.in_err-b.ensures))

pub returns-in_err-c : goal.returns-in_err-c
returns-in_err-c g c = decodes_exit_contramap (λ t. (t.0, (t.1, (t.2, t.3)))) _ c.from_residual-in_err-c.ensures.1
    (decodes_pair_second _ g.met.A.BorshType.lawful c.in_ok-a.ensures refl
    (decodes_pair_second _ g.met.B.BorshType.lawful c.in_ok-b.ensures refl
    (decodes_pair_first g.D.BorshType.codec _ refl c.in_err-c.ensures)))

pub returns-in_err-d : goal.returns-in_err-d
returns-in_err-d g c = decodes_exit_contramap (λ t. (t.0, (t.1, (t.2, t.3)))) _ c.from_residual-in_err-d.ensures.1
    (decodes_pair_second _ g.met.A.BorshType.lawful c.in_ok-a.ensures refl
    (decodes_pair_second _ g.met.B.BorshType.lawful c.in_ok-b.ensures refl
    (decodes_pair_second _ g.met.C.BorshType.lawful c.in_ok-c.ensures refl c.in_err-d.ensures)))

pub returns : goal.returns
returns g c = decodes_made (λ t. (t.0, (t.1, (t.2, t.3)))) refl
    (decodes_pair c.in_ok-a.ensures (decodes_pair c.in_ok-b.ensures (decodes_pair c.in_ok-c.ensures c.in_ok-d.ensures)))
