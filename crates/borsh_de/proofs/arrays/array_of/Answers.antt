use Rattle.borsh_de.proofs.ArrayPieces.{parts_of_array, array_gets}
use Rattle.borsh_de.proofs.arrays.array_of.Goals as goal

pub returns-in_err-width : goal.returns-in_err-width
returns-in_err-width g c = rw c.from_residual.ensures (record { value = λ f. (let p = parts_of_array g.T.BorshType.codec g.row.N _ f in c.in_err-width.ensures.none p.0 p.1); made = tt })

pub returns : goal.returns
returns g c = array_gets (λ s. s.width) (λ s. s.rest.now) g.T.BorshType.codec _ c.array_from.result c.ok.result c.in_ok-width.ensures.some c.array_from.ensures.ok c.array_from.ensures.err c.ok.ensures.value
