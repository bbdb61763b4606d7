use Rattle.std.proofs.{Common.{sym, ◌∙◌, arith}, lemmas.Nat.{le_bytes_8}}
use Rattle.borsh_json.proofs.{FloatLaws.{shortest_8}, NumberLaws.{low_whole}}
use Rattle.borsh_json.proofs.floats.shortest.Goals as goal

pub returns-in-len8-clause-float : goal.returns-in-len8-clause-float
returns-in-len8-clause-float c =
    let v = c.from_le_bytes-bits-in-len8.result in
    let bs = c.args.bytes.now in
    let e = sym (le_bytes_8 bs v (omega arith) (λ i. omega (arith, c.type_inv.bytes i)) c.from_le_bytes-bits-in-len8.ensures) ∙ low_whole 8 v in
    λ f l. shortest_8 f bs v c.f64_from_bits_with_nan.result c.text_of-in-len8.result (omega arith) l e (omega arith) c.f64_from_bits_with_nan.ensures c.text_of-in-len8.ensures.float
