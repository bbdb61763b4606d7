use Rattle.std.proofs.Common.{arith, ◌∷◌, [], ◌+◌, length, refl, ap, ◌∙◌, length-append, ◌++◌, ◌≡◌}
use Rattle.borsh_codec.proofs.DecodeViews.{as_err}
use Rattle.borsh_codec.proofs.ReadRows.{row_more, denied_listed}
use Rattle.borsh_de.proofs.lists.read_elements.Goals as goal
use Rattle.borsh_de.proofs.lists.read_elements.Goals.{then-len-capacity+in_ok-items-2, else-len-capacity}

pub returns-in_err-deserialize_reader : goal.returns-in_err-deserialize_reader
returns-in_err-deserialize_reader g c =
    let i = c.loop-i.invariant in
    as_err _ c.from_residual-in_err-deserialize_reader.ensures.1 refl (denied_listed g.met.T.BorshType.lawful i.so_far (omega (arith, i.long)) c.in_err-deserialize_reader.ensures.err)

pub loop-i-preserved : goal.loop-i-preserved
loop-i-preserved g c =
    let i = c.loop-i.invariant in
    let kept : c.if-len-capacity.items.items ≡ c.loop-i.items.items = elim c.if-len-capacity.branch [ then-len-capacity+in_ok-items-2 w ↦ ap (λ v. v.items) w.items-is ∙ w.in_ok-items-2.ensures.items | else-len-capacity w ↦ ap (λ v. v.items) w.items-is ] in
    let pushed = c.push_reserved.ensures.items ∙ ap (λ xs. xs ++ (c.in_ok-deserialize_reader.field-0 ∷ [])) kept in
    record {
      so_far = rw pushed (row_more i.so_far c.in_ok-deserialize_reader.ensures.ok);
      long = ap length pushed ∙ length-append c.loop-i.items.items (c.in_ok-deserialize_reader.field-0 ∷ []) ∙ ap (λ n. n + 1) i.long;
    }
