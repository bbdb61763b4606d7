use Rattle.std.proofs.Common.{◌≡◌, ◌∙◌, ap, take, sym, pos}
use Rattle.borsh_json.specs.Ranks.{rank_of}
use Rattle.borsh_json.proofs.{NumberLaws.{rank_bytes}, numbers.Number.of_rank.Goals.{then-self, else-self}}
use Rattle.borsh_json.proofs.numbers.Number.of_rank.Goals as goal

pub returns : goal.returns
returns c = λ text h q.
    let n = c.args.self.now in
    let t : c.if-self.turned ≡ rank_of n.is_signed (pos 0) = elim c.if-self.branch [
      | then-self w ↦ w.turned-is ∙ ap (λ b. rank_of b (pos 0)) (sym w.if-self.true)
      | else-self w ↦ w.turned-is ∙ ap (λ b. rank_of b (pos 0)) (sym w.if-self.false)
    ] in
    (q.0, q.1, ap (λ l. take n.size l) c.to_le_bytes.ensures ∙ rank_bytes n.size n.is_signed q.0 c.args.rank c.if-self.turned h q.2 q.4 t, q.2, q.3)
