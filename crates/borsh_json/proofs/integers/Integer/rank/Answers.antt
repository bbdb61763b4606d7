use Rattle.std.proofs.Common.{◌∙◌, true, false, ap, subst, sym}
use Rattle.borsh_json.specs.{Integers.{signed_as}, Table.{InRange}, Ranks.{rank_of}}
use Rattle.borsh_json.proofs.IntegerLaws.{negative_rank, positive_rank}
use Rattle.borsh_json.proofs.integers.Integer.rank.Goals as goal

pub returns-then-self : goal.returns-then-self
returns-then-self c = λ n h r.
    let i = c.args.self.now in
    let signed = c.args.is_signed in
    let t = c.if-self.true in
    negative_rank n signed i.magnitude h (subst (λ b. InRange n signed (signed_as b i.magnitude)) t r) ∙ ap (λ b. rank_of signed (signed_as b i.magnitude)) (sym t)

pub returns-then-is_signed : goal.returns-then-is_signed
returns-then-is_signed c = λ n h r.
    let i = c.args.self.now in
    let t = c.if-self.false in
    let s = c.if-is_signed.true in
    positive_rank n i.magnitude h (subst (λ b. InRange n b (signed_as false i.magnitude)) s (subst (λ b. InRange n c.args.is_signed (signed_as b i.magnitude)) t r))
    ∙ ap (λ b. rank_of true (signed_as b i.magnitude)) (sym t) ∙ ap (λ s. rank_of s (signed_as i.is_negative i.magnitude)) (sym s)
