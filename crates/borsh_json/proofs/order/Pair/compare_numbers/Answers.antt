use Rattle.std.proofs.Common.{◌≤◌, ◌∙◌, inl, inr, length, refl, subst}
use Rattle.borsh_json.proofs.order.Pair.compare_numbers.Goals as goal

pub returns-in_default : goal.returns-in_default
returns-in_default c = inl (refl, subst (λ n. n ≤ length c.args.self.now.left.now → n ≤ length c.args.self.now.right.now → ⊥) c.from-size.ensures c.in_default.ensures)

pub returns : goal.returns
returns c =
    let t = c.in-Some.ensures in
    inr (c.in-Some.left.now, c.in-Some.right.now, t.0 ∙ c.from-size.ensures, t.1 ∙ c.from-size.ensures, t.2, t.3, t.4, t.5, λ y z h i j e f. c.compare_numbers.ensures c.args.size y z h i j e f)
