use Rattle.std.proofs.Common.{◌≡◌, ◌*◌, ◌∙◌, Bool, true, false, cond, eqb, ℕ, Some, ap, sym, refl}
use Rattle.std.proofs.lemmas.Bool.{eq-eqb, eqb-true}
use Rattle.borsh_plan.specs.Names.{name_at}
use Rattle.borsh_plan.specs.Sizes.{fitting}
use Rattle.borsh_plan.proofs.sizes.size_of_array.Goals as goal

other : (a b n : ℕ) (t : Bool) → eqb a b ≡ t → (a ≡ b → ⊥) → 0 ≡ cond t n 0
other a b n true e f = absurd (f (eqb-true a b e))
other a b n false e f = refl

pub returns-then-start-end : goal.returns-then-start-end
returns-then-start-end c = λ P e sizes first. other c.args.start c.args.end (fitting (c.args.start * P e)) (eqb c.args.start c.args.end) refl c.if-start-end.true

pub returns-in-Some : goal.returns-in-Some
returns-in-Some c = λ P e sizes first.
    let ns = c.args.names.now.names.items in
    let h = c.in-Some.ensures.place in
    let s : Some (name_at ns c.in-Some.part) ≡ Some e = sym h.1 ∙ first in
    let q : name_at ns c.in-Some.part ≡ e = cc in
    c.product.ensures.fitting ∙ ap (λ n. fitting (c.args.start * n)) (c.size_at.ensures ∙ sizes c.in-Some.part h.0 ∙ ap (λ x. P x) q) ∙ sym (ap (λ t. cond t (fitting (c.args.start * P e)) 0) (eq-eqb c.args.start c.args.end c.if-start-end.false))

pub returns-in-None : goal.returns-in-None
returns-in-None c = λ P e sizes first. (let h = sym c.in-None.ensures.place ∙ first in cc)
