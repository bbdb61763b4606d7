use Rattle.std.proofs.Common.{◌≡◌, ◌∙◌, arith, inl, inr, sym, ap, List, ℕ, Vec}
use Rattle.std.specs.Prelude.{slice_get}
use Rattle.std.specs.Global.{Global}
use Rattle.std.proofs.lemmas.Bool.{cases_lt}
use Rattle.std.proofs.lemmas.Option.{slice_get_within}
use Rattle.borsh_compare.proofs.Found.{not_last}
use Rattle.borsh_compare.proofs.alike.apart.Goals as goal
use Rattle.borsh_compare.proofs.alike.apart.Goals.{then-not-branch+in_ok-push, else-not-branch}

pub loop-index-preserved : goal.loop-index-preserved
loop-index-preserved c = λ e i p low there.
    let items : Vec ℕ Global → List ℕ = λ v. v.items in
    elim c.if-not-branch.branch [
      | then-not-branch+in_ok-push w ↦ absurd (not_last c.loop-index.found.items c.loop-index.index (sym w.in_ok-push.ensures.items ∙ ap items (sym w.found-is) ∙ e))
      | else-not-branch w ↦ elim (cases_lt i c.loop-index.index) [
        | inl h ↦ c.loop-index.invariant (ap items (sym w.found-is) ∙ e) i p h there
        | inr h ↦ (let z : i ≡ c.loop-index.index = omega (arith, low, h) in c.in_ok-pair_alike.ensures w.if-not-branch.false p (ap (λ m. slice_get c.args.pairs.now.list.items m) (sym z) ∙ there))
      ]
    ]

pub returns : goal.returns
returns c = λ e i p there. c.loop-index.invariant e i p (let a = slice_get_within c.args.pairs.now.list.items i p there in let t = c.loop-index-test.false in let l = c.len-index-end.ensures in omega (arith, a, t, l)) there
