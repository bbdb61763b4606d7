use Rattle.std.proofs.Common.{List, Option, Result, Ok, Err, ◌∙◌}
use Rattle.std.specs.Result.{IfOk}
use Rattle.std.specs.Iterator.{DrainsIf}
use Rattle.std.proofs.lemmas.Iterator.{YieldsList}
use Rattle.std.proofs.lemmas.Iterator.Adapters.{fact_from_collect, YieldsList-from_vec}
use Rattle.borsh_de.proofs.maps.collected.Goals as goal

of_all : {S A V E : Type 0} {steps : S → Option A → S → Type 0} {s : S} {all : List A} (W : V → Type 0) (Q : List A → V → Type 0) (r : Result V E) → IfOk r (λ v. (xs : List A) × DrainsIf steps (W v) s xs × Q xs v) → YieldsList steps (λ x. x) s all → IfOk r (λ v. W v → Q all v)
of_all {E = E} W Q (Ok v) ran road = λ w. fact_from_collect {E = E} Q (Ok v) (ran.0, (ran.1.0, ran.1.1, λ _. ran.1.2 w), ran.2) road
of_all W Q (Err e) ran road = tt

pub returns : goal.returns
returns g c = of_all _ _ _ c.collect.ensures.ran (YieldsList-from_vec _ c.into_iter.ensures.rest (c.into_iter.ensures.len ∙ c.args.items.ok.0))
