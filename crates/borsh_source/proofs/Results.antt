-- Results that are handed on.
use Rattle.std.proofs.Common.{◌≡◌, ℕ, List, [], Some, None, subst, Ok, Err, Bool, true, false}
use Rattle.std.specs.Prelude.{Result, MatchResult, Option}
use Rattle.borsh_source.specs.Views.{Stands}
use Rattle.borsh_source.specs.Numbers.{Evaluates}
use Rattle.borsh_source.specs.Meaning.{IsDiscriminant}
use Rattle.borsh_source.specs.declared.tree.Source.{Source}
use Rattle.borsh_source.specs.declared.tree.Parameter.{Parameter}

pub ok_map : {T E : Type 0} {P Q : T → Type 0} (R : E → Type 0) (r : Result T E) → ((x : T) → P x → Q x) → MatchResult r P R → MatchResult r Q R
ok_map R (Ok x) f h = f x h
ok_map R (Err e) f h = h

-- outside of an item there are no parameters
pub evaluates_outside : (S : Source) (ps : List Parameter) (gs : List Stands) (e n : ℕ) → ps ≡ [] → gs ≡ [] → Evaluates S ps gs e n → Evaluates S [] [] e n
evaluates_outside S ps gs e n p q h = subst (λ z. Evaluates S [] z e n) q (subst (λ z. Evaluates S z gs e n) p h)

pub explicit_discriminant : (S : Source) (d : Option ℕ) (x : Bool) (e next tag : ℕ) → d ≡ Some e → x ≡ true → Evaluates S [] [] e tag → IsDiscriminant S d x next tag
explicit_discriminant S None x e next tag p q h = cc
explicit_discriminant S (Some f) true e next tag p q h = let k : e ≡ f = cc in subst (λ z. Evaluates S [] [] z tag) k h
explicit_discriminant S (Some f) false e next tag p q h = cc
