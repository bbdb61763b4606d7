use Rattle.std.proofs.Common.{◌≡◌, ◌⊎◌, inr, ℕ, List, MatchResult, subst, sym, Result, Ok, Err}
use Rattle.borsh_walks.specs.Definitions.{definitions_in}
use Rattle.borsh_json.specs.{Errors.{IsNoJsonReason}, Forms.{forms_in}, InOrder.{TextRepresents}, NoValue.{IsGivenUp}}
use Rattle.borsh_json.proofs.laws.json_gives_back.Goals as goal

or_else : {A E : Type 0} (P : A → Type 0) (Q R : E → Type 0) (r : Result A E) → MatchResult r P Q → MatchResult r P (λ e. R e ⊎ Q e)
or_else P Q R (Ok a) m = m
or_else P Q R (Err e) m = inr m

pub returns : goal.returns
returns c =
    let bytes = c.args.bytes.now in
    let r = subst (λ (text : List ℕ). TextRepresents (forms_in c.args.map.now) c.args.root.now text bytes) (sym c.as_str.ensures.value) c.in_ok-text.ensures.says in
    or_else (λ back. back.items ≡ bytes) (λ e. IsGivenUp e) (λ e. IsNoJsonReason (definitions_in c.args.map.now) c.args.root.now bytes e) c.from_json.result (c.from_json.ensures.answers bytes r)
