use Rattle.std.proofs.Common.{Some, refl, sym, ◌∙◌, ap}
use Rattle.std.specs.Prelude.{string_bytes, option_map}
use Rattle.std.proofs.lemmas.Bool.Decides.{not_from_Decides}
use Rattle.borsh_definitions.specs.Described.{form_of}
use Rattle.borsh_definitions.proofs.Laws.Adding.{found_at, absent_at}
use Rattle.borsh_schema.proofs.Adding.{joined_known, not_joined_known, found_once, joined_new}
use Rattle.borsh_schema.proofs.definitions.add_definition.Goals as goal

pub returns-then-says_the_same-clause-outcome : goal.returns-then-says_the_same-clause-outcome
returns-then-says_the_same-clause-outcome c =
    let f = found_at c.args.definitions.now c.as_str.result.now (string_bytes c.args.declaration) c.in-Some.ensures.value c.as_str.ensures.value in
    record { ok = joined_known _ _ _ (f ∙ ap Some (c.says_the_same.ensures.0 c.if-says_the_same.true)); err = tt }

pub returns-then-says_the_same-clause-known : goal.returns-then-says_the_same-clause-known
returns-then-says_the_same-clause-known c = λ d h.
    let f = found_at c.args.definitions.now c.as_str.result.now (string_bytes c.args.declaration) c.in-Some.ensures.value c.as_str.ensures.value in
    found_once f h ∙ c.says_the_same.ensures.0 c.if-says_the_same.true

pub returns-in-Some-clause-outcome : goal.returns-in-Some-clause-outcome
returns-in-Some-clause-outcome c =
    let f = found_at c.args.definitions.now c.as_str.result.now (string_bytes c.args.declaration) c.in-Some.ensures.value c.as_str.ensures.value in
    record { ok = tt; err = not_joined_known _ c.args.declaration f (not_from_Decides c.says_the_same.result c.says_the_same.ensures c.if-says_the_same.false) }

pub returns-in-Some-clause-known : goal.returns-in-Some-clause-known
returns-in-Some-clause-known c = λ d h.
    let f = found_at c.args.definitions.now c.as_str.result.now (string_bytes c.args.declaration) c.in-Some.ensures.value c.as_str.ensures.value in
    (refl, λ p. not_from_Decides c.says_the_same.result c.says_the_same.ensures c.if-says_the_same.false (sym (found_once f h) ∙ p))

pub returns-clause-outcome : goal.returns-clause-outcome
returns-clause-outcome c =
    let f = absent_at c.args.definitions.now c.as_str.result.now (string_bytes c.args.declaration) c.in_default.ensures.value c.as_str.ensures.value in
    record { ok = joined_new c.args.definitions.now c.insert.new.self (string_bytes c.args.declaration) c.args.definition f c.in_ok-insert.ensures.updates; err = tt }

pub returns-clause-known : goal.returns-clause-known
returns-clause-known c = λ d h.
    let f = absent_at c.args.definitions.now c.as_str.result.now (string_bytes c.args.declaration) c.in_default.ensures.value c.as_str.ensures.value in
    let g = ap (option_map form_of) f in
    absurd (cc)
