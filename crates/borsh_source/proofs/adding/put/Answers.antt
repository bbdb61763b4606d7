use Rattle.std.proofs.Common.{Some, ◌∙◌, ap}
use Rattle.std.specs.Prelude.{string_bytes}
use Rattle.borsh_definitions.proofs.Laws.Adding.{found_at, absent_at}
use Rattle.borsh_source.proofs.Added.{added_known, added_new}
use Rattle.borsh_source.proofs.adding.put.Goals as goal

pub returns-then-says_the_same : goal.returns-then-says_the_same
returns-then-says_the_same c =
    let f = found_at c.args.definitions.now c.as_str.result.now (string_bytes c.args.name) c.in-Some.ensures.value c.as_str.ensures.value in
    added_known _ _ _ (f ∙ ap (λ d. Some d) (c.says_the_same.ensures.0 c.if-says_the_same.true))

pub returns : goal.returns
returns c =
    let f = absent_at c.args.definitions.now c.as_str.result.now (string_bytes c.args.name) c.in_default.ensures.value c.as_str.ensures.value in
    added_new c.args.definitions.now c.insert.new.self (string_bytes c.args.name) c.args.definition f c.in_ok-insert.ensures.updates
