use Rattle.std.proofs.Common.{inr, subst}
use Rattle.std.specs.Prelude.{string_bytes}
use Rattle.borsh_walks.specs.Definitions.{definitions_in as shapes_in}
use Rattle.borsh_walks.specs.RulesAnswer.{RulesFault}
use Rattle.borsh_source.specs.Container.{IsMeaning, definitions_so_far}
use Rattle.borsh_source.proofs.compiling.compile.Goals as goal

pub returns-clause-told : goal.returns-clause-told
returns-clause-told c =
    let d = c.in_ok-declaration.declaration in
    let o = c.in_ok-declaration.output in
    inr (record {
      container = record { declaration = d; definitions = o.definitions };
      is = subst (λ s. IsMeaning s c.args.root (string_bytes d) (definitions_so_far o)) c.in_ok-context.ensures.1 c.in_ok-declaration.ensures;
      fault = c.in-Err.error;
      broken = subst (λ n. RulesFault (shapes_in o.definitions) n c.in-Err.error) c.as_str.ensures.value c.in-Err.ensures;
      says = c.in_ok-broken-in-Err.ensures;
    })
