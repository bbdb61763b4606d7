use Rattle.std.proofs.{Common.{◌∙◌, map, string_bytes, sym, codes}, lemmas.Slice.Eq.{bytes_eq-Decides}}
use Rattle.borsh_walks.specs.TupleNames.{following}
use Rattle.borsh_json.proofs.{OrderedLaws.{tuple_named}, UnorderedLaws.{empty_decided, tuple_end, tuple_rest}}
use Rattle.borsh_json.proofs.order.is_tuple_name.Goals as goal

pub returns-in_default : goal.returns-in_default
returns-in_default c =
    let d = bytes_eq-Decides c.args.name.now (codes "()") in
    empty_decided c.args.parts.now c.args.name.now c.eq.result c.in_default.ensures.cases ((λ t. d.0 (sym c.eq.ensures ∙ t)), (λ n. c.eq.ensures ∙ d.1 n))

pub returns-in-Some-behind_parts : goal.returns-in-Some-behind_parts
returns-in-Some-behind_parts c =
    let d = bytes_eq-Decides c.in-Some-behind_parts.rest.now (codes ")") in
    let some = sym c.is_empty.ensures ∙ c.if-is_empty.false in (
      (λ t. tuple_named c.args.parts.now c.in-Some.others.now c.in-Some.first.now c.as_str-first.result.now c.args.name.now c.in-Some-behind.rest.now c.in-Some-behind_parts.rest.now c.in-Some.ensures.cases.0 some c.as_str-first.ensures.value c.in-Some-behind.ensures c.in-Some-behind_parts.ensures (d.0 (sym c.eq-in-Some-behind_parts.ensures ∙ t))),
      (λ n. (let r = tuple_rest c.args.parts.now c.in-Some.others.now c.in-Some.first.now c.as_str-first.result.now c.args.name.now c.in-Some-behind.rest.now c.in-Some.ensures.cases.0 some c.as_str-first.ensures.value c.in-Some-behind.ensures n in
          let e = tuple_end (following (map (λ p. string_bytes p) c.in-Some.others.now)) c.in-Some-behind_parts.rest.now c.in-Some-behind.rest.now c.in-Some-behind_parts.ensures r in
          c.eq-in-Some-behind_parts.ensures ∙ d.1 e)),
    )

pub returns-in-None : goal.returns-in-None
returns-in-None c = (
  (λ t. cc),
  (λ n. absurd (c.in-None.ensures (codes ")") (tuple_rest c.args.parts.now c.in-Some.others.now c.in-Some.first.now c.as_str-first.result.now c.args.name.now c.in-Some-behind.rest.now c.in-Some.ensures.cases.0 (sym c.is_empty.ensures ∙ c.if-is_empty.false) c.as_str-first.ensures.value c.in-Some-behind.ensures n))),
)
