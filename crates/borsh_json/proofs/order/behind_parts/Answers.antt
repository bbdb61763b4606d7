use Rattle.std.proofs.Common.{◌∙◌, Some, map, string_bytes, ap, sym, rules}
use Rattle.borsh_json.proofs.{OrderedLaws.{named_get, listed_more}, UnorderedLaws.{listed_not}}
use Rattle.borsh_json.proofs.order.behind_parts.Goals as goal

pub loop-part-preserved : goal.loop-part-preserved
loop-part-preserved c =
    let l = c.loop-part in
    let ps = c.args.parts.now in
    let g = named_get ps l.part-index c.part-item.result c.loop-part-test.true c.part-item.is ∙ ap (λ p. Some p) (sym c.as_str.ensures.value) in
    (listed_more (map (λ p. string_bytes p) ps) l.part-index c.as_str.result.now c.args.text.now l.rest.now c.in_ok-rest.rest.now g l.invariant.0 c.in_ok-rest.ensures, search rules)

pub returns-in_err-rest : goal.returns-in_err-rest
returns-in_err-rest c =
    let l = c.loop-part in
    let ps = c.args.parts.now in
    let g = named_get ps l.part-index c.part-item.result c.loop-part-test.true c.part-item.is ∙ ap (λ p. Some p) (sym c.as_str.ensures.value) in
    rw c.from_residual.ensures (listed_not (map (λ p. string_bytes p) ps) l.part-index c.as_str.result.now c.args.text.now l.rest.now g l.invariant.0 c.in_err-rest.ensures)
