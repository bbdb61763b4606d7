use Rattle.std.proofs.Common.{sym, subst, arith}
use Rattle.borsh_json.specs.Ranks.{HasNoLeadingZero}
use Rattle.borsh_json.proofs.DecimalLaws.{unsigned_plain, unsigned_parsed}
use Rattle.borsh_json.proofs.numbers.unsigned_of.Goals as goal

pub returns-then-is_plain : goal.returns-then-is_plain
returns-then-is_plain c =
    let plain = subst HasNoLeadingZero c.as_bytes.ensures.value (c.is_plain.ensures.0 c.if-is_plain.true) in
    unsigned_parsed c.args.text.now c.parse.result c.ok.result plain c.parse.ensures.value.0 c.ok.ensures.value

pub returns-else-is_plain : goal.returns-else-is_plain
returns-else-is_plain c = λ n l e.
    let d = c.is_plain.ensures.1 (subst HasNoLeadingZero (sym c.as_bytes.ensures.value) (unsigned_plain n c.args.text.now (omega arith) e)) in
    let f = c.if-is_plain.false in
    cc
