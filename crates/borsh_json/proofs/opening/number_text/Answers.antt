use Rattle.std.proofs.Common.{sym}
use Rattle.borsh_json.proofs.NumberTexts.{quoted, plain, long, no_other}
use Rattle.borsh_json.proofs.opening.number_text.Goals as goal

pub returns-then-is_quoted : goal.returns-then-is_quoted
returns-then-is_quoted c j b = quoted c.args.number.size j c.as_str.result (c.is_quoted.ensures.0 c.if-is_quoted.true) (c.as_str.ensures j b)

pub returns-in-Some : goal.returns-in-Some
returns-in-Some c j b = plain c.args.number.size j c.in-Some.text.now (λ h. let e = c.is_quoted.ensures.1 h in let f = c.if-is_quoted.false in cc) (sym (c.in-Some.ensures j b))

pub returns-then-is_long : goal.returns-then-is_long
returns-then-is_long c j b = long c.args.number.size j c.as_str-then-is_long.result (c.is_long.ensures.0 c.if-is_long.true) (sym (c.in-None.ensures j b)) (c.as_str-then-is_long.ensures j b)

pub returns-else-is_long : goal.returns-else-is_long
returns-else-is_long c j b = no_other c.args.number.size j (λ h. let e = c.is_quoted.ensures.1 h in let f = c.if-is_quoted.false in cc) (λ h. let e = c.is_long.ensures.1 h in let f = c.if-is_long.false in cc) (sym (c.in-None.ensures j b))
