use Rattle.std.proofs.Common.{length, sym, ap, subst, arith}
use Rattle.json.specs.{Json.{Json}, Find.{as_str}}
use Rattle.borsh_json.specs.Table.{IsHex}
use Rattle.borsh_json.proofs.{OpeningLaws.{denies_expected, denies_read, string_is}, RepresentsLaws.{hex_one}}
use Rattle.borsh_json.proofs.opening.fixed_bytes.Goals as goal

pub returns-in_default : goal.returns-in_default
returns-in_default c j b = denies_expected _ (λ w. tt) c.wrong_size.result c.wrong_size.ensures (λ h. let e = c.in_default.ensures j b in let f = ap as_str h.1.1 in cc)

pub returns-then-len-wanted : goal.returns-then-len-wanted
returns-then-len-wanted c j b = (subst (λ (j : Json). IsHex j c.in-Ok.bytes.items) (sym (string_is j c.in-Some.text.now (sym (c.in-Some.ensures j b)))) c.in-Ok.ensures, omega arith)

pub returns-else-len-wanted : goal.returns-else-len-wanted
returns-else-len-wanted c j b = denies_expected _ (λ w. tt) c.wrong_size-else-len-wanted.result c.wrong_size-else-len-wanted.ensures (λ h. let q = subst (λ (j : Json). IsHex j h.0) (string_is j c.in-Some.text.now (sym (c.in-Some.ensures j b))) h.1 in let e = hex_one q c.in-Ok.ensures in let l = ap (λ l. length l) e in absurd (omega arith))

pub returns-in-Err : goal.returns-in-Err
returns-in-Err c j b = denies_read _ c.in-Err.error (λ h. (h.0, subst (λ (j : Json). IsHex j h.0) (string_is j c.in-Some.text.now (sym (c.in-Some.ensures j b))) h.1)) c.in-Err.ensures
