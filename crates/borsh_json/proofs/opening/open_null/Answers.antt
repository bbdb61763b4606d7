use Rattle.std.proofs.Common.{[], sym, ◌∙◌, ap, refl}
use Rattle.json.specs.Find.{is_null}
use Rattle.borsh_json.specs.Table.{no_bytes}
use Rattle.borsh_json.proofs.OpeningLaws.{opened_leaf, denied, null_is, refuses_expected}
use Rattle.borsh_json.proofs.opening.open_null.Goals as goal

pub returns-then-is_null : goal.returns-then-is_null
returns-then-is_null c F ns x j h b = opened_leaf F ns x j no_bytes [] [] [] h refl (null_is j (sym (c.is_null.ensures j b) ∙ c.if-is_null.true), refl, refl)

pub returns-else-is_null : goal.returns-else-is_null
returns-else-is_null c F ns x j h b = refuses_expected F ns x j c.expected.result c.expected.ensures (denied F ns x j no_bytes h (λ own ps s. let f = ap is_null s.0 in let g = c.is_null.ensures j b in let k = c.if-is_null.false in cc))
