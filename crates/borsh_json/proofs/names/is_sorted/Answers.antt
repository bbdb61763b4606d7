use Rattle.borsh_json.proofs.TellingLaws.{sorted_keys}
use Rattle.borsh_json.proofs.names.is_sorted.Goals as goal

pub returns-in-Some : goal.returns-in-Some
returns-in-Some c F ns x h t = sorted_keys F ns x c.args.order c.in-Some.order c.is_other.result c.in-Some.is c.is_other.ensures h

pub returns-in-None : goal.returns-in-None
returns-in-None c F ns x h t = λ e k keys. absurd (t c.in-None.is e k keys)
