use Rattle.std.proofs.Common.{subst}
use Rattle.borsh_json.specs.{declared.kinds.Kind.{Kind}, Places.{IsKindOf}}
use Rattle.borsh_json.proofs.BegunLaws.{flaw_refused, parts_begun}
use Rattle.borsh_json.proofs.values.begin_struct.Goals as goal

pub returns-in-Refused : goal.returns-in-Refused
returns-in-Refused c F ns x f i d k =
    flaw_refused F ns x f c.in-Refused.flaw c.in_ok-refusal.field-0 (subst (λ (k : Kind). IsKindOf F ns x f k) c.in-Refused.is k) c.in_ok-refusal.ensures

pub returns : goal.returns
returns c F ns x f i d k = parts_begun F ns x f c.args.at i d c.args.out.now c.begin.new.out c.begin.result c.args.kind c.in-Some.parts c.in-Some.ensures k c.begin.ensures
