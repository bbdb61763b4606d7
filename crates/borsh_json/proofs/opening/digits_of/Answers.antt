use Rattle.std.proofs.Common.{ℕ, List, Option, subst, MatchOption, Vec, Global}
use Rattle.json.specs.Json.{string}
use Rattle.borsh_json.specs.Table.{IsHex}
use Rattle.borsh_json.proofs.OpeningLaws.{denies_expected}
use Rattle.borsh_json.proofs.opening.digits_of.Goals as goal

pub returns-in-None : goal.returns-in-None
returns-in-None c =
    let t = c.args.text.now in
    let k = subst (λ (o : Option (Vec ℕ Global)). MatchOption o ((bytes : List ℕ) → IsHex (string t) bytes → ⊥) (λ v. IsHex (string t) v.items)) c.in-None.is c.in-Ok.ensures in
    denies_expected _ (λ w. tt) c.expected.result c.expected.ensures (λ h. k h.0 h.1)
