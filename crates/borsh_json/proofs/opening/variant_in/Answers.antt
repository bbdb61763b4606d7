use Rattle.std.proofs.Common.{ap, sym, subst, option_map}
use Rattle.json.specs.{Json.{Json}, Find.{as_str, as_object}}
use Rattle.borsh_json.specs.Frames.{NamesVariant}
use Rattle.borsh_json.proofs.OpeningLaws.{string_is}
use Rattle.borsh_json.proofs.opening.variant_in.Goals as goal

pub returns-in-Some : goal.returns-in-Some
returns-in-Some c j b = string_is j c.in-Some.name.now (sym (c.in-Some.ensures j b))

pub returns-in-Some-members : goal.returns-in-Some-members
returns-in-Some-members c j b =
    let a = c.in-Some-members.ensures j b in
    subst (λ (j : Json). NamesVariant j (option_map (λ r. (r.0.now, r.1)) c.only_member.result)) (sym a.1) (c.only_member.ensures a.0 a.2)

pub returns-in-None-members : goal.returns-in-None-members
returns-in-None-members c j b =
    let p = c.in-None.ensures j b in
    let q = c.in-None-members.ensures j b in
    ((λ v e. let f = ap as_str e in cc), (λ v i e. let f = ap as_object e in cc))
