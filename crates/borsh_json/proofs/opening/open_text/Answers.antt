use Rattle.std.proofs.Common.{ℕ, List, sym, ◌∙◌, ap, subst, refl, length}
use Rattle.json.specs.{Json.{string}, Find.{as_str}}
use Rattle.borsh_json.specs.{Forms.{form_of}, Places.{lengths_of}, Table.{utf8, IsPrefixed}}
use Rattle.borsh_json.proofs.OpeningLaws.{opened_leaf, denied, said, string_is, one_string, refuses_expected, refuses_plain}
use Rattle.borsh_json.proofs.opening.open_text.Goals as goal

pub returns-in-Ok : goal.returns-in-Ok
returns-in-Ok c F ns x j h b =
    let l = lengths_of (form_of c.args.definition.now) in
    let d = c.in-Ok.ensures in
    let s = string_is j c.in-Some.text.now (sym (c.in-Some.ensures j b)) in
    let e = c.as_bytes.ensures.value in
    opened_leaf F ns x j (utf8 l) c.args.out.now.items c.put_list.new.out.items d.0 h d.1 (c.as_bytes.result.now, s ∙ ap (λ t. string t) (sym e), c.as_bytes.ensures.utf8, d.2, refl)

pub returns-in-Err : goal.returns-in-Err
returns-in-Err c F ns x j h b =
    let l = lengths_of (form_of c.args.definition.now) in
    let s = string_is j c.in-Some.text.now (sym (c.in-Some.ensures j b)) in
    let e = c.as_bytes.ensures.value in
    refuses_plain F ns x j c.in-Err.error (λ g. let k = said F ns x j (utf8 l) h g in (k.0, subst (λ (t : List ℕ). IsPrefixed l (length t) t k.0) (one_string k.2.0 c.in-Some.text.now (sym k.2.1 ∙ s) ∙ sym e) k.2.3)) c.in-Err.ensures

pub returns-in-None : goal.returns-in-None
returns-in-None c F ns x j h b =
    refuses_expected F ns x j c.expected.result c.expected.ensures (denied F ns x j (utf8 (lengths_of (form_of c.args.definition.now))) h (λ own ps s. let f = ap as_str s.1 in let g = c.in-None.ensures j b in cc))
