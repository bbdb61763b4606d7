use Rattle.std.proofs.Common.{inl, inr, ℕ, List, sym, ◌∙◌, subst, refl, length}
use Rattle.json.specs.Json.{Json}
use Rattle.borsh_json.specs.{Forms.{form_of}, Places.{lengths_of}, Table.{byte_list, IsPrefixed, IsHex}}
use Rattle.borsh_json.proofs.{OpeningLaws.{opened_leaf, said, string_is, refuses_plain}, PartsLaws.{no_text, byte_said}, RepresentsLaws.{hex_one}}
use Rattle.borsh_json.proofs.opening.open_byte_list.Goals as goal

pub returns-in_default : goal.returns-in_default
returns-in_default c F ns x j e at h b =
    let l = lengths_of (form_of c.args.definition.now) in
    c.open_items.ensures F ns x j (byte_list l e) e at h ((l, e, inr refl), λ own ps. ((λ q. inr q), no_text F j l e own ps (sym (c.in_default.ensures j b)))) b

pub returns-in-Ok-put_list : goal.returns-in-Ok-put_list
returns-in-Ok-put_list c F ns x j e at h b =
    let l = lengths_of (form_of c.args.definition.now) in
    let s = string_is j c.in-Some.text.now (sym (c.in-Some.ensures j b)) in
    let d = c.in-Ok-put_list.ensures in
    let hex = subst (λ (t : List ℕ). IsHex j t) (sym c.as_slice.ensures.value) (subst (λ (i : Json). IsHex i c.in-Ok.bytes.items) (sym s) c.in-Ok.ensures) in
    opened_leaf F ns x j (byte_list l e) c.args.out.now.items c.put_list.new.out.items d.0 h d.1 (inl (c.as_slice.result.now, hex, d.2, refl))

pub returns-in-Ok : goal.returns-in-Ok
returns-in-Ok c F ns x j e at h b =
    let l = lengths_of (form_of c.args.definition.now) in
    let s = string_is j c.in-Some.text.now (sym (c.in-Some.ensures j b)) in
    refuses_plain F ns x j c.in-Err-put_list.error (λ g. let k = said F ns x j (byte_list l e) h g in let q = byte_said F j l e k.0 k.1 c.in-Some.text.now s k.2 in (k.0, subst (λ (t : List ℕ). IsPrefixed l (length t) t k.0) (hex_one q.1 c.in-Ok.ensures ∙ sym c.as_slice.ensures.value) q.2)) c.in-Err-put_list.ensures

pub returns : goal.returns
returns c F ns x j e at h b =
    let l = lengths_of (form_of c.args.definition.now) in
    let s = string_is j c.in-Some.text.now (sym (c.in-Some.ensures j b)) in
    refuses_plain F ns x j c.in-Err.error (λ g. let k = said F ns x j (byte_list l e) h g in let q = byte_said F j l e k.0 k.1 c.in-Some.text.now s k.2 in (q.0, q.1)) c.in-Err.ensures
