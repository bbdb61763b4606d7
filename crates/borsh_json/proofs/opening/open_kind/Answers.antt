use Rattle.std.proofs.Common.{[], inl, sym, refl, append-nil}
use Rattle.json.specs.Json.{Json}
use Rattle.borsh_json.specs.{declared.position.Parts.TheVariants.{Newtype}, Forms.{form_of}, Found.{forms_of, names_of}, NoValue.{SaysOwn, Why}, Places.{lengths_of}, Table.{inner, list}}
use Rattle.borsh_json.proofs.{OpeningLaws.{flaw_refuses, unmoved, only_found}, PartsLaws.{unsayable}}
use Rattle.borsh_json.proofs.opening.open_kind.Goals as goal

pub returns-in-Number : goal.returns-in-Number
returns-in-Number c x j at e h b = c.open_number.ensures _ _ x j (rw c.in-Number.is at h) b

pub returns-in-Bool : goal.returns-in-Bool
returns-in-Bool c x j at e h b = c.open_bool.ensures _ _ x j (rw c.in-Bool.is at h) b

pub returns-in-Bytes : goal.returns-in-Bytes
returns-in-Bytes c x j at e h b = c.open_bytes.ensures _ _ x j (rw c.in-Bytes.is at h) b

pub returns-in-Float : goal.returns-in-Float
returns-in-Float c x j at e h b = c.open_float.ensures _ _ x j (rw c.in-Float.is at h) b

pub returns-in-Text : goal.returns-in-Text
returns-in-Text c x j at e h b = c.open_text.ensures _ _ x j (rw c.in-Text.is at h) b

pub returns-in-ByteList : goal.returns-in-ByteList
returns-in-ByteList c x j at e h b =
    let i = rw c.in-ByteList.is at h in
    c.open_byte_list.ensures _ _ x j i.0 i.1 i.2 b

pub returns-in-Numbers : goal.returns-in-Numbers
returns-in-Numbers c x j at e h b =
    let l = lengths_of (form_of c.args.definition.now) in
    let i = rw c.in-Numbers.is at h in
    c.open_items.ensures _ _ x j (list l i.0.0) i.0.0 i.0.1 i.0.2 ((l, i.0.0, inl refl), λ own ps. ((λ q. q), (λ q. q))) b

pub returns-in-List : goal.returns-in-List
returns-in-List c x j at e h b =
    let l = lengths_of (form_of c.args.definition.now) in
    let i = rw c.in-List.is at h in
    c.open_items-in-List.ensures _ _ x j (list l i.0.0) i.0.0 i.0.1 i.0.2 ((l, i.0.0, inl refl), λ own ps. ((λ q. q), (λ q. q))) b

pub returns-in-Row : goal.returns-in-Row
returns-in-Row c x j at e h b = unmoved _ _ x j _ _ (c.open_row.ensures _ _ x j (form_of c.args.definition.now, at, e, rw c.in-Row.is at h) b)

pub returns-in-Object : goal.returns-in-Object
returns-in-Object c x j at e h b = unmoved _ _ x j _ _ (c.open_object.ensures _ _ x j (form_of c.args.definition.now, at, e, rw c.in-Object.is at h) b)

pub returns-in-Map : goal.returns-in-Map
returns-in-Map c x j at e h b = c.open_map.ensures _ _ x j (c.in-Map.field-1, rw c.in-Map.is at h) b

pub returns-in-Newtype : goal.returns-in-Newtype
returns-in-Newtype c x j at e h b =
    let d = rw c.in-Newtype.is at h in
    ([], sym (append-nil c.args.out.now.items), only_found _ _ x j (inner d.0) [] (Newtype c.in-Newtype.part) d.0 j c.args.element c.only.result c.only.ensures (λ i. (d.0, refl, λ ws e. (d.0, d.1, e))) (λ q. q) (d.0, refl, refl) d.2 b (refl, refl))

pub returns-in-Optional : goal.returns-in-Optional
returns-in-Optional c x j at e h b = c.open_option.ensures _ _ x j (rw c.in-Optional.is at h) b

pub returns-in-Choice : goal.returns-in-Choice
returns-in-Choice c x j at e h b =
    let d = rw c.in-Choice.is at h in
    c.open_variant.ensures x j at d.1 d.0 b

pub returns-in_ok-refusal-in-Refused : goal.returns-in_ok-refusal-in-Refused
returns-in_ok-refusal-in-Refused c x j at e h b =
    let d = c.args.json.now in
    let none = rw c.in-Refused.is at h in
    let unsaid : (k : Json) → SaysOwn (forms_of d) x k → ⊥ = λ k. unsayable (forms_of d) (names_of d) x k none.0 in
    (flaw_refuses (forms_of d) x (λ r. Why (forms_of d) x j r) (λ text n. (n, unsaid)) (λ n. (n, unsaid)) c.in-Refused.flaw c.in_ok-refusal-in-Refused.field-0 none.1 c.in_ok-refusal-in-Refused.ensures, inl (unsaid j))
