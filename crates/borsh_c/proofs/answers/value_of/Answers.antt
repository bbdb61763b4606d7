use Rattle.std.proofs.Common.{ℕ, List, arith, inl, refl, string_bytes, subst, sym}
use Rattle.borsh_json.specs.Forms.{forms_in}
use Rattle.borsh_json.specs.InOrder.{TextRepresents}
use Rattle.borsh_c.specs.Answers.{AreBytesOf, IsNoText, IsRefused, IsShort, IsUnclear}
use Rattle.borsh_c.proofs.Told.{about_told, no_told, text_refused}
use Rattle.borsh_c.proofs.answers.value_of.Goals as goal

pub returns-in_default-clause-err : goal.returns-in_default-clause-err
returns-in_default-clause-err c =
    let short = subst IsShort (sym c.in_ok-from_str.ensures.ok) (omega arith) in
    no_told (c.in_ok-root.root, c.in_ok-root.definitions) c.in_ok-root.ensures.ok (string_bytes c.in_ok-root.root) refl (IsNoText c.args.json.now) IsUnclear (short, inl (refl, c.in_default.ensures.cases.0)) c.no.result c.no.ensures

pub returns-in-Ok-from_json-clause-ok : goal.returns-in-Ok-from_json-clause-ok
returns-in-Ok-from_json-clause-ok c =
    let s = c.in-Ok-from_json.ensures.says in
    about_told (c.in_ok-root.root, c.in_ok-root.definitions) c.in_ok-root.ensures.ok c.as_str.result.now c.as_str.ensures.value (AreBytesOf c.args.json.now c.in-Ok-from_json.bytes.items) (subst (λ (text : List ℕ). TextRepresents (forms_in c.in_ok-root.definitions) c.as_str.result.now text c.in-Ok-from_json.bytes.items) c.in-Ok.ensures.cases.0 (s.0, s.1, s.2, s.3, c.in-Ok-from_json.ensures.in_order s.0 s.1))

pub returns-clause-err : goal.returns-clause-err
returns-clause-err c =
    subst (λ (text : List ℕ). IsRefused c.args.schema.now (IsNoText text) IsUnclear c.in_ok-no_value-in-Err.field-0) c.in-Ok.ensures.cases.0
    (text_refused (c.in_ok-root.root, c.in_ok-root.definitions) c.in_ok-root.ensures.ok c.as_str.result.now c.as_str.ensures.value c.in-Ok.text.now c.in-Err.error c.in-Err.ensures.reason c.in-Err.ensures.denies c.in_ok-no_value-in-Err.field-0 c.in_ok-no_value-in-Err.ensures)
