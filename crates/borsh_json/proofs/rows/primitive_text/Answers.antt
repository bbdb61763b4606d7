use Rattle.std.proofs.Common.{sym, subst, string_bytes}
use Rattle.std.specs.Prelude.{IfOk}
use Rattle.borsh_json.specs.{declared.kinds.Kind.{Kind as Found}, Found.{IsPrimitiveKind}, Rows.{IsPrimitiveText}, Table.{Kind, primitive_kind}}
use Rattle.borsh_json.proofs.{LeafLaws.{raw_kind}, RepresentsLaws.{primitive_small}}
use Rattle.borsh_json.proofs.rows.primitive_text.Goals as goal

pub returns-in-Number : goal.returns-in-Number
returns-in-Number c x n k =
    let t = c.in-Number.number in
    let e = subst (λ (q : Found). IsPrimitiveKind q (primitive_kind x n)) c.in-Number.is k in
    subst (λ (q : Kind). IfOk c.number_text.result (λ v. IsPrimitiveText q c.args.bytes.now (string_bytes v))) (sym e) (c.number_text.ensures (primitive_small x n t.size t.is_signed t.is_non_zero e))

pub returns-in-Float : goal.returns-in-Float
returns-in-Float c x n k =
    let e = subst (λ (q : Found). IsPrimitiveKind q (primitive_kind x n)) c.in-Float.is k in
    subst (λ (q : Kind). IfOk c.float_text.result (λ v. IsPrimitiveText q c.args.bytes.now (string_bytes v))) (sym e.2) (c.float_text.ensures e.0 e.1)

pub returns-in_default : goal.returns-in_default
returns-in_default c x n k =
    let r = raw_kind c.args.kind (primitive_kind x n) k c.in_default.not-Number c.in_default.not-Bool c.in_default.not-Float in
    subst (λ (q : Kind). IsPrimitiveText q c.args.bytes.now (string_bytes c.new.result)) (sym r.1) c.new.ensures.bytes
