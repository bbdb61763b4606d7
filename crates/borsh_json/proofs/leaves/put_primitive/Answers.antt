use Rattle.std.proofs.Common.{length, subst}
use Rattle.borsh_json.specs.{declared.kinds.Kind.{Kind}, Found.{IsPrimitiveKind}, Leaves.{HasSize}, Table.{HasKind, Kind as TableKind}}
use Rattle.borsh_json.proofs.LeafLaws.{raw_hex, raw_kind}
use Rattle.borsh_json.proofs.leaves.put_primitive.Goals as goal

pub returns-in-Float : goal.returns-in-Float
returns-in-Float c = λ F x k p h l.
    let q = subst (λ (kind : Kind). IsPrimitiveKind kind k) c.in-Float.is p in
    c.put_float.ensures F x q.0 (subst (λ (k : TableKind). HasKind F x k) q.2 h) (subst (λ (k : TableKind). HasSize k (length c.args.own.now)) q.2 l)

pub returns-in_default : goal.returns-in_default
returns-in_default c = λ F x k p h l.
    let r = raw_kind c.args.kind k p c.in_default.not-Number c.in_default.not-Bool c.in_default.not-Float in
    raw_hex F x c.args.own.now c.args.out.now c.put_bytes.new.out r.0 k c.put_bytes.result r.1 h l c.put_bytes.ensures
