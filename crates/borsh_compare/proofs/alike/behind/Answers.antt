use Rattle.std.proofs.Common.{◌≡◌, Some, sym, ◌∙◌}
use Rattle.borsh_json.specs.declared.kinds.Kind.TheVariants.{Newtype}
use Rattle.borsh_compare.specs.Alike.{itself}
use Rattle.borsh_compare.proofs.Found.{behind_step}
use Rattle.borsh_compare.proofs.alike.behind.Goals as goal

pub loop-init : goal.loop-init
loop-init c = λ x i. (x, i, itself)

pub loop-preserved : goal.loop-preserved
loop-preserved c = λ x i.
    let v = c.loop.invariant x i in
    let a = c.in-Some-default-Newtype.is in
    let b = c.in-Some-default-Newtype.field-0-1-is in
    let f : c.kind.result ≡ Some (c.in-Some-default-Newtype.field-0-0, Newtype c.in-Some-default-Newtype.part) = cc in
    behind_step c.args.json.now.plan.now c.loop.at c.is_zero_size.result c.is_zero_size.ensures c.kind.result c.kind.ensures.kind c.in-Some-default-Newtype.field-0-0 c.in-Some-default-Newtype.part c.if-is_zero_size.false f x v.0 v.1 v.2
