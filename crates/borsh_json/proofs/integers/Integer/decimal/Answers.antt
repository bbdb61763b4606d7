use Rattle.std.proofs.Common.{◌∙◌, SFits, ap, rules, subst, sym, to_z-of_z}
use Rattle.std.specs.{Fmt.{signed_decimal}, Int.{w128}}
use Rattle.borsh_json.specs.{Integers.{signed_as}, Table.{InRange}}
use Rattle.borsh_json.proofs.IntegerLaws.{negative_cast}
use Rattle.borsh_json.proofs.integers.Integer.decimal.Goals as goal

pub returns-then-self : goal.returns-then-self
returns-then-self c = λ n signed h r.
    let i = c.args.self.now in
    let t = c.if-self.true in
    let f : SFits w128 c.cast_signed.result = search rules in
    let z = c.cast_signed.ensures ∙ negative_cast n signed i.magnitude h (subst (λ b. InRange n signed (signed_as b i.magnitude)) t r) ∙ ap (λ b. signed_as b i.magnitude) (sym t) in
    c.format.ensures.text ∙ ap (λ z. signed_decimal z) (to_z-of_z f ∙ z)
