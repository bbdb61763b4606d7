use Rattle.std.proofs.Common.{◌≡◌, inl, inr, refl, subst}
use Rattle.borsh_json.specs.{Printed.{IsMarked}, Table.{float}}
use Rattle.borsh_json.proofs.LeafLaws.{no_nan, put_digits, put_string}
use Rattle.borsh_json.proofs.leaves.put_float.Goals as goal

pub returns-in_default : goal.returns-in_default
returns-in_default c = λ F x f h l. ((f, h), no_nan F x c.args.own.now f h l (c.in_default.ensures.float f l))

pub returns-in_ok-put : goal.returns-in_ok-put
returns-in_ok-put c = λ F x f h l.
    let t = c.in-Some.ensures.float f l in
    let s = c.in-Some.text.now in
    put_digits F x c.args.own.now c.args.out.now c.put.new.self s c.in_ok-put.ensures (c.is_number.ensures.0 c.if-is_number.true) (float f, h, (t.0, t.2.0, t.1, refl)) (λ e u i. ((λ signed non_zero q. cc), (λ g q. (let same : s ≡ u = cc in subst IsMarked same (c.in-Some.ensures.marked (c.is_number.ensures.0 c.if-is_number.true))))))

pub returns-in_ok-put-2 : goal.returns-in_ok-put-2
returns-in_ok-put-2 c = λ F x f h l.
    let t = c.in-Some.ensures.float f l in
    let s = c.in-Some.text.now in
    elim t.2.1 [
      | inl n ↦ (let e = c.is_number.ensures.1 n in let g = c.if-is_number.false in cc)
      | inr e ↦ put_string F x c.args.own.now c.args.out.now c.put-else-is_number.new.self s c.in_ok-put-2.ensures (float f, h, (t.0, e, t.1, refl))
    ]
