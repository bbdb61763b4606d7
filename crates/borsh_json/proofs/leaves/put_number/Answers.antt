use Rattle.std.proofs.Common.{◌≡◌, length, refl, true, arith, subst, sym, pos}
use Rattle.borsh_json.specs.{Integers.{integer_of}, Leaves.{long_of}}
use Rattle.json.specs.Print.{IsNumber}
use Rattle.borsh_json.proofs.{LeafLaws.{number_there, number_zero, number_string, number_plain, number_long, printable}, leaves.put_number.Goals.{else-number-via-then-number+else-is_zero, else-number-via-else-number}}
use Rattle.borsh_json.proofs.leaves.put_number.Goals as goal

pub returns-then-is_zero : goal.returns-then-is_zero
returns-then-is_zero c = λ F x h l.
    let n = c.args.number in
    number_zero F x c.args.own.now c.args.out.now c.args.out.now n.size n.is_signed n.is_non_zero (integer_of c.decode-integer.result) h l c.decode-integer.ensures c.if-number.true (c.is_zero.ensures.0 c.if-is_zero.true)

pub put-requires : goal.put-requires
put-requires c =
    let own = c.args.own.now in
    let n = c.args.number in
    let e = c.decode-integer.ensures (omega arith) in
    subst (λ s. IsNumber s) (sym (c.decimal-text.ensures (length own) n.is_signed (omega arith) e.1)) (printable (length own) n.is_signed (integer_of c.decode-integer.result) (omega arith) e.1)

pub put_long-requires : goal.put_long-requires
put_long-requires c =
    let own = c.args.own.now in
    let n = c.args.number in
    let e = c.decode-integer.ensures (omega arith) in
    subst (λ s. IsNumber s) (sym (c.decimal-text.ensures (length own) n.is_signed (omega arith) e.1)) (printable (length own) n.is_signed (integer_of c.decode-integer.result) (omega arith) e.1)

pub returns-in_ok-put : goal.returns-in_ok-put
returns-in_ok-put c = λ F x h l.
    let own = c.args.own.now in
    let n = c.args.number in
    let z = integer_of c.decode-integer.result in
    let some : n.is_non_zero ≡ true → z ≡ pos 0 → ⊥ = elim c.else-number.branch [
      | else-number-via-then-number+else-is_zero w ↦ (λ t e. (let f = w.if-is_zero.false in let g = w.is_zero.ensures.1 e in cc))
      | else-number-via-else-number w ↦ (λ t e. (let f = w.if-number.false in cc))
    ] in
    let i = number_there F x own c.args.out.now c.args.out.now n.size n.is_signed n.is_non_zero z h l c.decode-integer.ensures in
    let t = c.decimal-text.ensures n.size n.is_signed l.2 i.1 in
    let p = printable n.size n.is_signed z (omega (arith, l.0)) i.1 in
    number_plain F x own c.args.out.now c.put.new.self n.size n.is_signed n.is_non_zero z h l c.decode-integer.ensures c.decimal-text.result.now some t (omega arith) (λ q. omega arith) (subst (λ s. IsNumber s) (sym t) p) c.in_ok-put.ensures

pub returns-in_ok-put_long : goal.returns-in_ok-put_long
returns-in_ok-put_long c = λ F x h l.
    let own = c.args.own.now in
    let n = c.args.number in
    let z = integer_of c.decode-integer.result in
    let some : n.is_non_zero ≡ true → z ≡ pos 0 → ⊥ = elim c.else-number.branch [
      | else-number-via-then-number+else-is_zero w ↦ (λ t e. (let f = w.if-is_zero.false in let g = w.is_zero.ensures.1 e in cc))
      | else-number-via-else-number w ↦ (λ t e. (let f = w.if-number.false in cc))
    ] in
    let i = number_there F x own c.args.out.now c.args.out.now n.size n.is_signed n.is_non_zero z h l c.decode-integer.ensures in
    let t = c.decimal-text.ensures n.size n.is_signed l.2 i.1 in
    let p = printable n.size n.is_signed z (omega (arith, l.0)) i.1 in
    number_long F x own c.args.out.now c.put_long.new.self n.size n.is_signed n.is_non_zero z h l c.decode-integer.ensures c.decimal-text.result.now some t (let g = l.3 (omega (arith, l.0)) in omega (arith, l.0, g)) (subst (λ s. IsNumber s) (sym t) p) (long_of c.args.out.now) refl c.in_ok-put_long.ensures

pub returns-in_ok-put-2 : goal.returns-in_ok-put-2
returns-in_ok-put-2 c = λ F x h l.
    let own = c.args.own.now in
    let n = c.args.number in
    let z = integer_of c.decode-integer.result in
    let some : n.is_non_zero ≡ true → z ≡ pos 0 → ⊥ = elim c.else-number.branch [
      | else-number-via-then-number+else-is_zero w ↦ (λ t e. (let f = w.if-is_zero.false in let g = w.is_zero.ensures.1 e in cc))
      | else-number-via-else-number w ↦ (λ t e. (let f = w.if-number.false in cc))
    ] in
    let i = number_there F x own c.args.out.now c.args.out.now n.size n.is_signed n.is_non_zero z h l c.decode-integer.ensures in
    let t = c.decimal-text.ensures n.size n.is_signed l.2 i.1 in
    number_string F x own c.args.out.now c.put-else-own-le8.new.self n.size n.is_signed n.is_non_zero z h l c.decode-integer.ensures c.decimal-text.result.now some t (omega arith) c.in_ok-put-2.ensures
