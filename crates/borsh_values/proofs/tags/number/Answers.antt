use Rattle.std.proofs.Common.{◌≡◌, ℕ, suc, zero, ◌^◌, ◌<◌, ◌≤◌, length, drop, List, refl, sym, ◌∙◌, ap, subst, arith, length-drop}
use Rattle.borsh_walks.specs.Container.{little_endian}
use Rattle.borsh_values.specs.Tags.{number_of}
use Rattle.borsh_values.proofs.TagLaws.{value_written, value_small, value_under, drop_bytes}
use Rattle.borsh_values.proofs.tags.number.Goals as goal

pub overflow_mul-value : goal.overflow_mul-value
overflow_mul-value c =
    let v = c.loop-place.invariant.value in
    let l = length-drop c.loop-place.place c.args.bytes.now in
    let r = value_under 7 (drop c.loop-place.place c.args.bytes.now) (drop_bytes c.loop-place.place c.args.bytes.now (λ i h. let b = c.type_inv.bytes i in omega (arith, b))) (omega (arith, l)) in
    omega (arith, v, r)

pub overflow_add-value : goal.overflow_add-value
overflow_add-value c =
    let v = c.loop-place.invariant.value in
    let l = length-drop c.loop-place.place c.args.bytes.now in
    let r = value_under 7 (drop c.loop-place.place c.args.bytes.now) (drop_bytes c.loop-place.place c.args.bytes.now (λ i h. let b = c.type_inv.bytes i in omega (arith, b))) (omega (arith, l)) in
    let f = c.from.type_inv in
    omega (arith, v, r, f)

all_of : (n : ℕ) (bs : List ℕ) → n ≤ 0 → drop n bs ≡ bs
all_of zero bs h = refl
all_of (suc n) bs h = absurd (omega arith)

pub returns-clause-written : goal.returns-clause-written
returns-clause-written c =
    let e = c.loop-place.invariant.value ∙ ap (λ l. number_of l) (all_of c.loop-place.place c.args.bytes.now (omega arith)) in
    ap (λ n. little_endian (length c.args.bytes.now) n) e ∙ value_written c.args.bytes.now (λ i h. let b = c.type_inv.bytes i in omega (arith, b))

pub returns-clause-small : goal.returns-clause-small
returns-clause-small c =
    let e = c.loop-place.invariant.value ∙ ap (λ l. number_of l) (all_of c.loop-place.place c.args.bytes.now (omega arith)) in
    subst (λ n. n < 256 ^ length c.args.bytes.now) (sym e) (value_small c.args.bytes.now (λ i h. let b = c.type_inv.bytes i in omega (arith, b)))
