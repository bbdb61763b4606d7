use Rattle.std.proofs.Common.{◌≡◌, ℕ, suc, zero, ◌+◌, ◌^◌, ◌<◌, ◌⊎◌, arith, inl, inr, length, subst, sym}
use Rattle.borsh_walks.specs.Container.{sequence}
use Rattle.borsh_plan.specs.{Names.name_at, Plan.definitions_of, Plan.names_of}
use Rattle.borsh_plan.proofs.Laws.{defined_at}
use Rattle.borsh_values.specs.Membership.{few_for_count, other_count}
use Rattle.borsh_values.specs.Nodes.{packed_size}
use Rattle.borsh_values.specs.Cursor.{TakesElements}
use Rattle.borsh_values.proofs.Bytes.{small_bytes}
use Rattle.borsh_values.proofs.MemberLaws.{member_as}
use Rattle.borsh_values.proofs.TakesLaws.{array_opened, list_opened, count_off, count_refused, short_sequence, too_short}
use Rattle.borsh_values.proofs.WalkedLaws.{counts_if}
use Rattle.borsh_values.proofs.opening.open_sequence.Goals as goal
use Rattle.borsh_values.proofs.opening.open_sequence.Goals.{then-count-start-via-then-count-start, then-count-start-via-else-count-start+then-end-count}

width_zero : (w lo hi : ℕ) → w ≡ 0 → lo < hi → hi < lo + 256 ^ w → ⊥
width_zero zero lo hi z h u = omega arith
width_zero (suc w) lo hi z h u = omega arith

pub returns-then-width-eq0-clause-opened : goal.returns-then-width-eq0-clause-opened
returns-then-width-eq0-clause-opened c =
    let l = c.args.plan.now in
    let C = definitions_of l in
    let ns = names_of l in
    let e = c.args.element in
    let d = defined_at l e c.requires.within in
    let t = subst (λ s. TakesElements ns (packed_size s) e c.args.start 0 (length c.args.bytes.now) c.open_elements.result) (sym d) c.open_elements.ensures in
    array_opened C ns c.args.width c.args.start c.args.end e c.args.bytes.now c.if-width-eq0.true (omega arith) (small_bytes c.args.bytes.now (λ k. let b = c.type_inv.bytes k in omega (arith, b))) c.open_elements.result t

pub returns-then-end-start-clause-opened : goal.returns-then-end-start-clause-opened
returns-then-end-start-clause-opened c =
    let none = c.if-end-start.true in
    let z = c.if-width-eq0.true in (
      (λ x e more _ m. let b = member_as (definitions_of c.args.plan.now) (sequence c.args.width c.args.start c.args.end (name_at (names_of c.args.plan.now) c.args.element)) e m.2 in let low = b.2 in let high = b.3 in absurd (omega (arith, none, low, high))),
      other_count (omega (arith, z)) (λ k low high _. omega (arith, none, low, high)),
    )

pub returns-then-bytes-size-clause-opened : goal.returns-then-bytes-size-clause-opened
returns-then-bytes-size-clause-opened c = ((λ x e. too_short (definitions_of c.args.plan.now) (λ m. short_sequence (definitions_of c.args.plan.now) (let h = c.if-bytes-size.true in let s = c.from-size.ensures in omega (arith, h, s)) e m)), few_for_count (let h = c.if-bytes-size.true in let s = c.from-size.ensures in omega (arith, h, s)))

pub returns-then-count-start-clause-opened : goal.returns-then-count-start-clause-opened
returns-then-count-start-clause-opened c =
    let f = c.if-not-fits_width.ensures in
    let off : (c.number-count.result < c.args.start) ⊎ (c.args.end < c.number-count.result) = elim c.then-count-start.branch [ then-count-start-via-then-count-start w ↦ inl w.if-count-start.true | then-count-start-via-else-count-start+then-end-count w ↦ inr w.if-end-count.true ] in (
      (λ x e more _ m. count_off c.args.width c.args.start c.args.end c.number-count.result c.from-size.result (name_at (names_of c.args.plan.now) c.args.element) c.args.bytes.now f.2 c.from-size.ensures c.if-bytes-size.false c.number-count.ensures.written c.number-count.ensures.small
          off (definitions_of c.args.plan.now) x e more m),
      count_refused (definitions_of c.args.plan.now) c.args.width c.args.start c.args.end c.number-count.result c.from-size.result (name_at (names_of c.args.plan.now) c.args.element) c.args.bytes.now f.2 c.from-size.ensures c.if-bytes-size.false c.number-count.ensures.written c.number-count.ensures.small off,
    )

pub returns-clause-opened : goal.returns-clause-opened
returns-clause-opened c =
    let l = c.args.plan.now in
    let C = definitions_of l in
    let ns = names_of l in
    let e = c.args.element in
    let f = c.if-not-fits_width.ensures in
    let d = defined_at l e c.requires.within in
    let t = subst (λ s. TakesElements ns (packed_size s) e c.number-count.result c.from-size.result (length c.args.bytes.now) c.open_elements-2.result) (sym d) c.open_elements-2.ensures in
    list_opened C ns c.args.width c.args.start c.args.end c.number-count.result c.from-size.result e c.args.bytes.now f.2 c.from-size.ensures c.if-count-start.false c.if-end-count.false c.if-bytes-size.false c.number-count.ensures.written (small_bytes c.args.bytes.now (λ k. let b = c.type_inv.bytes k in omega (arith, b))) c.open_elements-2.result t

pub returns-then-width-eq0-clause-counted : goal.returns-then-width-eq0-clause-counted
returns-then-width-eq0-clause-counted c = counts_if (sequence c.args.width c.args.start c.args.end (name_at (names_of c.args.plan.now) c.args.element)) (inl (c.if-width-eq0.true, omega arith)) c.open_elements.result

pub returns-clause-counted : goal.returns-clause-counted
returns-clause-counted c = let f = c.if-not-fits_width.ensures in counts_if (sequence c.args.width c.args.start c.args.end (name_at (names_of c.args.plan.now) c.args.element)) (inr (f.0, f.2)) c.open_elements-2.result
