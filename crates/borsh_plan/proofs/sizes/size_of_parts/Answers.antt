use Rattle.std.proofs.Common.{◌+◌, ◌∙◌, drop, subst, sym, arith}
use Rattle.std.proofs.lemmas.Option.{slice_get_within}
use Rattle.borsh_plan.specs.Names.{name_at, parts_in, shape_at}
use Rattle.borsh_walks.proofs.Names.{drop_end, drop_next}
use Rattle.borsh_plan.proofs.SizesLaws.{Summed, summed_start, summed_more, summed_unknown, summed_large, summed_end}
use Rattle.borsh_plan.proofs.sizes.size_of_parts.Goals as goal

pub loop-part-init : goal.loop-part-init
loop-part-init c = record { summed = λ P sizes. summed_start P (drop c.args.next (parts_in (shape_at c.args.names.now.names.items c.args.at))); small = omega arith }

pub overflow_add-index : goal.overflow_add-index
overflow_add-index c = let s = c.in-Some.ensures.small in omega (arith, s)

pub loop-part-smaller : goal.loop-part-smaller
loop-part-smaller c =
    let ns = c.args.names.now.names.items in
    let h = slice_get_within (parts_in (shape_at ns c.args.at)) c.loop-part.index (name_at ns c.in-Some.part) c.in-Some.ensures.place.1 in
    omega (arith, h)

pub returns-then-size-eq0 : goal.returns-then-size-eq0
returns-then-size-eq0 c = λ P sizes.
    let ns = c.args.names.now.names.items in
    let ps = parts_in (shape_at ns c.args.at) in
    let all = drop c.args.next ps in
    let p = name_at ns c.in-Some.part in
    let h = c.in-Some.ensures.place in
    let i = subst (λ l. Summed P all l c.loop-part.total) (drop_next ps c.loop-part.index h.1) (c.loop-part.invariant.summed P sizes) in
    sym (summed_unknown P all p (drop (c.loop-part.index + 1) ps) c.loop-part.total c.size_at-size.result (c.size_at-size.ensures ∙ sizes c.in-Some.part h.0) c.if-size-eq0.true i)

pub returns-in-None : goal.returns-in-None
returns-in-None c = λ P sizes.
    let ns = c.args.names.now.names.items in
    let ps = parts_in (shape_at ns c.args.at) in
    let all = drop c.args.next ps in
    let p = name_at ns c.in-Some.part in
    let h = c.in-Some.ensures.place in
    let i = subst (λ l. Summed P all l c.loop-part.total) (drop_next ps c.loop-part.index h.1) (c.loop-part.invariant.summed P sizes) in
    let large = c.in-None.ensures in
    sym (summed_large P all p (drop (c.loop-part.index + 1) ps) c.loop-part.total c.size_at-size.result (c.size_at-size.ensures ∙ sizes c.in-Some.part h.0) (omega (arith, large)) i)

pub loop-part-preserved : goal.loop-part-preserved
loop-part-preserved c =
    let ns = c.args.names.now.names.items in
    let ps = parts_in (shape_at ns c.args.at) in
    let all = drop c.args.next ps in
    let p = name_at ns c.in-Some.part in
    let left = drop (c.loop-part.index + 1) ps in
    let h = c.in-Some.ensures.place in
    let size = c.size_at-size.result in
    let sum = c.in-Some-checked_add.ensures in
    record {
      summed = λ P sizes.
          let i = subst (λ l. Summed P all l c.loop-part.total) (drop_next ps c.loop-part.index h.1) (c.loop-part.invariant.summed P sizes) in
          subst (λ n. Summed P all left n) {x = c.loop-part.total + size} {y = c.in-Some-checked_add.sum} (sym sum.1) (summed_more P all p left c.loop-part.total size (c.size_at-size.ensures ∙ sizes c.in-Some.part h.0) c.if-size-eq0.false i);
      small = omega (arith, sum);
    }

pub returns : goal.returns
returns c = λ P sizes.
    let ps = parts_in (shape_at c.args.names.now.names.items c.args.at) in
    let i = c.loop-part.index in
    sym (summed_end P (drop c.args.next ps) (drop i ps) c.loop-part.total (drop_end ps i c.in_default.ensures.place) c.loop-part.invariant.small (c.loop-part.invariant.summed P sizes))
