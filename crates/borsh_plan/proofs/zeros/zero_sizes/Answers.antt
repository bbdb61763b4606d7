use Rattle.std.proofs.Common.{[], ◌∷◌, false, length, length-append, sym, ◌∙◌, ap, subst, arith}
use Rattle.borsh_walks.specs.Definitions.{definitions_in}
use Rattle.borsh_walks.proofs.RulesSteps.{empty_table}
use Rattle.borsh_plan.specs.Zeros.{ZeroAt}
use Rattle.borsh_plan.proofs.SizesLaws.{Answered, answered_none, answered_more, answered_all}
use Rattle.borsh_plan.proofs.zeros.zero_sizes.Goals as goal

pub loop-at-init : goal.loop-at-init
loop-at-init c =
    let l = c.args.names.now in
    let e = c.in_ok-zeros.ensures.items in
    record {
      at = sym (ap (λ q. length q) e);
      table = empty_table (definitions_in l.map.now) c.new-table.result c.new-table.ensures.empty;
      zeros = answered_none false (ZeroAt (definitions_in l.map.now) l.names.items) c.in_ok-zeros.zeros.items e;
    }

pub loop-at-preserved : goal.loop-at-preserved
loop-at-preserved c =
    let l = c.args.names.now in
    let C = definitions_in l.map.now in
    let ns = l.names.items in
    let zs = c.loop-at.zeros.items in
    let zero = c.in_ok-zero.zero in
    let e = c.in_ok-push.ensures.items in
    let n = ap (λ q. length q) e ∙ length-append zs (zero ∷ []) in
    let i = c.loop-at.invariant.at in
    record {
      at = omega (arith, n, i);
      table = c.in_ok-zero.ensures.table;
      zeros = subst (λ q. Answered false (ZeroAt C ns) q) (sym e) (answered_more false (ZeroAt C ns) zs zero c.loop-at.invariant.zeros (subst (λ k. ZeroAt C ns k zero) i c.in_ok-zero.ensures.zero));
    }

pub returns : goal.returns
returns c =
    let l = c.args.names.now in
    let i = c.loop-at.invariant.at in
    let n = c.len-count.ensures in
    let k = l.names.ok.0 in
    let s = c.loop-at-test.false in
    answered_all false (ZeroAt (definitions_in l.map.now) l.names.items) c.loop-at.zeros.items (length l.names.items) (omega (arith, i, n, k, s)) c.loop-at.invariant.zeros
