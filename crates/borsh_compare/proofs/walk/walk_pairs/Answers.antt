use Rattle.std.proofs.Common.{◌∙◌, refl, sym, arith}
use Rattle.std.proofs.lemmas.Option.{slice_get_within}
use Rattle.borsh_compare.specs.declared.pairs.Pair.{Pair}
use Rattle.borsh_compare.proofs.Keeping.{has_kept}
use Rattle.borsh_compare.proofs.Included.{go_next, included}
use Rattle.borsh_compare.proofs.Staying.{correspond_at, full_kept, first_inside, none_corresponds}
use Rattle.borsh_compare.proofs.walk.walk_pairs.Goals as goal
use Rattle.borsh_compare.proofs.walk.walk_pairs.Goals.{then-not-branch+in_ok-push, else-not-branch}

pub loop-next-init : goal.loop-next-init
loop-next-init c =
    let first : Pair = record { old = 0; new = 0; from = 0; owner = 0; index = 0 } in
    record {
      first = λ e. c.in_ok-is_whole.ensures.added e;
      go = λ e i p low there. absurd (omega (arith, low));
      reached = omega arith;
      stays = λ r. (first_inside c.args.old.now c.args.new.now r first c.new-pairs.result.list.items c.add.new.self.list.items c.new-pairs.ensures refl refl c.in_ok-is_whole.ensures.only, c.in_ok-is_whole.ensures.full);
    }

pub returns-in_default-clause-included : goal.returns-in_default-clause-included
returns-in_default-clause-included c = λ e.
    included c.args.old.now c.args.new.now c.loop-next.pairs.list.items c.loop-next.next (c.loop-next.invariant.first e) (c.loop-next.invariant.go e) (sym c.get.ensures ∙ c.in_default.is)

pub returns-in_default-clause-apart : goal.returns-in_default-clause-apart
returns-in_default-clause-apart c = λ e r.
    let s = c.loop-next.invariant.stays r in
    none_corresponds c.args.old.now c.args.new.now c.loop-next.pairs.list.items c.loop-next.pairs.table c.loop-next.pairs.indexed r s.0 (s.1 e)

pub returns-clause-apart : goal.returns-clause-apart
returns-clause-apart c = λ e r.
    let s = c.loop-next.invariant.stays r in
    let reached = c.loop-next.invariant.reached in
    let end = c.loop-next-test.false in
    none_corresponds c.args.old.now c.args.new.now c.loop-next.pairs.list.items c.loop-next.pairs.table c.loop-next.pairs.indexed r s.0 (omega (arith, reached, end))

pub loop-next-preserved : goal.loop-next-preserved
loop-next-preserved c =
    let old = c.args.old.now in
    let new = c.args.new.now in
    let before = c.loop-next.pairs.list.items in
    let after = c.names_go.new.pairs.list.items in
    let k = c.in_ok-names_go.ensures.kept in
    let there = sym c.get.ensures ∙ c.in-Some.is in
    let next = c.loop-next.next in
    let pair = c.in-Some.pair in
    let low = slice_get_within after next pair (k next pair there) in
    elim c.if-not-branch.branch [
      | then-not-branch+in_ok-push w ↦ record {
        first = λ e. (let h = sym e ∙ w.is_whole-is in absurd (cc));
        go = λ e. (let h = sym e ∙ w.is_whole-is in absurd (cc));
        reached = omega (arith, low);
        stays = λ r.
            let s = c.loop-next.invariant.stays r in
            let q = c.in_ok-names_go.ensures.stays r.pairs (correspond_at old new r pair.old pair.new (s.0 next pair there)) s.0 in
            (q.0, λ e. q.1 w.if-not-branch.true);
      }
      | else-not-branch w ↦ record {
        first = λ e. has_kept before after 0 0 k (c.loop-next.invariant.first (sym w.is_whole-is ∙ e));
        go = λ e. go_next old new before after next pair k there (c.loop-next.invariant.go (sym w.is_whole-is ∙ e)) (c.in_ok-names_go.ensures.go w.if-not-branch.false);
        reached = omega (arith, low);
        stays = λ r.
            let s = c.loop-next.invariant.stays r in
            let q = c.in_ok-names_go.ensures.stays r.pairs (correspond_at old new r pair.old pair.new (s.0 next pair there)) s.0 in
            (q.0, λ e. full_kept before after k 1048576 (s.1 (sym w.is_whole-is ∙ e)));
      }
    ]
