use Rattle.std.proofs.Common.{◌≡◌, ◌∙◌, ◌∷◌, ◌++◌, [], ℕ, List, sym, ap, subst}
use Rattle.borsh_plan.specs.declared.plan.Plan.{Plan}
use Rattle.borsh_plan.specs.Names.{name_at}
use Rattle.borsh_plan.specs.Plan.{definitions_of, names_of}
use Rattle.borsh_compare.specs.Together.{GoUntil, begins}
use Rattle.std.specs.Prelude.{Option, IfSome}
use Rattle.borsh_compare.specs.Walks.{Finds, Paired, names_from}
use Rattle.borsh_compare.specs.declared.through.Next.{Next}
use Rattle.borsh_compare.proofs.Keeping.{keeps_same, keeps_on, paired_kept, goes_on_more}
use Rattle.borsh_compare.proofs.Reading.{pending_more, goes_next}
use Rattle.borsh_compare.proofs.through.go_through.Goals as goal

one : (p : Plan) (none items : List ℕ) (at : ℕ) → none ≡ [] → items ≡ none ++ at ∷ [] → names_from p items ≡ name_at (names_of p) at ∷ []
one p none items at e h = pending_more p items none at h ∙ ap (λ l. name_at (names_of p) at ∷ names_from p l) e

pub loop-init : goal.loop-init
loop-init c =
    let old = c.args.both.old.now in
    let new = c.args.both.new.now in
    let i = c.args.owners.old in
    let j = c.args.owners.new in
    let pairs = c.args.pairs.now.list.items in
    let C = definitions_of old in
    let D = definitions_of new in
    let R = Paired old new pairs in
    let xs = name_at (names_of old) i ∷ [] in
    let ys = name_at (names_of new) j ∷ [] in
    let a = one old c.new-old_names.result.items c.push.new.self.items i c.new-old_names.ensures.items c.in_ok-push.ensures.items in
    let b = one new c.new-new_names.result.items c.push-2.new.self.items j c.new-new_names.ensures.items c.in_ok-push-2.ensures.items in
    let start : GoUntil C D R xs ys xs ys = begins in
    record {
      kept = keeps_same pairs;
      go = subst (λ z. GoUntil C D R xs ys (names_from old c.push.new.self.items) z) (sym b) (subst (λ z. GoUntil C D R xs ys z ys) (sym a) start);
    }

pub loop-preserved : goal.loop-preserved
loop-preserved c =
    let old = c.args.both.old.now in
    let new = c.args.both.new.now in
    let first = c.args.pairs.now.list.items in
    let before = c.loop.pairs.list.items in
    let after = c.definitions_go.new.pairs.list.items in
    let k = c.in_ok-definitions_go.ensures.kept in
    let xs = name_at (names_of old) c.args.owners.old ∷ [] in
    let ys = name_at (names_of new) c.args.owners.new ∷ [] in
    record {
      kept = keeps_on first before after c.loop.invariant.kept k;
      go = goes_next old new after xs ys c.loop.old_names.items c.loop.new_names.items c.next_of.new.names.items c.next_of-in-loop.new.names.items c.in-Some.old c.in-Some-2.new c.in-Some-Some.old c.in-Some-Some.new (goes_on_more (paired_kept (names_of old) (names_of new) before after k) c.loop.invariant.go) (subst (λ (o : Option Next). IfSome o (λ n. Finds old c.loop.old_names.items c.next_of.new.names.items n)) c.in-Some.is c.in_ok-old.ensures) (subst (λ (o : Option Next). IfSome o (λ n. Finds new c.loop.new_names.items c.next_of-in-loop.new.names.items n)) c.in-Some-2.is c.in_ok-new.ensures) c.if-old-new.false c.in-Some-Some.is-0 c.in-Some-Some.is-1 (c.in_ok-definitions_go.ensures.go c.if-not-branch.false);
    }
