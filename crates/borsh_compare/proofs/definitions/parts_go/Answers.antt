use Rattle.std.proofs.Common.{◌∙◌, sym, arith, below_more}
use Rattle.borsh_plan.specs.Names.{parts_in, shape_at}
use Rattle.borsh_plan.specs.Plan.{names_of}
use Rattle.borsh_compare.specs.Walks.{PartGoes}
use Rattle.borsh_compare.proofs.Parts.{names_paired, parts_length}
use Rattle.borsh_compare.proofs.Keeping.{keeps_on, part_kept}
use Rattle.borsh_compare.proofs.Staying.{part_of_names}
use Rattle.borsh_compare.proofs.definitions.parts_go.Goals as goal

pub loop-index-preserved : goal.loop-index-preserved
loop-index-preserved c =
    let old = c.args.both.old.now in
    let new = c.args.both.new.now in
    let first = c.args.pairs.now.list.items in
    let before = c.loop-index.pairs.list.items in
    let after = c.part_goes.new.pairs.list.items in
    let k = c.in_ok-part_goes.ensures.kept in
    let xs = parts_in (shape_at (names_of old) c.args.owners.old) in
    let a = parts_length (names_of old) c.parts-count.result.now xs c.parts-count.ensures in
    record {
      kept = keeps_on first before after c.loop-index.invariant.kept k;
      go = below_more (λ a. PartGoes old new after c.args.owners.old c.args.owners.new a a) c.loop-index.index (λ a low. part_kept old new before after c.args.owners.old c.args.owners.new a a k (c.loop-index.invariant.go a low)) (c.in_ok-part_goes.ensures.go c.if-not-branch.false);
      stays = λ S g f. (c.in_ok-part_goes.ensures.stays S (part_of_names old new S c.args.owners.old c.args.owners.new c.loop-index.index g (let h = c.loop-index-test.true in omega (arith, a, h))) (c.loop-index.invariant.stays S g f)).0;
    }

pub returns-then-not-branch-clause-stays : goal.returns-then-not-branch-clause-stays
returns-then-not-branch-clause-stays c =
    let old = c.args.both.old.now in
    let new = c.args.both.new.now in
    let xs = parts_in (shape_at (names_of old) c.args.owners.old) in
    let a = parts_length (names_of old) c.parts-count.result.now xs c.parts-count.ensures in
    λ S g f.
    let s = c.in_ok-part_goes.ensures.stays S (part_of_names old new S c.args.owners.old c.args.owners.new c.loop-index.index g (let h = c.loop-index-test.true in omega (arith, a, h))) (c.loop-index.invariant.stays S g f) in
    (s.0, λ e. s.1 c.if-not-branch.true)

pub returns-clause-go : goal.returns-clause-go
returns-clause-go c =
    let old = c.args.both.old.now in
    let new = c.args.both.new.now in
    let xs = parts_in (shape_at (names_of old) c.args.owners.old) in
    let ys = parts_in (shape_at (names_of new) c.args.owners.new) in
    let a = parts_length (names_of old) c.parts-count.result.now xs c.parts-count.ensures in
    let b = parts_length (names_of new) c.parts.result.now ys c.parts.ensures in
    λ e. names_paired old new c.loop-index.pairs.list.items c.args.owners.old c.args.owners.new (sym a ∙ sym c.if-parts-count.false ∙ b) (λ i low. c.loop-index.invariant.go i (let h = c.loop-index-test.false in omega (arith, a, low, h)))
