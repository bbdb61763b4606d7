use Rattle.std.proofs.Common.{◌∙◌, sym, arith, below_more}
use Rattle.borsh_plan.specs.Names.{parts_in, shape_at}
use Rattle.borsh_plan.specs.Plan.{names_of}
use Rattle.borsh_compare.specs.Walks.{PartGoes}
use Rattle.borsh_compare.proofs.Parts.{names_paired, parts_length}
use Rattle.borsh_compare.proofs.alike.parts_paired.Goals as goal

pub loop-index-preserved : goal.loop-index-preserved
loop-index-preserved c = below_more (λ a. PartGoes c.args.both.old.now c.args.both.new.now c.args.pairs.now.list.items c.args.at.old c.args.at.new a a) c.loop-index.index c.loop-index.invariant (c.part_paired.ensures c.if-not-part_paired.false)

pub returns : goal.returns
returns c =
    let old = c.args.both.old.now in
    let new = c.args.both.new.now in
    let a = parts_length (names_of old) c.parts-count.result.now (parts_in (shape_at (names_of old) c.args.at.old)) c.parts-count.ensures in
    let b = parts_length (names_of new) c.parts.result.now (parts_in (shape_at (names_of new) c.args.at.new)) c.parts.ensures in
    λ e. names_paired old new c.args.pairs.now.list.items c.args.at.old c.args.at.new (sym a ∙ sym c.if-parts-count.false ∙ b) (λ i low. c.loop-index.invariant i (let h = c.loop-index-test.false in omega (arith, a, low, h)))
