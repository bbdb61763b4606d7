use Rattle.std.proofs.Common.{ℕ, List, length, ap, arith, refl}
use Rattle.std.specs.Prelude.{ℤ, string_bytes}
use Rattle.std.proofs.lemmas.List.{length-map}
use Rattle.borsh_plan.specs.Plan.{names_of}
use Rattle.borsh_values.proofs.TagLaws.{got}
use Rattle.borsh_compare.specs.Together.{unnamed}
use Rattle.borsh_compare.specs.Walks.{Paired}
use Rattle.borsh_compare.proofs.Parts.{variants_step}
use Rattle.borsh_compare.proofs.Keeping.{keeps_on, paired_kept, variants_more}
use Rattle.borsh_compare.proofs.Staying.{part_of_variants}
use Rattle.borsh_compare.proofs.definitions.variants_go.Goals as goal

pub loop-discriminant-preserved : goal.loop-discriminant-preserved
loop-discriminant-preserved c =
    let old = c.args.both.old.now in
    let new = c.args.both.new.now in
    let items = c.args.variants.now.items in
    let n = c.loop-discriminant.index in
    let f = c.in-Some.field-0.now in
    let v = got items _ n f c.deref.ensures.value c.in-Some.ensures.lookup.3.0 c.in-Some.ensures.lookup.1 in
    let first = c.args.pairs.now.list.items in
    let before = c.loop-discriminant.pairs.list.items in
    let after = c.part_goes.new.pairs.list.items in
    let k = c.in_ok-part_goes.ensures.kept in
    let d = c.in-Some-index_for.ensures.some in
    let us = unnamed c.args.others.now.items in
    let vs = unnamed items in
    let g = c.in_ok-part_goes.ensures.go c.if-not-branch.false in
    let here = variants_step old new after c.args.owners.old c.args.owners.new n c.in-Some-index_for.at vs us f.0 (string_bytes f.2) d.0 c.requires.old c.requires.new g v.listed d.1 in
    record {
      kept = keeps_on first before after c.loop-discriminant.invariant.kept k;
      go = variants_more (Paired old new before) (Paired old new after) (paired_kept (names_of old) (names_of new) before after k) n vs us f.0 (string_bytes f.2) c.loop-discriminant.invariant.go v.listed here;
      stays = λ S corresponds f0. (c.in_ok-part_goes.ensures.stays S (part_of_variants old new S c.args.owners.old c.args.owners.new n c.in-Some-index_for.at vs us f.0 (string_bytes f.2) c.requires.old c.requires.new v.listed (corresponds n f.0 (string_bytes f.2) v.listed) d) (c.loop-discriminant.invariant.stays S corresponds f0)).0;
    }

pub returns-then-not-branch-clause-stays : goal.returns-then-not-branch-clause-stays
returns-then-not-branch-clause-stays c =
    let items = c.args.variants.now.items in
    let n = c.loop-discriminant.index in
    let f = c.in-Some.field-0.now in
    let v = got items _ n f c.deref.ensures.value c.in-Some.ensures.lookup.3.0 c.in-Some.ensures.lookup.1 in
    λ S corresponds f0.
    let s = c.in_ok-part_goes.ensures.stays S (part_of_variants c.args.both.old.now c.args.both.new.now S c.args.owners.old c.args.owners.new n c.in-Some-index_for.at (unnamed items) (unnamed c.args.others.now.items) f.0 (string_bytes f.2) c.requires.old c.requires.new v.listed (corresponds n f.0 (string_bytes f.2) v.listed) c.in-Some-index_for.ensures.some) (c.loop-discriminant.invariant.stays S corresponds f0) in
    (s.0, λ e. s.1 c.if-not-branch.true)

pub returns-in_default-index_for-clause-stays : goal.returns-in_default-index_for-clause-stays
returns-in_default-index_for-clause-stays c =
    let items = c.args.variants.now.items in
    let n = c.loop-discriminant.index in
    let f = c.in-Some.field-0.now in
    let v = got items _ n f c.deref.ensures.value c.in-Some.ensures.lookup.3.0 c.in-Some.ensures.lookup.1 in
    λ S corresponds f0.
    let w = corresponds n f.0 (string_bytes f.2) v.listed in
    absurd (c.in_default-index_for.ensures.none refl w.index w.part w.there)

pub returns-clause-go : goal.returns-clause-go
returns-clause-go c =
    let items = c.args.variants.now.items in
    let l = c.in_default.ensures.lookup.3 in
    let k = length-map {B = ℤ × List ℕ} items (λ v. (v.0, string_bytes v.2)) in
    let d = ap (λ l. length l) c.deref.ensures.value in
    λ e i j p low there. c.loop-discriminant.invariant.go i j p (omega (arith, low, l, k, d)) there
