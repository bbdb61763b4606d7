use Rattle.std.proofs.Common.{◌≡◌, ◌+◌, ◌∙◌, ℕ, length, sym, ap, subst, arith, List, Some, None}
use Rattle.std.specs.Prelude.{Option, slice_get}
use Rattle.std.specs.BTreeMap.{btree_map_len}
use Rattle.borsh_walks.specs.Definitions.{shape_of}
use Rattle.borsh_walks.specs.Container.{references}
use Rattle.borsh_walks.specs.Tables.{mark_of}
use Rattle.borsh_walks.proofs.Measure.{work, work_within}
use Rattle.borsh_walks.proofs.Names.{next_below}
use Rattle.borsh_walks.proofs.Tables.{marks_none}
use Rattle.borsh_plan.specs.declared.named.Named.{Named}
use Rattle.borsh_plan.specs.Names.{Grows, IsPartOf}
use Rattle.borsh_plan.proofs.Building.{Building, building_start, building_missing, building_defined, building_end, index_start, room, defined_here, fewer_missing, fewer_defined, longer}
use Rattle.borsh_plan.proofs.names.Names.new.Goals as goal

pub place_of-requires : goal.place_of-requires
place_of-requires c = index_start c.args.map.now c.args.root.now c.in_ok-names.ensures.items (marks_none c.new-places.result c.new-places.ensures.empty)

pub loop-named-init : goal.loop-named-init
loop-named-init c = building_start c.args.map.now c.args.root.now c.in_ok-_first._first c.in_ok-names.ensures.items c.in_ok-_first.ensures.index c.in_ok-_first.ensures.grown c.in_ok-_first.ensures.place c.in_ok-parts.ensures.items

next : (ns : List Named) (o : Option Named) (k n : ℕ) → k ≡ n → o ≡ slice_get ns k → slice_get ns n ≡ o
next ns o k n f h = sym (h ∙ ap (λ i. slice_get ns i) f)

pub overflow_add-defined : goal.overflow_add-defined
overflow_add-defined c =
    let l = c.loop-named in
    let e = next l.names.items (Some c.in-Some.named) c.len.result (length l.parts.items) (c.len.ensures ∙ l.parts.ok.0) c.in-Some.ensures in
    let r = room c.args.map.now c.args.root.now c.in-Some.named c.in-Some-definition.definition l.invariant e c.in-Some-definition.is in
    omega (arith, r)

pub loop-named-smaller-in-Some-definition : goal.loop-named-smaller-in-Some-definition
loop-named-smaller-in-Some-definition c =
    let m = c.args.map.now in
    let l = c.loop-named in
    let d = c.in-Some-definition.definition in
    let e = next l.names.items (Some c.in-Some.named) c.len.result (length l.parts.items) (c.len.ensures ∙ l.parts.ok.0) c.in-Some.ensures in
    let r = room m c.args.root.now c.in-Some.named d l.invariant e c.in-Some-definition.is in
    let w = work_within references m c.in-Some.named.name.now (shape_of d.now) (defined_here m c.args.root.now c.in-Some.named d l.invariant e c.in-Some-definition.is) in
    fewer_defined (btree_map_len m) (work references m.entries) l.defined (length l.names.items) (length l.parts.items) (length c.parts_of.new.names.items) (length c.push.new.self.items) (length (references (shape_of d.now))) r (next_below l.names.items (length l.parts.items) c.in-Some.named e) c.in_ok-own-in-Some-definition.ensures.grown.few w (ap (λ l. length l) c.in_ok-push-in-Some-definition.ensures.items ∙ longer l.parts.items c.in_ok-own-in-Some-definition.own)

pub loop-named-preserved-in-Some-definition : goal.loop-named-preserved-in-Some-definition
loop-named-preserved-in-Some-definition c =
    let m = c.args.map.now in
    let l = c.loop-named in
    let d = c.in-Some-definition.definition in
    let o = c.in_ok-own-in-Some-definition in
    let e = next l.names.items (Some c.in-Some.named) c.len.result (length l.parts.items) (c.len.ensures ∙ l.parts.ok.0) c.in-Some.ensures in
    subst (λ v. Building m c.args.root.now c.parts_of.new.names.items (mark_of c.parts_of.new.places) v (c.loop-named.defined + 1)) (sym c.in_ok-push-in-Some-definition.ensures.items)
    (building_defined m c.args.root.now c.in-Some.named d l.invariant e c.in-Some-definition.is o.own o.ensures.index (subst (λ f. Grows (IsPartOf (references (shape_of d.now)) f) (length (references (shape_of d.now))) l.names.items c.parts_of.new.names.items) (c.len-from.ensures ∙ l.parts.ok.0) o.ensures.grown) o.ensures.parts)

pub loop-named-smaller : goal.loop-named-smaller
loop-named-smaller c =
    let m = c.args.map.now in
    let l = c.loop-named in
    let e = next l.names.items (Some c.in-Some.named) c.len.result (length l.parts.items) (c.len.ensures ∙ l.parts.ok.0) c.in-Some.ensures in
    fewer_missing (btree_map_len m) (work references m.entries) l.defined (length l.names.items) (length l.parts.items) (length c.push-in-None.new.self.items) (next_below l.names.items (length l.parts.items) c.in-Some.named e) (ap (λ l. length l) c.in_ok-push-in-None.ensures.items ∙ longer l.parts.items c.new.result)

pub loop-named-preserved : goal.loop-named-preserved
loop-named-preserved c =
    let m = c.args.map.now in
    let l = c.loop-named in
    let e = next l.names.items (Some c.in-Some.named) c.len.result (length l.parts.items) (c.len.ensures ∙ l.parts.ok.0) c.in-Some.ensures in
    subst (λ v. Building m c.args.root.now l.names.items (mark_of l.places) v l.defined) (sym c.in_ok-push-in-None.ensures.items)
    (building_missing m c.args.root.now c.in-Some.named c.new.result l.invariant e c.in-None.is c.new.ensures.items)

pub invariant_of-result : goal.invariant_of-result
invariant_of-result c =
    let l = c.loop-named in
    record { planned = building_end c.args.map.now c.args.root.now l.invariant (next l.names.items None c.len.result (length l.parts.items) (c.len.ensures ∙ l.parts.ok.0) c.in_default.ensures) }
