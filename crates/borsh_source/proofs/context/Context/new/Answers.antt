use Rattle.std.proofs.Common.{◌≡◌, length, Some, None, refl, ap, subst, arith}
use Rattle.std.specs.Prelude.{slice_get, MatchOption}
use Rattle.borsh_walks.proofs.Tables.{Updated}
use Rattle.borsh_source.specs.Views.{index_of}
use Rattle.borsh_source.proofs.Indexed.{Indexing, indexing_more, indexed_all, updated_by}
use Rattle.borsh_source.proofs.Lists.{item_at}
use Rattle.borsh_source.proofs.context.Context.new.Goals as goal

pub loop-at-preserved : goal.loop-at-preserved
loop-at-preserved c =
    let at = subst (λ l. slice_get l c.loop-at.at ≡ Some c.item-item.result) c.deref-item-items.ensures.value (item_at c.deref-item-items.result.now c.loop-at.at c.item-item.result c.loop-at-test.true c.item-item.is) in
    let u = updated_by c.as_str-name.result.now c.loop-at.index c.insert.new.self c.first_place-first.result c.in_ok-insert.ensures.updates in
    let n = c.as_str-name.ensures.value in
    indexing_more c.args.source.now.items.items c.loop-at.at c.item-item.result (index_of c.loop-at.index) (index_of c.insert.new.self) c.first_place-first.result c.loop-at.invariant at
    (subst (λ y. Updated (index_of c.loop-at.index) (index_of c.insert.new.self) y c.first_place-first.result) n u)
    (subst (λ y. MatchOption c.first_place-first.result (Unit {0}) (λ i. (i ≡ c.loop-at.at) × (index_of c.loop-at.index y ≡ None))) n c.first_place-first.ensures)

pub returns : goal.returns
returns c =
    let l = ap length c.deref-item-items.ensures.value in
    let e : c.loop-at.at ≡ length c.args.source.now.items.items = omega (arith, l) in
    (indexed_all (record { alloc = c.args.alloc; source = c.args.source; index = c.loop-at.index }) (subst (λ n. Indexing c.args.source.now.items.items n (index_of c.loop-at.index)) e c.loop-at.invariant), refl)
