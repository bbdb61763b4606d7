use Rattle.std.proofs.Common.{rules, sym, subst}
use Rattle.std.specs.Cmp.Lexicographic.{slice_cmp}
use Rattle.std.specs.Ordering.{nat_cmp}
use Rattle.std.proofs.lemmas.Fn.{always_returns_same}
use Rattle.borsh_walks.specs.Places.{AreEntries, AreInOrder}
use Rattle.borsh_walks.proofs.PlaceLaws.{ordered_by, search_hit, search_miss}
use Rattle.borsh_walks.proofs.places.Places.find.Goals as goal

pub returns-in-Ok : goal.returns-in-Ok
returns-in-Ok c =
    let vs = c.as_slice-entries.result.now in
    let es = c.args.self.now.map.now.entries in
    let l = subst (λ t. AreEntries es t × AreInOrder t) (sym c.as_slice-entries.ensures.value) c.requires in
    let e = c.in-Ok.ensures.position (λ y. slice_cmp nat_cmp y.0.now c.args.name.now) (always_returns_same _ _ _ (λ a r f k. search rules)) in
    let h = search_hit vs es c.args.name.now c.in-Ok.place c.index-entries-place.result l.0 l.1 c.in-Ok.ensures.bound (e c.index-entries-place.result) in
    record { place = sym h.0; definition = sym h.1 }

pub returns-in-Err : goal.returns-in-Err
returns-in-Err c =
    let vs = c.as_slice-entries.result.now in
    let es = c.args.self.now.map.now.entries in
    let l = subst (λ t. AreEntries es t × AreInOrder t) (sym c.as_slice-entries.ensures.value) c.requires in
    let e = c.in-Err.ensures.position (λ y. slice_cmp nat_cmp y.0.now c.args.name.now) (always_returns_same _ _ _ (λ a r f k. search rules)) (ordered_by vs c.args.name.now l.1) in
    let h = search_miss vs es c.args.name.now c.in-Err.field-0 l.0 e.0 e.1 in
    record { place = sym h.0; definition = sym h.1 }
