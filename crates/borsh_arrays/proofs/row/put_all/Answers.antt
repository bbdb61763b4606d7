use Rattle.std.proofs.Common.{◌<◌, ◌+◌, ◌∙◌, arith, rules}
use Rattle.core.proofs.slots.Fills.{Filled-put, Filled-none}
use Rattle.borsh_arrays.proofs.Made.{take-put, IsMadeBehind-none, IsMadeBehind-more}
use Rattle.borsh_arrays.proofs.row.put_all.Goals as goal

pub loop-count-init : goal.loop-count-init
loop-count-init g c =
    let old = c.args.row in
    let new = c.put.new.self in
    let told = c.put.ensures in
    record {
      same_places = told.places;
      some = omega arith;
      within = omega (arith, c.requires, told.places.count);
      filled = Filled-put old.filled new.filled 0 0 1 told.filled (omega (arith, c.requires, old.ok.1)) (Filled-none old.filled 0 0 (omega arith)) (Filled-none old.filled 1 1 (omega arith));
      made = IsMadeBehind-none (take-put old.items new.items 0 c.args.first told.items (omega (arith, c.requires, old.ok.0)));
    }

pub loop-count-preserved : goal.loop-count-preserved
loop-count-preserved g c =
    let count = c.loop-count.count in
    let so_far = c.loop-count.invariant in
    let old = c.loop-count.row in
    let new = c.put-in-Some.new.self in
    let told = c.put-in-Some.ensures in
    let inside : count < old.len = omega (arith, c.loop-count-test.true, c.len.ensures) in
    record {
      same_places = record { start = told.places.start ∙ so_far.same_places.start; count = told.places.count ∙ so_far.same_places.count };
      some = omega arith;
      within = omega (arith, told.places.count, inside);
      filled = Filled-put old.filled new.filled count 0 (count + 1) told.filled (omega (arith, old.ok.1, inside)) so_far.filled (Filled-none old.filled (count + 1) (count + 1) (omega arith));
      made = IsMadeBehind-more (take-put old.items new.items count c.in-Some.value told.items (omega (arith, old.ok.0, inside))) (omega (arith, so_far.some)) so_far.made (search rules);
    }
