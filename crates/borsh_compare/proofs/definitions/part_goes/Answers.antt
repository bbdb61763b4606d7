use Rattle.borsh_compare.proofs.Staying.{part_stays}
use Rattle.borsh_compare.proofs.definitions.part_goes.Goals as goal

pub returns-clause-stays : goal.returns-clause-stays
returns-clause-stays c =
    let a = c.in-Some.ensures.place in
    let b = c.in-Some-part.ensures.place in
    part_stays c.args.both.old.now c.args.both.new.now c.args.owners.old c.args.owners.new c.args.old_index c.args.new_index c.in-Some.old c.in-Some-part.new c.pair.result c.args.pairs.now.list.items c.add.new.self.list.items c.add.result c.pair.ensures.old c.pair.ensures.new a.0 a.1 b.0 b.1 c.add.ensures.only c.add.ensures.full
