use Rattle.std.proofs.Common.{◌∙◌, subst, Some}
use Rattle.std.specs.Prelude.{is_ok}
use Rattle.std.specs.BTreeMap.{Updates}
use Rattle.borsh_compare.specs.Indexed.{pair_cmp}
use Rattle.borsh_compare.proofs.Tables.{keeps_pushed, has_pushed, only_pushed, indexed_pushed, indexed_either}
use Rattle.borsh_compare.proofs.pairs.Pairs.add.Goals as goal

pub invariant_of-self-2 : goal.invariant_of-self-2
invariant_of-self-2 c =
    let a = c.args.self.now.list.items in
    let p = c.args.pair in
    let t = c.args.self.now.table in
    let u = c.insert.new.self in
    record {
      indexed = indexed_either a c.push.new.self.items p u (is_ok c.push.result) c.push.ensures.items (indexed_pushed a p t u c.args.self.now.indexed (c.has.ensures.isnt c.if-has.false) (subst (λ n. Updates pair_cmp t u (p.old, p.new) (Some n)) (c.len-index.ensures ∙ c.args.self.now.list.ok.0) c.in_ok-insert.ensures.updates));
    }

pub returns-clause-kept : goal.returns-clause-kept
returns-clause-kept c = keeps_pushed c.args.self.now.list.items c.push.new.self.items c.args.pair c.in_ok-push.ensures.items

pub returns-clause-added : goal.returns-clause-added
returns-clause-added c = λ e. has_pushed c.args.self.now.list.items c.push.new.self.items c.args.pair c.in_ok-push.ensures.items

pub returns-clause-only : goal.returns-clause-only
returns-clause-only c = only_pushed c.args.self.now.list.items c.push.new.self.items c.args.pair c.in_ok-push.ensures.items
