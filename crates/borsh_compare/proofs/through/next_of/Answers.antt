use Rattle.std.proofs.Common.{◌≡◌, ◌∙◌, ◌+◌, ◌∷◌, sym, subst}
use Rattle.borsh_plan.specs.Names.{name_at}
use Rattle.borsh_plan.specs.Plan.{definitions_of, names_of}
use Rattle.borsh_compare.specs.Together.{PassesTo, stops}
use Rattle.borsh_compare.specs.Walks.{names_from}
use Rattle.borsh_compare.proofs.Reading.{pending_more, leads_past, leads_in}
use Rattle.borsh_compare.proofs.through.next_of.Goals as goal
use Rattle.borsh_compare.proofs.through.next_of.Goals.{in-Some-free_size+in-Some-checked_add, in_default-free_size+then-is_open+in_ok-open}

pub loop-init : goal.loop-init
loop-init c = stops

pub loop-preserved : goal.loop-preserved
loop-preserved c =
    let p = c.args.plan.now in
    let C = definitions_of p in
    let init = names_from p c.args.names.now.items in
    let at = c.in-Some.at in
    let popped = c.pop.new.self.items in
    let l : PassesTo C init c.loop.bytes (name_at (names_of p) at ∷ names_from p popped) = subst (λ z. PassesTo C init c.loop.bytes z) (pending_more p c.loop.names.items popped at c.in-Some.ensures.items) c.loop.invariant in
    elim c.match-free_size.branch [
      | in-Some-free_size+in-Some-checked_add w ↦
          (let size = w.in-Some-free_size.size in
          let a = leads_past p init (names_from p popped) at c.loop.bytes size l w.in-Some-free_size.ensures in
          let sum : c.match-free_size.bytes ≡ c.loop.bytes + size = w.bytes-is ∙ w.in-Some-checked_add.ensures.1 in
          subst (λ v. PassesTo C init c.match-free_size.bytes (names_from p v.items)) (sym w.names-is) (subst (λ n. PassesTo C init n (names_from p popped)) (sym sum) a))
      | in_default-free_size+then-is_open+in_ok-open w ↦
          (let s = w.is_open.ensures w.if-is_open.true in
          let a = leads_in p init (names_from p popped) at c.loop.bytes s.0 l s.1 in
          let b = subst (λ z. PassesTo C init c.loop.bytes z) (sym w.in_ok-open.ensures) a in
          subst (λ v. PassesTo C init c.match-free_size.bytes (names_from p v.items)) (sym w.names-is) (subst (λ n. PassesTo C init n (names_from p w.open.new.names.items)) (sym w.bytes-is) b))
    ]
