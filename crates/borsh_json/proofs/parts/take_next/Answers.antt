use Rattle.std.proofs.Common.{◌≡◌, [], refl, sym, ◌∙◌, ap}
use Rattle.borsh_plan.specs.Plan.{map_of, names_of as plan_names}
use Rattle.borsh_json.specs.{declared.position.Key.TheVariants.{None as NoKey, Name, Entry as EntryOf}, Forms.{forms_in}}
use Rattle.borsh_json.proofs.LoopLaws.{place_end, part_next, entry_next}
use Rattle.borsh_json.proofs.parts.take_next.Goals as goal

pub returns-in_default-clause-next : goal.returns-in_default-clause-next
returns-in_default-clause-next c d x i own ds r =
    let F = forms_in (map_of c.args.json.now.plan.now) in
    let ns = plan_names c.args.json.now.plan.now in
    let e = place_end F ns d x i own ds r.kind c.args.place.now c.args.source.now r.left (λ ws w. c.in_default.ensures.part ws w) r.here r.says r.is_place in
    (refl, e.0, e.1)

pub returns-in-Entry-clause-next : goal.returns-in-Entry-clause-next
returns-in-Entry-clause-next c d x i own ds r =
    let F = forms_in (map_of c.args.json.now.plan.now) in
    let ns = plan_names c.args.json.now.plan.now in
    entry_next F ns d x i own ds r.kind c.args.out.now.items c.args.place.now c.next_part.new.self c.args.source.now c.next_entry.new.source c.in-Some.part (λ ws w. c.in-Some.ensures.part ws w) c.next_part.ensures.same.0 c.in-Some.ensures.begun c.next_entry.new.out.items c.in-Entry.entries c.in-Entry.is c.next_entry.result (λ keys k v es. c.next_entry.ensures F ns keys k v es) r.left r.here r.says r.is_place

pub returns-in-Name-clause-next : goal.returns-in-Name-clause-next
returns-in-Name-clause-next c d x i own ds r =
    let F = forms_in (map_of c.args.json.now.plan.now) in
    let ns = plan_names c.args.json.now.plan.now in
    part_next F ns d x i own ds r.kind c.args.out.now.items c.args.place.now c.next_part.new.self c.args.source.now c.take.new.self c.in-Some.part (λ ws w. c.in-Some.ensures.part ws w) c.next_part.ensures.same.0 c.in-Some.ensures.begun c.in-Name.name.now
    (λ nm e. let q : Name c.in-Name.name ≡ Name nm = sym c.in-Name.is ∙ e in let d : c.in-Name.name ≡ nm = cc in ap (λ b. b.now) d)
    (λ es e. let q : Name c.in-Name.name ≡ EntryOf es = sym c.in-Name.is ∙ e in cc)
    c.take.result c.found.result c.take.ensures.items c.take.ensures.fields c.found.ensures r.left r.here r.says r.is_place

pub returns-in-None-clause-next : goal.returns-in-None-clause-next
returns-in-None-clause-next c d x i own ds r =
    let F = forms_in (map_of c.args.json.now.plan.now) in
    let ns = plan_names c.args.json.now.plan.now in
    part_next F ns d x i own ds r.kind c.args.out.now.items c.args.place.now c.next_part.new.self c.args.source.now c.take-in-None.new.self c.in-Some.part (λ ws w. c.in-Some.ensures.part ws w) c.next_part.ensures.same.0 c.in-Some.ensures.begun []
    (λ nm e. let q : NoKey ≡ Name nm = sym c.in-None.is ∙ e in cc)
    (λ es e. let q : NoKey ≡ EntryOf es = sym c.in-None.is ∙ e in cc)
    c.take-in-None.result c.found-in-None.result c.take-in-None.ensures.items c.take-in-None.ensures.fields c.found-in-None.ensures r.left r.here r.says r.is_place
