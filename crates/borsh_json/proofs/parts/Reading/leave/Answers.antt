use Rattle.std.proofs.Common.{refl, ◌≡◌, ◌∷◌, ◌++◌, ◌∙◌, [], ℕ, List, length, arith, true, false, sym, ap, subst}
use Rattle.borsh_plan.specs.Plan.{map_of, names_of as plan_names}
use Rattle.borsh_json.specs.{declared.position.Place.{Place}, declared.sources.Source.{Source}, Forms.{forms_in}, Frames.{HaveAround, IsEnded, steps_at, steps_through}, NoValue.{HasOther}}
use Rattle.borsh_json.proofs.ReadingLaws.{around_here, reached, bottom, popped, no_around, up_inside, reading_end, left_steps, name_unread}
use Rattle.borsh_json.proofs.parts.Reading.leave.Goals as goal

no_sources : (xs : List Source) → length xs ≡ 0 → xs ≡ []
no_sources [] e = refl
no_sources (x ∷ xs) e = absurd (omega arith)

pub returns-in-Some : goal.returns-in-Some
returns-in-Some c root j b =
    let old = c.args.self.now in
    let F = forms_in (map_of c.args.json.now.plan.now) in
    let ns = plan_names c.args.json.now.plan.now in
    let new = c.leave-is_part.new.self in
    let h = around_here F ns root j old.position.outer.items old.outer.items 0 [] [] root j b.1 in
    let t = h.7 in
    let at = reached F ns root j h.0 h.1 h.2 h.3 h.4 t.stands in
    let steps = left_steps c.leave-is_part.result old.position.outer.items new.outer.items old.position.place new.place c.leave-is_part.ensures.left (λ e. let s = c.leave-is_part.ensures.stays e in (c.leave-is_part.ensures.all e, s.0, s.1)) (λ z. t.at_root (let e = h.5 in omega (arith, e, z))) in
    name_unread F ns root j h.1 h.2 h.3 h.4 at.0 at.1 c.in_ok-name.name c.refused.result new.root.now (steps_through new.outer.items ++ steps_at new.place) (ap (λ r. r.now) c.leave-is_part.ensures.root ∙ b.0) c.refused.ensures.same c.refused.ensures.path (steps ∙ sym h.6) (subst (λ (name : List ℕ). HasOther F h.3 h.4 name) (sym c.in_ok-name.ensures.ok) (t.others c.in-Some.key.now c.in-Some.ensures))

pub returns-then-not-is_part : goal.returns-then-not-is_part
returns-then-not-is_part c root j b =
    let old = c.args.self.now in
    let F = forms_in (map_of c.args.json.now.plan.now) in
    let ns = plan_names c.args.json.now.plan.now in
    let t = c.if-not-is_part.true in
    let e : c.leave-is_part.result ≡ false = cc in
    reading_end F ns root j old.position.place old.source old.out.items c.in_default.ensures (bottom F ns root j old.position.outer.items old.outer.items 0 [] [] root j _ b.1 (c.leave-is_part.ensures.all e))

pub returns-in-Some-pop : goal.returns-in-Some-pop
returns-in-Some-pop c root j b =
    let old = c.args.self.now in
    let F = forms_in (map_of c.args.json.now.plan.now) in
    let ns = plan_names c.args.json.now.plan.now in
    let new = c.leave-is_part.new.self in
    let around = c.in-Some-pop.around in
    let t = c.if-not-is_part.false in
    let e : c.leave-is_part.result ≡ true = cc in
    let places = subst (λ (ps : List Place). HaveAround F ns root j ps old.outer.items 0 [] [] root j (IsEnded F ns root j old.position.place old.source old.out.items)) (c.leave-is_part.ensures.left e) b.1 in
    let sources = subst (λ (ss : List Source). HaveAround F ns root j (new.outer.items ++ new.place ∷ []) ss 0 [] [] root j (IsEnded F ns root j old.position.place old.source old.out.items)) c.in-Some-pop.ensures.items places in
    (ap (λ r. r.now) c.leave-is_part.ensures.root ∙ b.0, popped F ns root j new.outer.items c.pop.new.self.items new.place around 0 [] [] root j _ _ (λ d path before x i out y k begun ended. up_inside F ns root j new.place old.position.place around old.source old.out.items d path before x i out y k c.in_default.ensures begun ended) sources)

pub returns-in-None : goal.returns-in-None
returns-in-None c root j b =
    let old = c.args.self.now in
    let F = forms_in (map_of c.args.json.now.plan.now) in
    let ns = plan_names c.args.json.now.plan.now in
    let new = c.leave-is_part.new.self in
    let t = c.if-not-is_part.false in
    let e : c.leave-is_part.result ≡ true = cc in
    let z : length old.outer.items ≡ 0 = (let h = c.in-None.ensures.cases in let k = old.outer.ok.0 in omega arith) in
    absurd (no_around F ns root j old.position.outer.items new.outer.items new.place old.outer.items 0 [] [] root j _ b.1 (no_sources old.outer.items z) (c.leave-is_part.ensures.left e))
