use Rattle.std.proofs.Common.{◌≡◌, List, [], ◌∷◌, length, None, ℕ, refl, sym, ◌∙◌, ap, subst, arith, false}
use Rattle.std.specs.{Prelude.{Bool}, Borrow.{Bor}}
use Rattle.borsh_plan.specs.{Plan.{planned, root_of}, declared.plan.Plan.{Plan}}
use Rattle.borsh_values.proofs.Bytes.{small_bytes}
use Rattle.borsh_json.specs.{Checked.{one, AreChecked}, Found.{forms_of, names_of}, Leaves.{Holds, long_of}, declared.position.Parts.TheVariants.{Root}, declared.position.Place.{Place}, Writes.{AreEach, IsMarked, IsWhole, IsWriting, IsWrittenOn}}
use Rattle.borsh_json.proofs.{Lockstep.{in_order}, WriterLaws.{root_marked}, WritingSteps.{writing_start}}
use Rattle.borsh_json.proofs.writing.write_value.Goals as goal

pub loop-init : goal.loop-init
loop-init c =
    let d = c.args.json.now in
    let F = forms_of d in
    let ns = names_of d in
    let root = root_of d.plan.now in
    let p = c.new-position in
    let s = writing_start F ns root c.args.bytes.now {long = long_of c.args.out} p.result.place p.result.outer.items [] p.ensures.place.0 p.ensures.place.1 p.ensures.outer refl (planned d.plan.now).first c.requires.member in (
      record {
        writer = record {
          plan = ap (λ l. l.now) (c.new-walk.ensures.plan ∙ c.plan-plan.ensures);
          long = long_of c.args.out;
          kept = refl;
          tokens = [];
          holds = c.requires.empty;
          offset = (let z = c.new-walk.ensures.offset in let l = ap (λ b. length b) c.new-walk.ensures.left in omega (arith, z, l));
          root = ap (λ (b : Bor (List ℕ)). b.now) p.ensures.root ∙ c.root.ensures ∙ ap (λ (l : Bor Plan). root_of l.now) c.plan-plan.ensures;
        };
        mark = ([], (Root, 0, None), None);
        marks = [];
        state = subst (λ (l : List ℕ). IsWriting F ns (long_of c.args.out) root c.args.bytes.now p.result.place p.result.outer.items ([], (Root, 0, None), None) [] l []) (sym c.new-walk.ensures.left) s;
        here = root_marked d c.args.bytes.now p.result.place p.ensures.place.0 p.ensures.place.1 p.ensures.place.2;
        around = subst (λ (ps : List Place). AreEach (IsMarked d c.args.bytes.now) ps []) (sym p.ensures.outer) refl;
      },
      refl,
    )

pub returns-then-not-more-clause-written : goal.returns-then-not-more-clause-written
returns-then-not-more-clause-written c =
    let d = c.args.json.now in
    let F = forms_of d in
    let root = root_of d.plan.now in
    let new = c.write_next.new.self in
    let t = c.if-not-more.true in
    let e : c.in_ok-more.more ≡ false = cc in
    let h = subst (λ (more : Bool). IsWrittenOn d new more) e c.in_ok-more.ensures.state in
    let b = ap (λ b. b.now) c.in_ok-more.ensures.bytes ∙ c.loop.invariant.1 in
    let w = subst (λ (b : List ℕ). IsWhole F (long_of new.out) root h.tokens b) b h.whole in
    let a = subst (λ (b : List ℕ). AreChecked F (one root ∷ []) b) b h.rises in
    (w.0, subst (λ ts. Holds new.out ts) w.1 h.holds, w.2, w.3, w.4, λ j says. in_order F root j c.args.bytes.now (small_bytes c.args.bytes.now (λ k. let b = c.type_inv.bytes k in omega (arith, b))) says a)
