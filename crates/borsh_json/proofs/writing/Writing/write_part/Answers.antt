use Rattle.std.proofs.{Common.{◌≡◌, [], ◌∷◌, ◌++◌, Option, refl, sym, subst, length}, lemmas.Result.{err_from_is_err_and}}
use Rattle.std.specs.Prelude.{MatchOption}
use Rattle.borsh_plan.specs.Plan.{root_of}
use Rattle.borsh_json.specs.{declared.error.JsonError.{JsonError}, declared.output.Output.{Output}, declared.position.Place.{Place}, declared.writing.Writing.{Writing}, Forms.{form_of, shape_of_form}, Found.{forms_of, names_of}, Frames.{steps_at, steps_through}, Writes.{Rest, names_of_rest, names_of_all, HasNode, IsRest, IsNewPlace, AreCalled, WritesFront, Stops, IsAwaitingAt}}
use Rattle.borsh_walks.specs.Container.{product}
use Rattle.borsh_json.proofs.{FoundLaws.{not_true}, WriterLaws.{stops_value, stops_full, is_deep, undefined_next, zero_begun, struct_begun}}
use Rattle.borsh_json.proofs.writing.Writing.write_part.Goals as goal

pub returns-then-is_zero_size-clause-part : goal.returns-then-is_zero_size-clause-part
returns-then-is_zero_size-clause-part c x i a =
    let w = c.args.self.now in
    let new : Writing = record { walk = w.walk; position = w.position; out = c.put.new.self; bytes = w.bytes } in
    zero_begun c.args.json.now w new x a refl refl refl ((c.is_zero_size.ensures x i).0 c.if-is_zero_size.true) c.in_ok-put.ensures refl refl

pub returns-in_default-clause-part : goal.returns-in_default-clause-part
returns-in_default-clause-part c x i a =
    let s = a.state in
    undefined_next (forms_of c.args.json.now) x c.args.self.now.walk.left.now (names_of_all (s.inner ∷ s.around)) s.halved.read.1 (c.in_default.ensures.kind x i (not_true c.is_zero_size.result (c.is_zero_size.ensures x i) c.if-is_zero_size.false))

pub returns-in_err-enter-in-Ok-Some-clause-part : goal.returns-in_err-enter-in-Ok-Some-clause-part
returns-in_err-enter-in-Ok-Some-clause-part c x i a =
    let d = c.args.json.now in
    let w = c.args.self.now in
    let q = c.from_residual-in_err-enter-in-Ok-Some in
    let p = err_from_is_err_and q.result q.ensures.1 in
    rw (p.1, p.2) (stops_full (forms_of d) (root_of d.plan.now) w.bytes.now w.position.root.now a.writer.root (length w.position.outer.items) (steps_through w.position.outer.items ++ steps_at w.position.place) a.state.done w.walk.left.now x c.in_err-enter-in-Ok-Some.field-0.0 (is_deep d w x a) c.in_err-enter-in-Ok-Some.ensures.full c.in_err-enter-in-Ok-Some.ensures.path)

pub returns-in_ok-enter-in-Ok-Some-clause-part : goal.returns-in_ok-enter-in-Ok-Some-clause-part
returns-in_ok-enter-in-Ok-Some-clause-part c x i a =
    let d = c.args.json.now in
    let w = c.args.self.now in
    let F = forms_of d in
    let ns = names_of d in
    let kind = c.in-Some.ensures.kind x i (not_true c.is_zero_size.result (c.is_zero_size.ensures x i) c.if-is_zero_size.false) in
    let f = form_of c.in-Some.field-0-0.now in
    let h = subst (λ (o : Option Place). MatchOption o (HasNode c.in-Some.kind × (c.begin_struct.new.out ≡ w.out)) (λ p. (r : Rest) × IsRest F ns p r × WritesFront F x [] r w.out c.begin_struct.new.out × (shape_of_form f ≡ product (names_of_rest r)) × IsNewPlace c.in-Some.kind p × AreCalled f [] p.parts (names_of_rest r))) c.in-Ok-Some.field-0-is (c.in-Ok-Some.ensures F ns x f i kind.0 kind.1) in
    let new : Writing = record { walk = w.walk; position = c.enter.new.self; out = c.begin_struct.new.out; bytes = w.bytes } in
    let z = c.in_ok-enter-in-Ok-Some.ensures in
    struct_begun d w new x a f kind.0 c.in-Ok-Some.place (not_true c.is_zero_size.result (c.is_zero_size.ensures x i) c.if-is_zero_size.false) z.root refl refl z.room c.in-Some.kind kind.1 (c.in-Some.ensures.order x i) h.0 h.1 h.2 h.3 h.4 h.5 z.place z.outer

pub returns-in-Ok-None-clause-part : goal.returns-in-Ok-None-clause-part
returns-in-Ok-None-clause-part c x i a =
    let d = c.args.json.now in
    let w = c.args.self.now in
    let F = forms_of d in
    let ns = names_of d in
    let kind = c.in-Some.ensures.kind x i (not_true c.is_zero_size.result (c.is_zero_size.ensures x i) c.if-is_zero_size.false) in
    let f = form_of c.in-Some.field-0-0.now in
    let h = subst (λ (o : Option Place). MatchOption o (HasNode c.in-Some.kind × (c.begin_struct.new.out ≡ w.out)) (λ p. (r : Rest) × IsRest F ns p r × WritesFront F x [] r w.out c.begin_struct.new.out × (shape_of_form f ≡ product (names_of_rest r)) × IsNewPlace c.in-Some.kind p × AreCalled f [] p.parts (names_of_rest r))) c.in-Ok-None.field-0-is (c.in-Ok-None.ensures F ns x f i kind.0 kind.1) in
    c.write_node.ensures.part x f i kind.0 kind.1 (c.in-Some.ensures.order x i) (c.in-Some.ensures.telling x i) (not_true c.is_zero_size.result (c.is_zero_size.ensures x i) c.if-is_zero_size.false) h.0 (subst (λ (o : Output). IsAwaitingAt d (record { walk = w.walk; position = w.position; out = o; bytes = w.bytes }) x) (sym h.1) a)

pub returns-in-Err-clause-part : goal.returns-in-Err-clause-part
returns-in-Err-clause-part c x i a =
    let d = c.args.json.now in
    let w = c.args.self.now in
    let F = forms_of d in
    let ns = names_of d in
    let root = root_of d.plan.now in
    let s = a.state in
    let kind = c.in-Some.ensures.kind x i (not_true c.is_zero_size.result (c.is_zero_size.ensures x i) c.if-is_zero_size.false) in
    let f = form_of c.in-Some.field-0-0.now in
    subst (λ (e : JsonError). Stops F root w.bytes.now e) (sym c.into.ensures) (stops_value F root w.bytes.now w.position.root.now a.writer.root (length w.position.outer.items) (steps_through w.position.outer.items ++ steps_at w.position.place) s.done [] w.walk.left.now w.walk.left.now x refl (is_deep d w x a) c.in-Err.error c.refused_value.result c.refused_value.ensures.same c.refused_value.ensures.path (c.in-Err.ensures F ns x f i kind.0 kind.1))
