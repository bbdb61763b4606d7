use Rattle.std.proofs.{Common.{◌≡◌, sym, subst}, lemmas.Result.{err_from_is_err_and}}
use Rattle.json.specs.{Find.{BeginsWith}, Json.{document}}
use Rattle.borsh_plan.specs.Plan.{definitions_of, map_of, root_of}
use Rattle.borsh_json.specs.Forms.{forms_in}
use Rattle.borsh_json.proofs.TextLaws.{part_denies, part_reason, there}
use Rattle.borsh_json.proofs.table.Table.read_text.Goals as goal

pub returns-in_err-read_value-in-Ok-clause-denies : goal.returns-in_err-read_value-in-Ok-clause-denies
returns-in_err-read_value-in-Ok-clause-denies c =
    let y = c.args.self.now.plan.now in
    let t = there (document c.args.text.now) c.in-Ok.ensures.ok.1 in
    let q : c.root.result ≡ c.in-Ok.tape = cc in
    let b = subst (λ ts. BeginsWith ts t.0) (sym q) (c.in-Ok.ensures.value t.0 t.1) in
    let e = c.in_err-read_value-in-Ok in
    let p = err_from_is_err_and c.from_residual.result c.from_residual.ensures.1 in
    rw (p.1, p.2) (part_denies (forms_in (map_of y)) (definitions_of y) (root_of y) c.args.text.now t.0 t.1 e.field-0.0 (e.ensures t.0 b))

pub returns-in_err-read_value-in-Ok-clause-reason : goal.returns-in_err-read_value-in-Ok-clause-reason
returns-in_err-read_value-in-Ok-clause-reason c =
    let y = c.args.self.now.plan.now in
    let s = c.in-Ok.ensures.ok.1 in
    let t = there (document c.args.text.now) s in
    let q : c.root.result ≡ c.in-Ok.tape = cc in
    let b = subst (λ ts. BeginsWith ts t.0) (sym q) (c.in-Ok.ensures.value t.0 t.1) in
    let e = c.in_err-read_value-in-Ok in
    let p = err_from_is_err_and c.from_residual.result c.from_residual.ensures.1 in
    rw (p.1, p.2) (part_reason (forms_in (map_of y)) (definitions_of y) (root_of y) c.args.text.now t.0 t.1 e.field-0.0 s (e.ensures t.0 b))

pub returns-in-Ok-clause-says : goal.returns-in-Ok-clause-says
returns-in-Ok-clause-says c =
    let t = there (document c.args.text.now) c.in-Ok.ensures.ok.1 in
    let q : c.root.result ≡ c.in-Ok.tape = cc in
    let b = subst (λ ts. BeginsWith ts t.0) (sym q) (c.in-Ok.ensures.value t.0 t.1) in
    (t.0, t.1, c.in_ok-read_value-in-Ok.ensures t.0 b)
