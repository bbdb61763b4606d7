use Rattle.std.proofs.Common.{sym, subst}
use Rattle.borsh_plan.specs.Plan.{names_of as plan_names}
use Rattle.borsh_json.specs.Found.{forms_of, IsCollection}
use Rattle.borsh_json.proofs.NameLaws.{no_map_in}
use Rattle.borsh_json.proofs.kinds.entries_of.Goals as goal

pub returns-in_default : goal.returns-in_default
returns-in_default c = λ x h l v keys m a. no_map_in (forms_of c.args.definitions.now) (plan_names c.args.definitions.now.plan.now) x c.args.collection h c.in_default.not-Map l v m

pub returns : goal.returns
returns c = λ x h.
    let s = subst (λ co. IsCollection (forms_of c.args.definitions.now) (plan_names c.args.definitions.now.plan.now) x co) c.in-Map.is h in
    let g = c.in_ok-key_definition.ensures s.0 s.2 in
    let r = c.in_ok-key_kind.ensures s.0 (s.2, sym g) in
    (s.0, s.1, s.2, s.3, s.4, (r.0, sym g, r.1, r.2))
