use Rattle.std.proofs.Common.{◌∷◌, [], sym, ◌∙◌, ap, refl, true, false, Some}
use Rattle.json.specs.Find.{as_bool}
use Rattle.borsh_json.specs.Table.{truth}
use Rattle.borsh_json.proofs.OpeningLaws.{opened_leaf, denied, bool_is, refuses_expected}
use Rattle.borsh_json.proofs.opening.open_bool.Goals as goal

pub returns-in_ok-push-in-Some-true : goal.returns-in_ok-push-in-Some-true
returns-in_ok-push-in-Some-true c F ns x j h b = opened_leaf F ns x j truth c.args.out.now.items c.push.new.self.items (1 ∷ []) h c.in_ok-push-in-Some-true.ensures.items (true, bool_is j true (sym (c.as_bool.ensures j b) ∙ c.in-Some-true.is ∙ ap (λ b. Some b) c.in-Some-true.field-0-test), refl, refl)

pub returns-in_ok-push-in-Some-false : goal.returns-in_ok-push-in-Some-false
returns-in_ok-push-in-Some-false c F ns x j h b = opened_leaf F ns x j truth c.args.out.now.items c.push-in-Some-false.new.self.items (0 ∷ []) h c.in_ok-push-in-Some-false.ensures.items (false, bool_is j false (sym (c.as_bool.ensures j b) ∙ c.in-Some-false.is ∙ ap (λ b. Some b) c.in-Some-false.field-0-test), refl, refl)

pub returns-in-None : goal.returns-in-None
returns-in-None c F ns x j h b = refuses_expected F ns x j c.expected.result c.expected.ensures (denied F ns x j truth h (λ own ps s. let f = ap as_bool s.1 in let g = c.as_bool.ensures j b in let k = c.in-None.is in cc))
