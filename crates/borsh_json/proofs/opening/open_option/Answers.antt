use Rattle.std.proofs.Common.{◌∷◌, [], inl, inr, sym, ◌∙◌, ap, refl}
use Rattle.json.specs.Find.{is_null}
use Rattle.borsh_json.specs.{declared.position.Parts.TheVariants.{Some as Present}, Table.{optional}}
use Rattle.borsh_json.proofs.OpeningLaws.{opened_leaf, null_is, only_found}
use Rattle.borsh_json.proofs.opening.open_option.Goals as goal

pub returns-then-is_null : goal.returns-then-is_null
returns-then-is_null c F ns x j h b = opened_leaf F ns x j (optional h.0) c.args.out.now.items c.push.new.self.items (0 ∷ []) h.2 c.in_ok-push.ensures.items (inl (null_is j (sym (c.is_null.ensures j b) ∙ c.if-is_null.true), refl, refl))

pub returns : goal.returns
returns c F ns x j h b = (1 ∷ [], c.in_ok-push-2.ensures.items, only_found F ns x j (optional h.0) (1 ∷ []) (Present c.args.part) h.0 j c.args.element c.only.result c.only.ensures (λ i. (h.0, refl, λ ws e. (h.0, h.1, e))) (λ m. m) (h.0, refl) h.2 b (inr ((λ e. let f = ap is_null e in let g = c.is_null.ensures j b in let k = c.if-is_null.false in cc), refl, refl)))
