use Rattle.std.proofs.Common.{◌∙◌, map, sym, ap, subst}
use Rattle.std.specs.List.{list_any}
use Rattle.borsh_source.specs.Lists.{IsListed}
use Rattle.borsh_source.specs.Views.{used}
use Rattle.borsh_source.proofs.Equality.{same_use, use-Decides}
use Rattle.borsh_source.proofs.Collected.{get_map}
use Rattle.borsh_source.proofs.Lists.{listed_at, listed_by}
use Rattle.borsh_source.proofs.adding.is_noted.Goals as goal

pub returns-then-eq : goal.returns-then-eq
returns-then-eq c = λ h.
    let e = (use-Decides c.in-Some-element.known.now c.args.used.now).0 (sym c.eq.ensures ∙ c.if-eq.true) in
    subst (λ z. IsListed z (map used c.args.output.now.uses.items)) e (listed_at _ _ _ (get_map used c.args.output.now.uses.items c.in-Some.place.now c.in-Some-element.known.now (sym c.in-Some-element.ensures)))

pub returns : goal.returns
returns c = λ h. listed_by same_use used (λ x y e. (use-Decides x y).0 e) c.args.output.now.uses.items c.args.used.now (ap (list_any (λ y. same_use y c.args.used.now)) (sym c.as_slice.ensures.value) ∙ sym c.contains.ensures.value ∙ h)
