use Rattle.std.proofs.Common.{[], ◌∷◌, ◌∙◌, map, refl, sym, ap, subst}
use Rattle.borsh_source.specs.Container.{Notes}
use Rattle.borsh_source.specs.Views.{used}
use Rattle.borsh_source.proofs.Lists.{map_snoc}
use Rattle.borsh_source.proofs.Steps.{adds_none, notes_known, notes_new}
use Rattle.borsh_source.proofs.adding.add_use.Goals as goal

pub returns-then-is_noted : goal.returns-then-is_noted
returns-then-is_noted c = record {
  entries = [];
  uses = used c.args.used ∷ [];
  meant = (refl, refl);
  adds = adds_none _;
  notes = notes_known _ _ (c.is_noted.ensures (c.if-is_noted.true));
}

pub returns : goal.returns
returns c = record {
  entries = [];
  uses = used c.args.used ∷ [];
  meant = (refl, refl);
  adds = adds_none _;
  notes = subst (λ l. Notes (map used c.args.output.now.uses.items) l (used c.args.used ∷ [])) (sym (ap (map used) c.in_ok-push.ensures.items ∙ map_snoc used c.args.output.now.uses.items c.args.used)) (notes_new _ _);
}
