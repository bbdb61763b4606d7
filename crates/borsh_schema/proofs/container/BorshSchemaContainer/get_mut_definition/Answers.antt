use Rattle.std.proofs.Common.{Some, refl, ap}
use Rattle.std.proofs.lemmas.Map.Text.{btree_map_updates_text}
use Rattle.borsh_schema.specs.Containers.{map_of}
use Rattle.borsh_schema.proofs.container.BorshSchemaContainer.get_mut_definition.Goals as goal

pub returns : goal.returns
returns c = (
  (
    refl,
    λ w. (refl, λ s m. btree_map_updates_text c.args.declaration.now (map_of c.args.self.now) (c.get_mut.follows.lender w) (Some w) ((c.get_mut.follows.holds w).3 s) m),
    ap (λ m. record c.args.self.now { definitions = m }) c.get_mut.follows.holds-at-none,
  ),
  c.get_mut.ensures.value,
)
