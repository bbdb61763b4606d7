-- `==` of containers is that both say the same.
use Rattle.std.proofs.Common.{◌≡◌, Bool, ◌&&◌, ap, Decides}
use Rattle.std.specs.String.{string_eq}
use Rattle.std.proofs.lemmas.Bool.Decides.{Decides-like, Decides-and}
use Rattle.borsh_schema.specs.declared.container.BorshSchemaContainer.{BorshSchemaContainer}
use Rattle.borsh_schema.specs.contracts.container.BorshSchemaContainerPartialEq.TheImpl as of_containers
use Rattle.borsh_schema.specs.Containers.{map_of}
use Rattle.borsh_schema.proofs.Laws.Sameness.{Entry, said_entry, SayTheSame}
use Rattle.borsh_definitions.proofs.Laws.Equality.{same, each-Decides, text-Decides, definition-Decides}

-- `==` of containers
abbrev same_containers : BorshSchemaContainer → BorshSchemaContainer → Bool
same_containers = (of_containers.ghosts).eq

entry-Decides : (a b : Entry) → Decides (string_eq a.0 b.0 && same a.1 b.1) (said_entry a ≡ said_entry b)
entry-Decides a b =
    Decides-like _ (λ p. let h = p.0 in let t = p.1 in cc) (λ e. (ap (λ q. q.0) e, ap (λ q. q.1) e)) (Decides-and _ _ (text-Decides a.0 b.0) (definition-Decides a.1 b.1))

pub container-Decides : (a b : BorshSchemaContainer) → Decides (same_containers a b) (SayTheSame a b)
container-Decides a b =
    Decides-and _ _ (text-Decides a.declaration b.declaration) (each-Decides (λ p q. string_eq p.0 q.0 && same p.1 q.1) said_entry entry-Decides (map_of a).entries (map_of b).entries)
