-- What a container ends as, once a `&mut` to one of its definitions has ended.
use Rattle.std.specs.Prelude.{◌≡◌, ℕ, List, Option, Some, IsSome}
use Rattle.std.specs.Borrow.{Fml, LendsSo, MutBor}
use Rattle.std.specs.BTreeMap.{get_by_text}
use Rattle.std.specs.Map.{update}
use Rattle.std.specs.Str.{bytes_eq}
use Rattle.borsh_walks.specs.declared.definition.Definition.{Definition}
use Rattle.borsh_walks.specs.contracts.definition.Definition.{the_row as definition_row}
use Rattle.borsh_schema.specs.declared.container.BorshSchemaContainer.{BorshSchemaContainer}
use Rattle.borsh_schema.specs.contracts.container.BorshSchemaContainer.{the_row}
use Rattle.borsh_schema.specs.Containers.{declaration_of, map_of}

-- the container ends with this definition under the name, where the name had one, and with all else as it was
abbrev pub EndsWith : BorshSchemaContainer → List ℕ → BorshSchemaContainer → Definition → Type 0
EndsWith old name new d =
    (declaration_of new ≡ declaration_of old)
    × (IsSome (get_by_text (map_of old) name) → (m : List ℕ) → get_by_text (map_of new) m ≡ update bytes_eq (get_by_text (map_of old)) name (Some d) m)

-- what is last written through r is the name's definition then, and at `None` nothing changes
abbrev pub LendsDefinition : MutBor BorshSchemaContainer → List ℕ → Option (MutBor Definition) → Fml
LendsDefinition c name r = LendsSo the_row definition_row c r (EndsWith c.now name) (λ n. n ≡ c.now)
