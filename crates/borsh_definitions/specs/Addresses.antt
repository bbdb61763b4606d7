-- The schemas of addresses: their octets, and a tag where there are two kinds.
use Rattle.std.specs.Prelude.{ℕ, pos, List, [], ◌∷◌, codes}
use Rattle.borsh_definitions.specs.Described.{Form, sequence, choice, named, unnamed, DefinitionTree, none, defined, both}
use Rattle.borsh_definitions.specs.Names.{array_name}
use Rattle.borsh_definitions.specs.Types.{primitive_definitions}

-- an array: its element, its length, and the element's definitions
abbrev pub array_definitions : List ℕ → ℕ → DefinitionTree → DefinitionTree
array_definitions element n parts = defined (array_name element n) (sequence 0 n n element) (both parts none)

-- so many octets
abbrev pub octets_of : ℕ → Form
octets_of n = named ((codes "octets", array_name (codes "u8") n) ∷ [])

abbrev pub ipv4_definitions : DefinitionTree
ipv4_definitions = defined (codes "Ipv4Addr") (octets_of 4) (both (array_definitions (codes "u8") 4 (primitive_definitions (codes "u8") 1)) none)

abbrev pub ipv6_definitions : DefinitionTree
ipv6_definitions = defined (codes "Ipv6Addr") (octets_of 16) (both (array_definitions (codes "u8") 16 (primitive_definitions (codes "u8") 1)) none)

abbrev pub v4_variant : DefinitionTree
v4_variant = defined (codes "IpAddr__V4") (unnamed (codes "Ipv4Addr" ∷ [])) (both ipv4_definitions none)

abbrev pub v6_variant : DefinitionTree
v6_variant = defined (codes "IpAddr__V6") (unnamed (codes "Ipv6Addr" ∷ [])) (both ipv6_definitions none)

-- an enum: tag 0 and four octets, or tag 1 and sixteen
abbrev pub ip_address_definitions : DefinitionTree
ip_address_definitions = defined (codes "IpAddr") (choice 1 ((pos 0, codes "V4", codes "IpAddr__V4") ∷ (pos 1, codes "V6", codes "IpAddr__V6") ∷ [])) (both v4_variant v6_variant)
