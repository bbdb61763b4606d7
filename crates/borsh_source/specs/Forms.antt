-- The types of the format: their names and definitions, by the names of their arguments.
use Rattle.std.specs.Prelude.{◌≡◌, ℕ, pos, List, [], ◌∷◌, ◌++◌, map, Option, Some, None, IfSome, option_map, codes, String, string_bytes}
use Rattle.std.specs.Global.{Global}
use Rattle.borsh_walks.specs.declared.definition.Definition.{Definition}
use Rattle.borsh_definitions.specs.Described.{Form, primitive, sequence, tuple, choice, named, unnamed, no_fields, form_of}
use Rattle.borsh_definitions.specs.Names.{applied, applied_to_two, tuple_name, array_name}
use Rattle.borsh_definitions.specs.Types.{list_of, option_of, result_of, range_of, range_from, range_to}
use Rattle.borsh_definitions.specs.Addresses.{octets_of}
use Rattle.borsh_source.specs.declared.formats.Kind.{Kind}
use Rattle.borsh_source.specs.declared.formats.Kind.TheVariants.{Bytes, Text, Octets, Phantom, Through, List as ListKind, Map, Option as OptionKind, Result as ResultKind, Range, RangeFrom, RangeTo, RangeFull, Ipv4Addr, Ipv6Addr, IpAddr, SocketAddrV4, SocketAddrV6, SocketAddr, Tuple, Array}

-- a name with its definition
abbrev pub Entry : Type 0
Entry = List ℕ × Form

-- a type: its name, and the definitions that it has beside those of its arguments
abbrev pub Formed : Type 0
Formed = List ℕ × List Entry

-- a type with its own definition alone
abbrev pub alone : List ℕ → Form → Option Formed
alone n d = Some (n, (n, d) ∷ [])

-- so many bytes in an array
abbrev pub octets_entries : ℕ → List Entry
octets_entries n = (array_name (codes "u8") n, sequence 0 n n (codes "u8")) ∷ (codes "u8", primitive 1) ∷ []

-- an address of so many bytes
abbrev pub address_entries : List ℕ → ℕ → List Entry
address_entries name n = (name, octets_of n) ∷ octets_entries n

-- an enum of two variants: tag, name and type of each
abbrev pub variants_of_two : ℕ × List ℕ × List ℕ → ℕ × List ℕ × List ℕ → Form
variants_of_two a b = choice 1 ((pos a.0, a.1, a.2) ∷ (pos b.0, b.1, b.2) ∷ [])

-- tag 0 or 1 by the kind of address, and what has the name of that kind
abbrev pub either_of : List ℕ → List ℕ → Form
either_of v4 v6 = choice 1 ((pos 0, codes "V4", v4) ∷ (pos 1, codes "V6", v6) ∷ [])

-- an enum of both, the name of each variant and of what it holds
abbrev pub either_entries : List ℕ → List ℕ × List ℕ → List ℕ × List ℕ → List Entry
either_entries name v4 v6 = (name, either_of v4.0 v6.0) ∷ (v4.0, unnamed (v4.1 ∷ [])) ∷ (v6.0, unnamed (v6.1 ∷ [])) ∷ []

abbrev pub ip_entries : List Entry
ip_entries =
    either_entries (codes "IpAddr") (codes "IpAddr__V4", codes "Ipv4Addr") (codes "IpAddr__V6", codes "Ipv6Addr")
    ++ (address_entries (codes "Ipv4Addr") 4 ++ address_entries (codes "Ipv6Addr") 16)

-- an address and a port
abbrev pub with_port : List ℕ → Form
with_port address = named ((codes "ip", address) ∷ (codes "port", codes "u16") ∷ [])

abbrev pub port_entries : List ℕ → List ℕ → ℕ → List Entry
port_entries name address n = (name, with_port address) ∷ (codes "u16", primitive 2) ∷ address_entries address n

abbrev pub socket_entries : List Entry
socket_entries =
    either_entries (codes "SocketAddr") (codes "SocketAddr__V4", codes "SocketAddrV4") (codes "SocketAddr__V6", codes "SocketAddrV6")
    ++ (port_entries (codes "SocketAddrV4") (codes "Ipv4Addr") 4 ++ port_entries (codes "SocketAddrV6") (codes "Ipv6Addr") 16)

-- the definition of a tuple, of which the empty one has no bytes
abbrev pub tuple_of : List (List ℕ) → Form
tuple_of [] = primitive 0
tuple_of (n ∷ ns) = tuple (n ∷ ns)

abbrev pub form_tuple : List (List ℕ) → Option Formed
form_tuple ns = alone (tuple_name ns) (tuple_of ns)

-- a type without arguments
abbrev pub form_alone : List ℕ → Kind → Option Formed
form_alone stem (Bytes w) = alone stem (primitive w)
form_alone stem Text = Some (codes "String", (codes "String", list_of (codes "u8")) ∷ (codes "u8", primitive 1) ∷ [])
form_alone stem Octets = Some (codes "Vec<u8>", (codes "Vec<u8>", list_of (codes "u8")) ∷ (codes "u8", primitive 1) ∷ [])
form_alone stem Phantom = alone (codes "()") (primitive 0)
form_alone stem RangeFull = alone (codes "RangeFull") no_fields
form_alone stem Ipv4Addr = Some (stem, address_entries (codes "Ipv4Addr") 4)
form_alone stem Ipv6Addr = Some (stem, address_entries (codes "Ipv6Addr") 16)
form_alone stem IpAddr = Some (stem, ip_entries)
form_alone stem SocketAddrV4 = Some (stem, port_entries (codes "SocketAddrV4") (codes "Ipv4Addr") 4)
form_alone stem SocketAddrV6 = Some (stem, port_entries (codes "SocketAddrV6") (codes "Ipv6Addr") 16)
form_alone stem SocketAddr = Some (stem, socket_entries)
form_alone stem Tuple = form_tuple []
form_alone stem _ = None

-- the name of a type with one argument
abbrev pub name_of_one : List ℕ → List ℕ → List ℕ
name_of_one stem n = stem ++ applied (codes "<") n

-- the definition of a type with one argument that its name is made of
abbrev pub definition_of_one : Kind → List ℕ → Option Form
definition_of_one ListKind n = Some (list_of n)
definition_of_one OptionKind n = Some (option_of n)
definition_of_one Range n = Some (range_of n)
definition_of_one RangeFrom n = Some (range_from n)
definition_of_one RangeTo n = Some (range_to n)
definition_of_one _ n = None

-- such a type
abbrev pub form_applied : List ℕ → Kind → List ℕ → Option Formed
form_applied stem kind n = option_map (λ d. (name_of_one stem n, (name_of_one stem n, d) ∷ [])) (definition_of_one kind n)

-- the same with a definition before its own
abbrev pub after : Entry → Option Formed → Option Formed
after e f = option_map (λ f. (f.0, e ∷ f.1)) f

-- a type with one argument
abbrev pub form_one : List ℕ → Kind → List ℕ → Option Formed
form_one stem Through n = Some (n, [])
form_one stem OptionKind n = after (codes "()", primitive 0) (form_applied stem OptionKind n)
form_one stem Tuple n = form_tuple (n ∷ [])
form_one stem (Array k) n = alone (array_name n k) (sequence 0 k k n)
form_one stem kind n = form_applied stem kind n

-- the name of a type with two arguments
abbrev pub name_of_two : List ℕ → List ℕ → List ℕ → List ℕ
name_of_two stem n m = stem ++ applied_to_two (codes "<") n m

-- a type with two arguments or more
abbrev pub form_two : List ℕ → Kind → List (List ℕ) → Option Formed
form_two stem Map (n ∷ m ∷ []) = Some (name_of_two stem n m, (tuple_name (n ∷ m ∷ []), tuple (n ∷ m ∷ [])) ∷ (name_of_two stem n m, list_of (tuple_name (n ∷ m ∷ []))) ∷ [])
form_two stem ResultKind (n ∷ m ∷ []) = alone (name_of_two stem n m) (result_of n m)
form_two stem Tuple ns = form_tuple ns
form_two stem _ _ = None

-- a type of the format, if it takes that many arguments
abbrev pub form : List ℕ → Kind → List (List ℕ) → Option Formed
form stem kind [] = form_alone stem kind
form stem kind (n ∷ []) = form_one stem kind n
form stem kind (n ∷ m ∷ ns) = form_two stem kind (n ∷ m ∷ ns)

-- ---- as the program has them

-- a name with its definition
abbrev pub entry : String Global × Definition → Entry
entry e = (string_bytes e.0, form_of e.1)

-- definitions were put at the end of a list
abbrev pub Appends : List (String Global × Definition) → List (String Global × Definition) → List Entry → Type 0
Appends old new es = map entry new ≡ map entry old ++ es

-- the name is that of the type, and its definitions were put at the end of a list
pub record FormsAs (f : Option Formed) (n : List ℕ) (old new : List (String Global × Definition)) : Type 0 where
  pub entries : List Entry
  pub formed : f ≡ Some (n, entries)
  pub appends : Appends old new entries

-- the same of a call that returns the name, if it is a type
abbrev pub Forms : Option Formed → List (String Global × Definition) → List (String Global × Definition) → Option (String Global) → Type 0
Forms f old new o = IfSome o (λ n. FormsAs f (string_bytes n) old new)
