-- The names of the types of the format.
use Rattle.std.specs.Prelude.{◌≡◌, ◌⊎◌, ℕ, List, [], ◌∷◌, codes}
use Rattle.borsh_source.specs.Lists.{IsListed}
use Rattle.borsh_source.specs.declared.formats.Kind.{Kind}
use Rattle.borsh_source.specs.declared.formats.Kind.TheVariants.{Bytes, Text, Octets, Phantom, Through, List as ListKind, Map, Option as OptionKind, Result as ResultKind, Range, RangeFrom, RangeTo, RangeFull, Ipv4Addr, Ipv6Addr, IpAddr, SocketAddrV4, SocketAddrV6, SocketAddr, Tuple, Array}

-- types of so many bytes: how they are written, and the name that their schema has
abbrev pub widths : List (List ℕ × List ℕ × ℕ)
widths =
    (codes "u8", codes "u8", 1)
    ∷ (codes "u16", codes "u16", 2)
    ∷ (codes "u32", codes "u32", 4)
    ∷ (codes "u64", codes "u64", 8)
    ∷ (codes "u128", codes "u128", 16)
    ∷ (codes "i8", codes "i8", 1)
    ∷ (codes "i16", codes "i16", 2)
    ∷ (codes "i32", codes "i32", 4)
    ∷ (codes "i64", codes "i64", 8)
    ∷ (codes "i128", codes "i128", 16)
    ∷ (codes "usize", codes "u64", 8)
    ∷ (codes "isize", codes "i64", 8)
    ∷ (codes "bool", codes "bool", 1)
    ∷ (codes "f32", codes "f32", 4)
    ∷ (codes "f64", codes "f64", 8)
    ∷ (codes "Uuid", codes "Uuid", 16)
    ∷ []

abbrev pub non_zero_widths : List (List ℕ × List ℕ × ℕ)
non_zero_widths =
    (codes "NonZeroU8", codes "NonZeroU8", 1)
    ∷ (codes "NonZeroU16", codes "NonZeroU16", 2)
    ∷ (codes "NonZeroU32", codes "NonZeroU32", 4)
    ∷ (codes "NonZeroU64", codes "NonZeroU64", 8)
    ∷ (codes "NonZeroU128", codes "NonZeroU128", 16)
    ∷ (codes "NonZeroUsize", codes "NonZeroUsize", 8)
    ∷ (codes "NonZeroI8", codes "NonZeroI8", 1)
    ∷ (codes "NonZeroI16", codes "NonZeroI16", 2)
    ∷ (codes "NonZeroI32", codes "NonZeroI32", 4)
    ∷ (codes "NonZeroI64", codes "NonZeroI64", 8)
    ∷ (codes "NonZeroI128", codes "NonZeroI128", 16)
    ∷ []

-- the other types, by how they are written
abbrev pub names_of_kind : Kind → List (List ℕ)
names_of_kind (Bytes w) = []
names_of_kind Text = codes "String" ∷ codes "str" ∷ []
names_of_kind Octets = codes "Bytes" ∷ codes "BytesMut" ∷ []
names_of_kind Phantom = codes "PhantomData" ∷ []
names_of_kind Through = codes "Box" ∷ codes "Rc" ∷ codes "Arc" ∷ codes "Cow" ∷ codes "Wrapping" ∷ []
names_of_kind ListKind = codes "Vec" ∷ codes "VecDeque" ∷ codes "LinkedList" ∷ codes "BTreeSet" ∷ codes "HashSet" ∷ codes "IndexSet" ∷ []
names_of_kind Map = codes "BTreeMap" ∷ codes "HashMap" ∷ codes "IndexMap" ∷ []
names_of_kind OptionKind = codes "Option" ∷ []
names_of_kind ResultKind = codes "Result" ∷ []
names_of_kind Range = codes "Range" ∷ codes "RangeInclusive" ∷ []
names_of_kind RangeFrom = codes "RangeFrom" ∷ []
names_of_kind RangeTo = codes "RangeTo" ∷ codes "RangeToInclusive" ∷ []
names_of_kind RangeFull = codes "RangeFull" ∷ []
names_of_kind Ipv4Addr = codes "Ipv4Addr" ∷ []
names_of_kind Ipv6Addr = codes "Ipv6Addr" ∷ []
names_of_kind IpAddr = codes "IpAddr" ∷ []
names_of_kind SocketAddrV4 = codes "SocketAddrV4" ∷ []
names_of_kind SocketAddrV6 = codes "SocketAddrV6" ∷ []
names_of_kind SocketAddr = codes "SocketAddr" ∷ []
names_of_kind Tuple = []
names_of_kind (Array n) = []

abbrev pub IsOtherKind : List ℕ → Kind → Type 0
IsOtherKind x k = IsListed x (names_of_kind k)

-- a type that is written so has a schema whose name begins so, and is of this kind
abbrev pub IsFormat : List ℕ → List ℕ → Kind → Type 0
IsFormat x stem (Bytes w) = IsListed (x, stem, w) widths ⊎ IsListed (x, stem, w) non_zero_widths
IsFormat x stem Tuple = ⊥
IsFormat x stem (Array n) = ⊥
IsFormat x stem k = (stem ≡ x) × IsOtherKind x k

-- how many arguments a type of the format may be written with: a hasher and an allocator stand behind those that are read
abbrev pub most_arguments : Kind → ℕ
most_arguments Map = 4
most_arguments ListKind = 3
most_arguments ResultKind = 2
most_arguments Through = 2
most_arguments Phantom = 1
most_arguments OptionKind = 1
most_arguments Range = 1
most_arguments RangeFrom = 1
most_arguments RangeTo = 1
most_arguments _ = 0

-- how many arguments of a type of the format are read
abbrev pub read_arguments : Kind → ℕ
read_arguments Through = 1
read_arguments ListKind = 1
read_arguments Map = 2
read_arguments OptionKind = 1
read_arguments ResultKind = 2
read_arguments Range = 1
read_arguments RangeFrom = 1
read_arguments RangeTo = 1
read_arguments _ = 0
