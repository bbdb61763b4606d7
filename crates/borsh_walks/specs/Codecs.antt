-- What definitions mean as bytes: the variant's place in the order, one byte, and its parts in order.
use Rattle.std.specs.Prelude.{◌≡◌, ℕ, ℤ, ⊤, ◌⊎◌, Vec, String}
use Rattle.std.specs.Global.{Global}
use Rattle.std.specs.String.{string_bytes}
use mathlib.Core.Logic.{inl, inr}
use Rattle.std.proofs.Common.{arith, refl}
use Rattle.borsh_codec.specs.Codec.{Codec, Lawful}
use Rattle.borsh_codec.specs.Shapes.{contramap, unsigned, signed, pair, unit, list, never, variant}
use Rattle.borsh_codec.proofs.Laws.Exact.{contramap-lawful, unit-lawful}
use Rattle.borsh_codec.proofs.Laws.Numbers.{unsigned-lawful, signed-lawful}
use Rattle.borsh_codec.proofs.Laws.Pairs.{pair-lawful}
use Rattle.borsh_codec.proofs.Laws.Rows.{list-lawful}
use Rattle.borsh_codec.proofs.Laws.Variants.{variant-lawful, variant_last, variant_avoids, nothing_avoids, Avoids}
use Rattle.borsh_codec.specs.Types.Texts.{text}
use Rattle.borsh_codec.proofs.Laws.Types.{text-lawful}
use Rattle.borsh_walks.specs.declared.definition.Definition.{Definition}
use Rattle.borsh_walks.specs.declared.definition.Definition.TheVariants.{Primitive, Sequence, Tuple, Enum, Struct}
use Rattle.borsh_walks.specs.declared.definition.Fields.{Fields}
use Rattle.borsh_walks.specs.declared.definition.Fields.TheVariants.{NamedFields, UnnamedFields, Empty}
use Rattle.borsh_walks.specs.declared.definition.LengthRange.{LengthRange}

-- a text, as the code has it
abbrev pub Name : Type 0
Name = String Global

abbrev pub name : Codec Name
name = contramap string_bytes text

name-lawful : Lawful Name name
name-lawful = contramap-lawful string_bytes text-lawful

-- a count of four bytes and the elements
abbrev pub vec_of : {A : Type 0} → Codec A → Codec (Vec A Global)
vec_of c = contramap (λ v. v.items) (list c)

vec_of-lawful : {A : Type 0} {c : Codec A} → Lawful A c → Lawful (Vec A Global) (vec_of c)
vec_of-lawful l = contramap-lawful (λ v. v.items) (list-lawful l)

-- three parts in order
abbrev pub three : {A B C : Type 0} → Codec A → Codec B → Codec C → Codec (A × B × C)
three a b c = contramap (λ t. (t.0, (t.1, t.2))) (pair a (pair b c))

three-lawful : {A B C : Type 0} {a : Codec A} {b : Codec B} {c : Codec C} → Lawful A a → Lawful B b → Lawful C c → Lawful (A × B × C) (three a b c)
three-lawful la lb lc = contramap-lawful (λ t. (t.0, (t.1, t.2))) (pair-lawful la (pair-lawful lb lc))

-- ---- a range of lengths: both ends

abbrev pub ends : LengthRange → ℕ × ℕ
ends r = (r.start, r.end)

abbrev pub length_range : Codec LengthRange
length_range = contramap ends (pair (unsigned 8) (unsigned 8))

pub length_range-lawful : Lawful LengthRange length_range
length_range-lawful = contramap-lawful ends (pair-lawful (unsigned-lawful 8) (unsigned-lawful 8))

-- ---- fields

-- a field's name and its type's
abbrev pub named : Codec (Name × Name)
named = pair name name

abbrev pub fields_view : Fields → Vec (Name × Name) Global ⊎ (Vec Name Global ⊎ (⊤ ⊎ ⊥))
fields_view (NamedFields fs) = inl fs
fields_view (UnnamedFields ns) = inr (inl ns)
fields_view Empty = inr (inr (inl tt))

-- the variants from the last on
abbrev pub from_empty : Codec (⊤ ⊎ ⊥)
from_empty = variant 2 unit never

abbrev pub from_unnamed : Codec (Vec Name Global ⊎ (⊤ ⊎ ⊥))
from_unnamed = variant 1 (vec_of name) from_empty

-- none of them begins with another tag
pub empty_avoids : (j : ℕ) → (j ≡ 2 → ⊥) → Avoids j from_empty
empty_avoids j f = variant_avoids unit never f (nothing_avoids j)

pub unnamed_avoids : (j : ℕ) → (j ≡ 1 → ⊥) → Avoids j from_empty → Avoids j from_unnamed
unnamed_avoids j f a = variant_avoids (vec_of name) from_empty f a

abbrev pub fields : Codec Fields
fields = contramap fields_view (variant 0 (vec_of named) from_unnamed)

pub fields-lawful : Lawful Fields fields
fields-lawful =
    contramap-lawful fields_view
    (variant-lawful 0 (vec_of-lawful (pair-lawful name-lawful name-lawful))
    (variant-lawful 1 (vec_of-lawful name-lawful) (variant_last 2 unit-lawful) (empty_avoids 1 (λ e. omega arith)) refl)
    (unnamed_avoids 0 (λ e. omega arith) (empty_avoids 0 (λ e. omega arith))) refl)

-- ---- definitions

-- the parts of a sequence, those of an enum
abbrev pub sequence_codec : Codec (ℕ × LengthRange × Name)
sequence_codec = three (unsigned 1) length_range name

abbrev pub enum_codec : Codec (ℕ × Vec (ℤ × Name × Name) Global)
enum_codec = pair (unsigned 1) (vec_of (three (signed 8) name name))

abbrev pub definition_view : Definition → ℕ ⊎ ((ℕ × LengthRange × Name) ⊎ (Vec Name Global ⊎ ((ℕ × Vec (ℤ × Name × Name) Global) ⊎ (Fields ⊎ ⊥))))
definition_view (Primitive n) = inl n
definition_view (Sequence w r e) = inr (inl (w, r, e))
definition_view (Tuple es) = inr (inr (inl es))
definition_view (Enum w vs) = inr (inr (inr (inl (w, vs))))
definition_view (Struct fs) = inr (inr (inr (inr (inl fs))))

-- the variants from the last on
abbrev pub from_struct : Codec (Fields ⊎ ⊥)
from_struct = variant 4 fields never

abbrev pub from_enum : Codec ((ℕ × Vec (ℤ × Name × Name) Global) ⊎ (Fields ⊎ ⊥))
from_enum = variant 3 enum_codec from_struct

abbrev pub from_tuple : Codec (Vec Name Global ⊎ ((ℕ × Vec (ℤ × Name × Name) Global) ⊎ (Fields ⊎ ⊥)))
from_tuple = variant 2 (vec_of name) from_enum

abbrev pub from_sequence : Codec ((ℕ × LengthRange × Name) ⊎ (Vec Name Global ⊎ ((ℕ × Vec (ℤ × Name × Name) Global) ⊎ (Fields ⊎ ⊥))))
from_sequence = variant 1 sequence_codec from_tuple

-- none of them begins with another tag
pub struct_avoids : (j : ℕ) → (j ≡ 4 → ⊥) → Avoids j from_struct
struct_avoids j f = variant_avoids fields never f (nothing_avoids j)

pub enum_avoids : (j : ℕ) → (j ≡ 3 → ⊥) → Avoids j from_struct → Avoids j from_enum
enum_avoids j f a = variant_avoids enum_codec from_struct f a

pub tuple_avoids : (j : ℕ) → (j ≡ 2 → ⊥) → Avoids j from_enum → Avoids j from_tuple
tuple_avoids j f a = variant_avoids (vec_of name) from_enum f a

abbrev pub definition : Codec Definition
definition = contramap definition_view (variant 0 (unsigned 1) from_sequence)

pub definition-lawful : Lawful Definition definition
definition-lawful =
    contramap-lawful definition_view
    (variant-lawful 0 (unsigned-lawful 1)
    (variant-lawful 1 (three-lawful (unsigned-lawful 1) length_range-lawful name-lawful)
    (variant-lawful 2 (vec_of-lawful name-lawful)
    (variant-lawful 3 (pair-lawful (unsigned-lawful 1) (vec_of-lawful (three-lawful (signed-lawful 8) name-lawful name-lawful)))
    (variant_last 4 fields-lawful)
    (struct_avoids 3 (λ e. omega arith)) refl)
    (enum_avoids 2 (λ e. omega arith) (struct_avoids 2 (λ e. omega arith))) refl)
    (tuple_avoids 1 (λ e. omega arith) (enum_avoids 1 (λ e. omega arith) (struct_avoids 1 (λ e. omega arith)))) refl)
    (variant_avoids sequence_codec from_tuple (λ e. omega arith) (tuple_avoids 0 (λ e. omega arith) (enum_avoids 0 (λ e. omega arith) (struct_avoids 0 (λ e. omega arith))))) refl)
