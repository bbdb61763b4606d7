-- What an enum brings: its own definition, and one for the fields of each variant.
use Rattle.std.specs.Prelude.{ℕ, ℤ, pos, List, [], ◌∷◌, ◌++◌, map}
use Rattle.std.specs.Borrow.{Bor}
use Rattle.borsh_definitions.specs.Described.{Form, choice, named, unnamed, no_fields, DefinitionTree, none, defined, both}
use Rattle.borsh_definitions.specs.Names.{texts, beside}
pub use Rattle.borsh_definitions.specs.Names.{name_with, variant_type}

-- a variant: its name, and the names of its fields
abbrev pub VariantNames : Type 0
VariantNames = List ℕ × List (List ℕ)

-- what each row of a list of names refers to
abbrev pub row_names : List (Bor (List ℕ) × Bor (List (Bor (List ℕ)))) → List VariantNames
row_names rows = map (λ r. (r.0.now, texts r.1.now)) rows

-- fields of these names and types; those without names are unnamed
abbrev pub variant_fields : List (List ℕ) → List (List ℕ) → Form
variant_fields [] [] = no_fields
variant_fields [] (t ∷ ts) = unnamed (t ∷ ts)
variant_fields (f ∷ fs) ts = named (beside (f ∷ fs) ts)

-- what variants bring
pub record VariantsRead : Type 0 where
  -- the tag, the name and the type of each
  pub rows : List (ℤ × List ℕ × List ℕ)
  -- the definitions of their fields
  pub parts : DefinitionTree
  -- the names that are left for further variants
  pub rest : List VariantNames

-- what variants bring, once the enum and they have names
abbrev pub ReadsVariants : Type 0
ReadsVariants = List ℕ → List VariantNames → VariantsRead

-- one variant, whose fields have these types; `whole` makes its definition's name of the variant's
abbrev pub read_case_as : (List ℕ → List ℕ) → ℕ → List (List ℕ) → DefinitionTree → ReadsVariants
read_case_as whole tag types parts enum [] = record { rows = []; parts = none; rest = [] }
read_case_as whole tag types parts enum (v ∷ vs) = record {
  rows = (pos tag, v.0, whole (variant_type enum v.0)) ∷ [];
  parts = defined (whole (variant_type enum v.0)) (variant_fields v.1 types) parts;
  rest = vs;
}

abbrev pub read_case : ℕ → List (List ℕ) → DefinitionTree → ReadsVariants
read_case = read_case_as (λ name. name)

-- with the names of the parameters that its fields name
abbrev pub read_case_with : List ℕ → List (List ℕ) → ℕ → List (List ℕ) → DefinitionTree → ReadsVariants
read_case_with first others = read_case_as (λ name. name_with name first others)

-- some variants, and then others
abbrev pub read_fork : ReadsVariants → ReadsVariants → ReadsVariants
read_fork first second enum vs = record {
  rows = (first enum vs).rows ++ (second enum (first enum vs).rest).rows;
  parts = both (first enum vs).parts (second enum (first enum vs).rest).parts;
  rest = (second enum (first enum vs).rest).rest;
}

-- an enum of this name, with a tag of one byte, whose variants have these names; `whole` is its name with parameters
abbrev pub enum_definitions_as : List ℕ → List ℕ → List VariantNames → ReadsVariants → DefinitionTree
enum_definitions_as whole name vs read = defined whole (choice 1 (read name vs).rows) (read name vs).parts

abbrev pub enum_definitions : List ℕ → List VariantNames → ReadsVariants → DefinitionTree
enum_definitions name = enum_definitions_as name name
