-- When a name of a container describes the bytes of a type.
use Rattle.std.specs.Prelude.{◌≡◌, ℕ, ℤ, List, ◌∷◌, ◌++◌, Option, Some, ⊤}
use Rattle.borsh_codec.specs.Codec.{Codec}
use Rattle.borsh_walks.specs.Container.{Shape, Member, Members, IsListedVariant, tag}
use Rattle.borsh_definitions.specs.Described.{DefinitionTree, none, defined, both, shape_of_form}

-- the container has each of the named definitions
abbrev pub Holds : (List ℕ → Option Shape) → DefinitionTree → Type 0
Holds C none = ⊤
Holds C (defined n d ps) = (C n ≡ Some (shape_of_form d)) × Holds C ps
Holds C (both ps qs) = Holds C ps × Holds C qs

-- each encoding is a member of the name
pub record Describes (A : Type 0) (C : List ℕ → Option Shape) (c : Codec A) (n : List ℕ) : Type 0 where
  pub member : (a : A) (x : List ℕ) → c.encoding a ≡ Some x → Member C n x

-- each encoding is a member of each of the names, in order
pub record DescribesAll (A : Type 0) (C : List ℕ → Option Shape) (c : Codec A) (ns : List (List ℕ)) : Type 0 where
  pub members : (a : A) (x : List ℕ) → c.encoding a ≡ Some x → Members C ns x

-- the bytes are the tag of a listed discriminant, and then a member of its variant
pub record IsOfVariant (C : List ℕ → Option Shape) (w : ℕ) (vs : List (ℤ × List ℕ)) (x : List ℕ) : Type 0 where
  pub discriminant : ℤ
  pub variant : List ℕ
  pub part : List ℕ
  pub listed : IsListedVariant discriminant variant vs
  pub whole : tag w discriminant ++ part ≡ x
  pub member : Member C variant part

-- each encoding is one of a listed variant
pub record DescribesChoice (A : Type 0) (C : List ℕ → Option Shape) (c : Codec A) (w : ℕ) (vs : List (ℤ × List ℕ)) : Type 0 where
  pub one : (a : A) (x : List ℕ) → c.encoding a ≡ Some x → IsOfVariant C w vs x

-- a codec, and that each container with the definitions describes its encodings under the name
pub record DescribedCodec (A : Type 0) (n : List ℕ) (ps : DefinitionTree) : Type 1 where
  pub codec : Codec A
  pub describes : (C : List ℕ → Option Shape) → Holds C ps → Describes A C codec n

-- the same of fields one after another, as (A, (B, ())), with the codec of the fields and of a value before them
pub record DescribedFields (A : Type 0) : Type 1 where
  pub names : List (List ℕ)
  pub parts : DefinitionTree
  pub codec : Codec A
  pub describes : (C : List ℕ → Option Shape) → Holds C parts → DescribesAll A C codec names
  pub behind : {B : Type 0} → Codec B → Codec (B × A)
  pub describes_behind : {B : Type 0} {c : Codec B} {n : List ℕ} (C : List ℕ → Option Shape) → Describes B C c n → Holds C parts → DescribesAll (B × A) C (behind c) (n ∷ names)
