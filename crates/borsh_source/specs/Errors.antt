-- What an error says of the tree.
use Rattle.std.specs.Prelude.{◌≡◌, ℕ, List, None, Result, MatchResult, Vec, string_bytes}
use Rattle.std.specs.Global.{Global}
use Rattle.borsh_source.specs.Formats.{IsFormat}
use Rattle.borsh_source.specs.Meaning.{HaveNone}
use Rattle.borsh_source.specs.Views.{IsNamed, IsNoItem}
use Rattle.borsh_source.specs.declared.formats.Kind.{Kind}
use Rattle.borsh_source.specs.declared.error.CompileError.{CompileError}
use Rattle.borsh_source.specs.declared.error.CompileError.TheVariants.{Refused, OutOfMemory}
use Rattle.borsh_source.specs.declared.error.Cause.{Cause}
use Rattle.borsh_source.specs.declared.error.Cause.TheVariants.{UnknownType, UnknownConstant, Discriminants, Rule}
use Rattle.borsh_source.specs.declared.tree.Source.{Source}
use Rattle.borsh_source.specs.declared.tree.Item.{Item}
use Rattle.borsh_source.specs.declared.tree.Variant.{Variant}
use Rattle.borsh_source.specs.declared.tree.ItemKind.TheVariants.{Enum}

-- no type of the format is written so
abbrev pub IsNoFormat : List ℕ → Type 0
IsNoFormat x = (stem : List ℕ) (k : Kind) → IsFormat x stem k → ⊥

-- an enum of the name has discriminants, and doesn't say whether these are its tags
pub record LeavesTagsOpen (S : Source) (x : List ℕ) : Type 0 where
  pub at : ℕ
  pub item : Item
  pub variants : Vec Variant Global
  pub named : IsNamed S x at item
  pub kind : item.kind ≡ Enum None variants
  pub some : HaveNone variants.items → ⊥

-- what a cause says of the name is true; of the others nothing is said
abbrev pub IsTrueCause : Source → List ℕ → Cause → Type 0
IsTrueCause S x UnknownType = IsNoItem S x × IsNoFormat x
IsTrueCause S x UnknownConstant = IsNoItem S x
IsTrueCause S x Discriminants = LeavesTagsOpen S x
IsTrueCause S x (Rule r) = ⊥
IsTrueCause S x _ = Unit {0}

-- what an error says is true
abbrev pub IsTold : Source → CompileError → Type 0
IsTold S (Refused place cause name) = IsTrueCause S (string_bytes name) cause
IsTold S OutOfMemory = Unit {0}

-- `Ok` of what is so, or an error that is true
abbrev pub Answers : {T : Type 0} → Source → Result T CompileError → (T → Type 0) → Type 0
Answers S r P = MatchResult r P (IsTold S)

-- a refusal for a cause, about a name, or an allocation failed
abbrev pub IsRefusal : Cause → List ℕ → CompileError → Type 0
IsRefusal c x (Refused place cause name) = (cause ≡ c) × (string_bytes name ≡ x)
IsRefusal c x OutOfMemory = Unit {0}
