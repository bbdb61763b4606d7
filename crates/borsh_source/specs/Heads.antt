-- What a written type is at its outside.
use Rattle.std.specs.Prelude.{◌≡◌, ℕ, List, [], ◌∷◌, ◌++◌, Some, None, codes, string_bytes}
use Rattle.borsh_source.specs.Views.{Stands, Used, stands, given_of, IsItem}
use Rattle.borsh_source.specs.Forms.{Entry, form}
use Rattle.borsh_source.specs.Numbers.{Evaluates}
use Rattle.borsh_source.specs.declared.formats.Kind.TheVariants.{Through, List as ListKind, Tuple as TupleKind, Array as ArrayKind}
use Rattle.borsh_source.specs.Meaning.{IsFormatPath, MeansAll}
use Rattle.borsh_source.specs.declared.formats.Kind.{Kind}
use Rattle.borsh_source.specs.declared.types.Head.{Head}
use Rattle.borsh_source.specs.declared.types.Head.TheVariants.{Given, Format, Array as ArrayHead, Item}
use Rattle.borsh_source.specs.declared.tree.Source.{Source}
use Rattle.borsh_source.specs.declared.tree.Parameter.{Parameter}
use Rattle.borsh_source.specs.declared.tree.TypeKind.{TypeKind}
use Rattle.borsh_source.specs.declared.tree.TypeKind.TheVariants.{Path, Reference, Slice, Array, Tuple, Constant}

-- an item with what its parameters stand for
abbrev pub use_of : ℕ → List Stands → Used
use_of i hs = record { item = i; given = hs }

-- a type of the format with these arguments
pub data FormMeans (S : Source) (ps : List Parameter) (gs : List Stands) (stem : List ℕ) (k : Kind) (ts : List ℕ) (n : List ℕ) : List Entry → List Used → Type 0 where
  of_form : {ns : List (List ℕ)} {ds es : List Entry} {us : List Used} → MeansAll S ps gs ts ns ds us → form stem k ns ≡ Some (n, es) → FormMeans S ps gs stem k ts n (ds ++ es) us

-- a type of the format, by its beginning, kind and arguments
abbrev pub IsForm : List ℕ → Kind → List ℕ → Head → Type 0
IsForm stem k ts (Format s j us) = (s.now ≡ stem) × (j ≡ k) × (us.items ≡ ts)
IsForm stem k ts _ = ⊥

-- an array of so many elements as the expression says
abbrev pub ArrayMeans : Source → List Parameter → List Stands → ℕ → ℕ → List ℕ → List Entry → List Used → Type 0
ArrayMeans S ps gs t e n ds us = (k : ℕ) × Evaluates S ps gs e k × FormMeans S ps gs [] (ArrayKind k) (t ∷ []) n ds us

-- a path is a parameter, an item or a type of the format
abbrev pub IsPathHead : Source → List Parameter → List Stands → List ℕ → List ℕ → Head → Type 0
IsPathHead S ps gs x bs (Given g) = (given_of ps gs x ≡ Some (stands g.now)) × (bs ≡ [])
IsPathHead S ps gs x bs (Format s j us) = IsFormatPath S ps gs x bs s.now j us.items
IsPathHead S ps gs x bs (ArrayHead t e) = ⊥
IsPathHead S ps gs x bs (Item i item cs) = (given_of ps gs x ≡ None) × IsItem S x i item.now × (cs.now ≡ bs)

-- what isn't a path is a type of the format
abbrev pub IsOther : TypeKind → Head → Type 0
IsOther (Path x bs) h = ⊥
IsOther (Reference t) h = IsForm [] Through (t ∷ []) h
IsOther (Slice t) h = IsForm (codes "Vec") ListKind (t ∷ []) h
IsOther (Array t e) h = h ≡ ArrayHead t e
IsOther (Tuple ts) h = IsForm [] TupleKind ts.items h
IsOther (Constant e) h = ⊥

-- a written type is one of these
abbrev pub IsHead : Source → List Parameter → List Stands → TypeKind → Head → Type 0
IsHead S ps gs (Path x bs) h = IsPathHead S ps gs (string_bytes x) bs.items h
IsHead S ps gs k h = IsOther k h

-- what a type of the format brings beside its arguments, whose names these are
abbrev pub FormBrings : List ℕ → Kind → List (List ℕ) → List ℕ → List Entry → List Used → Type 0
FormBrings stem k ns n es us = (form stem k ns ≡ Some (n, es)) × (us ≡ [])
