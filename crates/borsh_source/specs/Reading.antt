-- Which parameters are read: those that are named outside of a `PhantomData` and of skipped fields.
use Rattle.std.specs.Prelude.{ℕ, suc, zero, List, [], ◌∷◌, Option, Some, None, Bool, false, cond, not, ◌&&◌, codes, string_bytes, slice_get}
use Rattle.std.specs.List.{list_any}
use Rattle.std.specs.Str.{bytes_eq}
use Rattle.borsh_source.specs.declared.tree.Source.{Source}
use Rattle.borsh_source.specs.declared.tree.Field.{Field}
use Rattle.borsh_source.specs.declared.tree.Fields.{Fields}
use Rattle.borsh_source.specs.declared.tree.Fields.TheVariants.{Named, Unnamed, Empty}
use Rattle.borsh_source.specs.declared.tree.Variant.{Variant}
use Rattle.borsh_source.specs.declared.tree.ItemKind.{ItemKind}
use Rattle.borsh_source.specs.declared.tree.ItemKind.TheVariants.{Struct, Enum, Alias, Constant as ConstantItem}
use Rattle.borsh_source.specs.declared.tree.«Type».{«Type» as Written}
use Rattle.borsh_source.specs.declared.tree.TypeKind.{TypeKind}
use Rattle.borsh_source.specs.declared.tree.TypeKind.TheVariants.{Path, Reference, Slice, Array, Tuple, Constant}

-- a path of the name n names the parameter itself, or where one of its arguments does
abbrev pub path_names : (ℕ → Bool) → List ℕ → List ℕ → List ℕ → Bool
path_names f x n [] = bytes_eq n x
path_names f x n (t ∷ ts) = list_any f (t ∷ ts)

-- a type names the parameter, where f says which of its parts do
abbrev pub kind_names : (ℕ → Bool) → List ℕ → TypeKind → Bool
kind_names f x (Path n ts) = cond (bytes_eq (string_bytes n) (codes "PhantomData")) false (path_names f x (string_bytes n) ts.items)
kind_names f x (Reference t) = f t
kind_names f x (Slice t) = f t
kind_names f x (Array t e) = f t
kind_names f x (Tuple ts) = list_any f ts.items
kind_names f x (Constant e) = false

abbrev pub written_names : (ℕ → Bool) → List ℕ → Option Written → Bool
written_names f x None = false
written_names f x (Some w) = kind_names f x w.kind

-- the type at an index names the parameter, within so many types in one another
unfoldable pub names : Source → ℕ → List ℕ → ℕ → Bool
names S zero x t = false
names S (suc d) x t = written_names (names S d x) x (slice_get S.types.items t)

-- how many types may stand in one another
abbrev pub deepest : ℕ
deepest = 128

abbrev pub fields_in : Fields → List Field
fields_in (Named fs) = fs.items
fields_in (Unnamed fs) = fs.items
fields_in Empty = []

-- one of the fields that aren't skipped names the parameter
abbrev pub fields_name : Source → List ℕ → List Field → Bool
fields_name S x fs = list_any (λ f. not f.skipped && names S deepest x f.written) fs

-- one of the variants does
abbrev pub variants_name : Source → List ℕ → List Variant → Bool
variants_name S x vs = list_any (λ v. fields_name S x (fields_in v.fields)) vs

-- an item names the parameter
abbrev pub reads : Source → List ℕ → ItemKind → Bool
reads S x (Struct fs) = fields_name S x (fields_in fs)
reads S x (Enum d vs) = variants_name S x vs.items
reads S x (Alias t) = names S deepest x t
reads S x (ConstantItem e) = false
