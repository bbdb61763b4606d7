-- What the program's values say.
use Rattle.std.specs.Prelude.{◌≡◌, ℕ, List, [], ◌∷◌, map, Option, Some, None, MatchOption, cond, codes, string_bytes, slice_get, String}
use Rattle.std.specs.Global.{Global}
use Rattle.std.specs.Borrow.{Bor}
use Rattle.borsh_source.specs.declared.uses.Scope.{Scope}
use Rattle.std.specs.Str.{bytes_eq}
use Rattle.std.specs.HashMap.{HashMap, get_by}
use Rattle.borsh_source.specs.declared.uses.Given.{Given}
use Rattle.borsh_source.specs.declared.uses.Given.TheVariants.{Unread, Named, Number}
use Rattle.borsh_source.specs.declared.uses.Use.{Use}
use Rattle.borsh_source.specs.declared.tree.Parameter.{Parameter}
use Rattle.borsh_source.specs.declared.tree.Item.{Item}
use Rattle.borsh_source.specs.declared.tree.Source.{Source}
use Rattle.borsh_source.specs.declared.context.Context.{Context}

-- what a parameter stands for: nothing that is read, the type of a name, a number
pub data Stands : Type 0 where
  unread : Stands
  named : List ℕ → Stands
  number : ℕ → Stands

abbrev pub stands : Given → Stands
stands Unread = unread
stands (Named name) = named (string_bytes name)
stands (Number n) = number n

-- an item that is used, by its index, and what its parameters stand for
pub record Used : Type 0 where
  pub item : ℕ
  pub given : List Stands

abbrev pub used : Use → Used
used u = record { item = u.item; given = map stands u.given.items }

-- what the parameter of a name stands for: the first of that name; `Self` stands for what is behind those of the parameters
abbrev pub given_of : List Parameter → List Stands → List ℕ → Option Stands
given_of [] [] x = None
given_of [] (g ∷ gs) x = cond (bytes_eq x (codes "Self")) (Some g) None
given_of (p ∷ ps) [] x = None
given_of (p ∷ ps) (g ∷ gs) x = cond (bytes_eq (string_bytes p.name) x) (Some g) (given_of ps gs x)

-- the item at the index has the name
pub record IsNamed (S : Source) (x : List ℕ) (i : ℕ) (item : Item) : Type 0 where
  pub at : slice_get S.items.items i ≡ Some item
  pub name : string_bytes item.name ≡ x

-- and no other one has it
pub record IsItem (S : Source) (x : List ℕ) (i : ℕ) (item : Item) : Type 0 where
  pub named : IsNamed S x i item
  pub only : (j : ℕ) (other : Item) → slice_get S.items.items j ≡ Some other → string_bytes other.name ≡ x → j ≡ i

-- no item has the name
abbrev pub IsNoItem : Source → List ℕ → Type 0
IsNoItem S x = (i : ℕ) (item : Item) → IsNamed S x i item → ⊥

-- the mark of a name
abbrev pub index_of : {H : Type 0} → HashMap (Bor (List ℕ)) (Option ℕ) H → List ℕ → Option (Option ℕ)
index_of m x = get_by (λ k. bytes_eq x k.now) m

-- the index of a context finds each item by its name, and has no place for a name that comes twice
pub record IsIndexed (C : Context) : Type 0 where
  pub sound : (x : List ℕ) (i : ℕ) → index_of C.index x ≡ Some (Some i) → (item : Item) × IsItem C.source.now x i item
  pub complete : (x : List ℕ) → index_of C.index x ≡ None → IsNoItem C.source.now x

-- the place of a name that was not there before, or none
abbrev pub IsFirst : (List ℕ → Option (Option ℕ)) → List ℕ → ℕ → Option ℕ → Type 0
IsFirst T x n v = MatchOption v (Unit {0}) (λ i. (i ≡ n) × (T x ≡ None))

-- the tree of a context
abbrev pub source_of : Context → Source
source_of C = C.source.now

-- the parameters of a scope, and what they stand for
abbrev pub parameters_of : Scope → List Parameter
parameters_of s = s.parameters.now

abbrev pub given_in : Scope → List Stands
given_in s = map stands s.given.now

-- the texts of names
abbrev pub texts_of : List (String Global) → List (List ℕ)
texts_of ds = map (λ d. string_bytes d) ds

-- what was looked up among the items is the one of that name
abbrev pub IsFound : Source → List ℕ → Option (ℕ × Bor Item) → Type 0
IsFound S x o = MatchOption o (IsNoItem S x) (λ p. IsItem S x p.0 p.1.now)
