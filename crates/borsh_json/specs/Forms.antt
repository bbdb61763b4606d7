-- The format's own types among the definitions of a container.
use Rattle.std.specs.Prelude.{◌≡◌, ◌⊎◌, ℕ, pos, List, [], ◌∷◌, ◌++◌, codes, Option, Some}
use Rattle.borsh_walks.specs.Container.{IsZeroSize}
pub use Rattle.borsh_walks.specs.Forms.{Form, primitive, sequence, tuple, choice, named, unnamed, no_fields, field_bytes, variant_bytes, form_of, form_of_struct, forms_in, shape_of_form, shapes}

-- F is the definitions of a container, as a function of the name
module _ (F : List ℕ → Option Form) where
  -- values of the name have no bytes
  abbrev pub HasNoBytes : List ℕ → Type 0
  HasNoBytes = IsZeroSize (shapes F)

  -- a list of elements e of any length, with a length prefix of four bytes
  abbrev pub IsList : List ℕ → List ℕ → Type 0
  IsList x e = F x ≡ Some (sequence 4 0 4294967295 e)

  -- the element is the format's `u8`
  abbrev pub IsByte : List ℕ → Type 0
  IsByte e = (e ≡ codes "u8") × (F e ≡ Some (primitive 1))

  -- the part is the format's `()`, which has no bytes
  abbrev pub IsUnit : List ℕ → Type 0
  IsUnit e = (e ≡ codes "()") × HasNoBytes e

  -- `Option<T>`, where p is T: `None` has the tag 0 and a `()`, `Some` the tag 1 and a `T`
  abbrev pub IsOption : List ℕ → List ℕ → Type 0
  IsOption x p =
      (none : List ℕ)
      × (F x ≡ Some (choice 1 ((pos 0, codes "None", none) ∷ (pos 1, codes "Some", p) ∷ [])))
      × IsUnit none
      × (x ≡ codes "Option<" ++ p ++ codes ">")

  -- `BTreeMap<K, V>` or `HashMap<K, V>`, where k is K and v is V: a list of tuples of two
  abbrev pub IsMap : List ℕ → List ℕ → List ℕ → Type 0
  IsMap x k v =
      (e : List ℕ)
      × IsList x e
      × (F e ≡ Some (tuple (k ∷ v ∷ [])))
      × ((x ≡ codes "BTreeMap<" ++ k ++ codes ", " ++ v ++ codes ">")
      ⊎ (x ≡ codes "HashMap<" ++ k ++ codes ", " ++ v ++ codes ">"))
