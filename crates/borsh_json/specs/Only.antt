-- Values whose definitions go with their bytes in one way only.
use Rattle.std.specs.Prelude.{◌≡◌, ℕ, List, [], ◌∷◌, ◌++◌, Option, Some}
use Rattle.borsh_values.specs.{Nodes.{Opens}, Cursor.{HasOneTag, OnlyEmpty, OpensOnce}, Walks.{IsCounted}}
use Rattle.borsh_json.specs.Forms.{Form, shape_of_form, shapes, HasNoBytes}

module _ (F : List ℕ → Option Form) where
  -- a value of x, which has bytes and this definition, begins with these own bytes and has these parts, and no other bytes, parts or variant of the definition are there; it has a count of at most eight bytes, or none
  abbrev pub IsOpened : List ℕ → Form → List ℕ → List (List ℕ) → Type 0
  IsOpened x f own parts = (HasNoBytes F x → ⊥) × (F x ≡ Some f) × Opens (shapes F) (shape_of_form f) own parts × OpensOnce (shapes F) (shape_of_form f) own parts × IsCounted (shape_of_form f) × HasOneTag (shape_of_form f) own

  -- the bytes are a value of each name, one after another, and each value in them is opened so
  pub data AreOnly : List (List ℕ) → List ℕ → Type 0 where
    none_only : AreOnly [] []
    empty_only : {x bs : List ℕ} {xs : List (List ℕ)} → OnlyEmpty (shapes F) x → AreOnly xs bs → AreOnly (x ∷ xs) bs
    opened_only : {x bs : List ℕ} {xs : List (List ℕ)} (f : Form) (own : List ℕ) (parts : List (List ℕ)) → IsOpened x f own parts → AreOnly (parts ++ xs) bs → AreOnly (x ∷ xs) (own ++ bs)
