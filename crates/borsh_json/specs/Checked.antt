-- Bytes of which each definition opens once, and in which what has to ascend does, whatever JSON says them.
use Rattle.std.specs.Prelude.{◌≡◌, ℕ, suc, zero, List, [], ◌∷◌, ◌++◌, map, replicate, drop, Option, Some, None, IfSome}
use Rattle.borsh_values.specs.{Nodes.{packed_size}, Cursor.{HasOneTag, OpensOnce}}
use Rattle.borsh_json.specs.{Descents.{HasKeys, PrimitivesDescend}, Forms.{Form, primitive, shape_of_form, shapes, HasNoBytes}, Found.{IsSet}, Frames.{IsListKind}, Ordered.{a_value, IsAtLeast}, Orders.{KnowsNoOrder}, Table.{Kind, HasKind}}

-- what is still to be read of some bytes
pub data Due : Type 0 where
  -- a value of a name
  one : List ℕ → Due
  -- so many elements e of a set or map with keys k, and all bytes from the element before them on, if there is one
  ascending : (e k : List ℕ) → ℕ → Option (List ℕ) → Due

module _ (F : List ℕ → Option Form) where
  -- x is no set or map, or is written as no list
  abbrev pub NeedsNoOrder : List ℕ → Type 0
  NeedsNoOrder x = (kind : Kind) → HasKind F x kind → IsListKind kind → KnowsNoOrder F x

  -- a value of x begins with these own bytes and has these parts, and no other bytes, parts or variant of its definition are there
  abbrev pub IsOnly : List ℕ → List ℕ → List (List ℕ) → Type 0
  IsOnly x own parts = (f : Form) × (F x ≡ Some f) × OpensOnce (shapes F) (shape_of_form f) own parts × HasOneTag (shape_of_form f) own

  -- the bytes are what is due, each value opens once, and the keys of sets and maps ascend
  pub data AreChecked : List Due → List ℕ → Type 0 where
    nothing_due : AreChecked [] []
    -- a value without bytes
    empty : {x bs : List ℕ} {ds : List Due} → HasNoBytes F x → AreChecked ds bs → AreChecked (one x ∷ ds) bs
    -- a value in which nothing has to ascend; its parts come next
    plain : {x bs : List ℕ} {ds : List Due} (own : List ℕ) (parts : List (List ℕ)) → (HasNoBytes F x → ⊥) → NeedsNoOrder x → IsOnly x own parts → AreChecked (map one parts ++ ds) bs → AreChecked (one x ∷ ds) (own ++ bs)
    -- a set or map whose elements aren't in its own bytes; they come next
    collection : {x e k bs : List ℕ} {ds : List Due} (own : List ℕ) (n : ℕ) → HasKeys F x e k → packed_size (shapes F e) ≡ 0 → IsOnly x own (replicate n e) → AreChecked (ascending e k n None ∷ ds) bs → AreChecked (one x ∷ ds) (own ++ bs)
    -- a set of primitives of some bytes, which are in its own bytes behind their count
    packed : {x e bs : List ℕ} {ds : List Due} (own : List ℕ) (n : ℕ) → IsSet F x e → F e ≡ Some (primitive (suc n)) → ((i : ℕ) → PrimitivesDescend F e (suc n) (drop 4 own) i → ⊥) → IsOnly x own [] → AreChecked ds bs → AreChecked (one x ∷ ds) (own ++ bs)
    -- no element is left
    elements_end : {e k bs : List ℕ} {ds : List Due} {before : Option (List ℕ)} → AreChecked ds bs → AreChecked (ascending e k zero before ∷ ds) bs
    -- the next element's key is above that of the element before it
    next_element : {e k bs : List ℕ} {n : ℕ} {ds : List Due} {before : Option (List ℕ)} → IfSome before (λ earlier. IsAtLeast F (a_value k ∷ []) earlier bs → ⊥) → AreChecked (one e ∷ ascending e k n (Some bs) ∷ ds) bs → AreChecked (ascending e k (suc n) before ∷ ds) bs
