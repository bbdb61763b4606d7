-- Where in a value another one begins, and the path to it.
use Rattle.std.specs.Prelude.{◌≡◌, ℕ, suc, ℤ, List, [], ◌∷◌, ◌++◌, length, Option, Some, slice_get}
use Rattle.borsh_walks.specs.Container.{tag}
use Rattle.borsh_json.specs.{Forms.{Form, primitive, sequence, tuple, choice, named, unnamed, no_fields}, InOrder.{Step, field, place, element, variant}, Only.{IsOpened, AreOnly}, Table.{IsVariant}}

-- these steps lead from a value with this definition and own bytes to the part that so many are in front of
abbrev pub LeadTo : Form → List ℕ → ℕ → List Step → Type 0
LeadTo (primitive m) own n steps = ⊥
LeadTo (sequence w lo hi e) own n steps = steps ≡ element n ∷ []
LeadTo (tuple ps) own n steps = steps ≡ place n ∷ []
LeadTo (unnamed ps) own n steps = steps ≡ place n ∷ []
LeadTo no_fields own n steps = steps ≡ place n ∷ []
LeadTo (named fs) own n steps = (f : List ℕ × List ℕ) × (slice_get fs n ≡ Some f) × (steps ≡ field f.0 ∷ [])
LeadTo (choice w vs) own n steps = (k : ℤ) × (v : List ℕ) × (p : List ℕ) × IsVariant k v p vs × (own ≡ tag w k) × (steps ≡ variant v ∷ [])

module _ (F : List ℕ → Option Form) (root : List ℕ) where
  -- behind these bytes, inside of so many others, the value of a name begins that the path leads to: it is the root's; or it is a part of a value, behind that
  -- one's own bytes and its parts before this one. No other definition or bytes lead there
  pub data IsInside : ℕ → List Step → List ℕ → List ℕ → Type 0 where
    outermost : IsInside 0 [] [] root
    inside : {n : ℕ} {path : List Step} {before mid x y : List ℕ} {ps : List (List ℕ)} (f : Form) (own : List ℕ) (qs : List (List ℕ)) (steps : List Step) → IsInside n path before x → IsOpened F x f own (ps ++ y ∷ qs) → AreOnly F ps mid → LeadTo f own (length ps) steps → IsInside (suc n) (path ++ steps) (before ++ (own ++ mid)) y
