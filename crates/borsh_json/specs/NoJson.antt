-- Why a member has no JSON: what a refusal of `to_json` says.
use Rattle.std.specs.{Prelude.{◌≡◌, ◌⊎◌, ⊤, ℕ, suc, ◌+◌, ◌*◌, ◌≤◌, List, [], ◌∷◌, ◌++◌, length, Bool, true, Option, string_bytes}, Float.{Format}}
use Rattle.json.specs.Json.{Json}
use Rattle.borsh_json.specs.{declared.error.JsonError.{JsonError}, declared.error.JsonError.TheVariants.{OutOfMemory, NoMember, NoValue, Ambiguous, NotJson, Refused}, declared.error.Refusal.{Refusal}, declared.error.Refusal.TheVariants.{TooDeep, RepeatedName, EmptyElements, NotBool, NotUtf8, Zero, NotNumber, Descends}, Descents.{HasDescent}, Forms.{Form}, InOrder.{Step, element}, Inside.{IsInside}, NoValue.{path_steps}, Represents.{HaveBytes}, Table.{Lengths, truth, whole, float, utf8, list, HasKind, HasEmptyElements, RepeatsName, Part}}

module _ (F : List ℕ → Option Form) where
  -- no JSON says a value of the name whose bytes begin so, whatever parts and bytes follow
  abbrev pub IsNoJson : List ℕ → List ℕ → Type 0
  IsNoJson x own = (j : Json) (ps : List Part) (bs : List ℕ) → HaveBytes F ((x, j) ∷ ps) (own ++ bs) → ⊥

  -- the refusal is about values of the name: of this kind
  abbrev pub IsAbout : Refusal → List ℕ → Type 0
  IsAbout (RepeatedName name) x = RepeatsName F x (string_bytes name)
  IsAbout EmptyElements x = HasEmptyElements F x
  IsAbout NotBool x = HasKind F x truth
  IsAbout NotUtf8 x = (l : Lengths) × HasKind F x (utf8 l)
  IsAbout Zero x = (n : ℕ) × (signed : Bool) × HasKind F x (whole n signed true)
  IsAbout NotNumber x = (f : Format) × HasKind F x (float f)
  IsAbout refusal x = ⊥

  -- the refusal is right of a value of the name that begins with these bytes: it is about such values, and no JSON says this one
  abbrev pub RefusesOwn : Refusal → List ℕ → List ℕ → Type 0
  RefusesOwn refusal x own = IsAbout refusal x × IsNoJson x own

  -- it is right of the element at an index in the own bytes of a list
  abbrev pub RefusesElement : ℕ → Refusal → List ℕ → List ℕ → Type 0
  RefusesElement index refusal x own =
      (l : Lengths) × (e : List ℕ) × (front : List ℕ) × (piece : List ℕ) × (rest : List ℕ)
      × HasKind F x (list l e) × (own ≡ front ++ (piece ++ rest)) × (length front ≡ l.width + index * length piece) × RefusesOwn refusal e piece × IsNoJson x own

  module _ (root bytes : List ℕ) where
    -- the path leads to a value that begins in the bytes inside of 128 others or more
    abbrev pub NestsTooDeep : List Step → Type 0
    NestsTooDeep path = (n : ℕ) × (before : List ℕ) × (after : List ℕ) × (x : List ℕ) × (bytes ≡ before ++ after) × (128 ≤ n) × IsInside F root n path before x

    -- the path leads to a value that begins in the bytes and is refused so, or to an element of it that is
    abbrev pub HasNoJsonPart : List Step → Refusal → Type 0
    HasNoJsonPart path refusal =
        (n : ℕ) × (outer : List Step) × (before : List ℕ) × (own : List ℕ) × (after : List ℕ) × (x : List ℕ)
        × (bytes ≡ before ++ (own ++ after)) × IsInside F root n outer before x
        × (((path ≡ outer) × RefusesOwn refusal x own) ⊎ ((index : ℕ) × (path ≡ outer ++ element index ∷ []) × RefusesElement index refusal x own))

    -- the path leads to an element of a set or map that begins in the bytes, which isn't above the one before it
    abbrev pub IsOutOfOrder : List Step → Type 0
    IsOutOfOrder path =
        (n : ℕ) × (outer : List Step) × (passed : ℕ) × (before : List ℕ) × (after : List ℕ) × (x : List ℕ)
        × (path ≡ outer ++ element (suc passed) ∷ []) × (bytes ≡ before ++ after) × IsInside F root n outer before x × HasDescent F x after passed

    -- the refusal of a path is a true reason why a member has no JSON
    abbrev pub RefusesBytes : List Step → Refusal → Type 0
    RefusesBytes path TooDeep = NestsTooDeep path
    RefusesBytes path Descends = IsOutOfOrder path
    RefusesBytes path refusal = HasNoJsonPart path refusal

    -- and so is the refusal of a call for a member
    abbrev pub ShowsNoJson : JsonError → Type 0
    ShowsNoJson OutOfMemory = ⊤
    ShowsNoJson (NoMember f) = ⊤
    ShowsNoJson NoValue = ⊥
    ShowsNoJson (Ambiguous x) = ⊤
    ShowsNoJson (NotJson offset) = ⊥
    ShowsNoJson (Refused path refusal) = (path.root.now ≡ root) × RefusesBytes (path_steps path) refusal
