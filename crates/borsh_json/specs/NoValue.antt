-- Why a text says no value, or says one that isn't read: what an error of `from_json` says.
use Rattle.std.specs.{Prelude.{◌≡◌, ◌⊎◌, ⊤, ℕ, ℤ, ◌≤◌, List, [], ◌∷◌, ◌++◌, map, string_bytes, true, false, Option, Some, None, IsSome, slice_get}, List.{list_any}, Str.{bytes_eq}}
use Rattle.json.specs.{Json.{Json, string, object, Members, no_members, member, document}, Find.{get_member}}
use Rattle.borsh_walks.specs.Container.{Member}
use Rattle.borsh_values.specs.{Membership.{IsUndecided}, declared.faults.Path.{Path}, declared.faults.PathStep.{PathStep}, declared.faults.PathStep.TheVariants.{Field, Place, Element, Variant}}
use Rattle.borsh_json.specs.{declared.error.JsonError.{JsonError}, declared.error.JsonError.TheVariants.{OutOfMemory, NoMember, NoValue, Ambiguous, NotJson, Refused}, declared.error.Refusal.{Refusal}, declared.error.Refusal.TheVariants.{TooDeep, RepeatedName, EmptyElements, Descends, Expected, MissingField, UnknownName, RepeatedKey, Undefined}, Forms.{Form, shapes}, InOrder.{Step, field, place, element, variant, IsReached, Falls}, Represents.{HaveBytes, SaysFirst, SaysSome}, Table.{Lengths, Keys, fields, variants, entries, HasKind, HasEmptyElements, RepeatsName, Part, Entry, entries_of, key_json, IsVariant}}

-- ---- the path of a refusal

abbrev pub step_of : PathStep → Step
step_of (Field name) = field name.now
step_of (Place index) = place index
step_of (Element index) = element index
step_of (Variant name) = variant name.now

-- the steps of a path
abbrev pub path_steps : Path → List Step
path_steps path = map step_of path.steps.items

-- an object has a key twice
abbrev pub RepeatsKey : Json → List ℕ → Type 0
RepeatsKey i name = (ms : Members) × (xs : List Entry) × (e : Entry) × (ys : List Entry) × (i ≡ object ms) × (entries_of ms ≡ xs ++ e ∷ ys) × (e.0 ≡ name) × (list_any (λ (x : Entry). bytes_eq e.0 x.0) xs ≡ true)

module _ (F : List ℕ → Option Form) where
  -- JSON of the name says own bytes and parts, whatever these say
  abbrev pub SaysOwn : List ℕ → Json → Type 0
  SaysOwn x i = (own : List ℕ) × (ps : List Part) × SaysFirst F x i own ps

  -- of a map that is an object a key says nothing
  abbrev pub HasBadKey : List ℕ → Json → Type 0
  HasBadKey x i =
      (l : Lengths) × (keys : Keys) × (k : List ℕ) × (v : List ℕ) × (ms : Members) × (xs : List Entry) × (e : Entry) × (ys : List Entry)
      × HasKind F x (entries l keys k v) × (i ≡ object ms) × (entries_of ms ≡ xs ++ e ∷ ys) × (SaysOwn k (key_json keys e.0) → ⊥)

  -- the JSON itself fails, and not only that of its parts: it says no own bytes and parts; or it is an object with a key that says nothing
  abbrev pub FailsHere : List ℕ → Json → Type 0
  FailsHere x i = (SaysOwn x i → ⊥) ⊎ HasBadKey x i

  -- JSON of a struct, whose object has no field of this name
  abbrev pub LacksField : List ℕ → Json → List ℕ → Type 0
  LacksField x i name = (fs : List (List ℕ × List ℕ)) × (n : ℕ) × (f : List ℕ × List ℕ) × (ms : Members) × HasKind F x (fields fs) × (slice_get fs n ≡ Some f) × (f.0 ≡ name) × (i ≡ object ms) × (get_member name ms ≡ None)

  -- of a struct, whose object has a member of this name, which no field has
  abbrev pub HasOther : List ℕ → Json → List ℕ → Type 0
  HasOther x i name = (fs : List (List ℕ × List ℕ)) × (ms : Members) × HasKind F x (fields fs) × (i ≡ object ms) × IsSome (get_member name ms) × (list_any (λ (f : List ℕ × List ℕ). bytes_eq name f.0) fs ≡ false)

  -- of an enum, no variant of which has this name
  abbrev pub NamesNoVariant : List ℕ → Json → List ℕ → Type 0
  NamesNoVariant x i name = (w : ℕ) × (vs : List (ℤ × List ℕ × List ℕ)) × HasKind F x (variants w vs) × ((i ≡ string name) ⊎ ((value : Json) × (i ≡ object (member name value no_members)))) × ((k : ℤ) (p : List ℕ) → IsVariant k name p vs → ⊥)

  -- why JSON of the name says no bytes: of JSON that isn't what is expected no more than that
  abbrev pub Why : List ℕ → Json → Refusal → Type 0
  Why x i (Expected wanted) = ⊤
  -- the elements of the list, or the keys of the map, have no bytes; so no JSON says a value of the name
  Why x i EmptyElements = HasEmptyElements F x × ((k : Json) → SaysOwn x k → ⊥)
  -- two fields or two variants have the name; so no JSON says a value
  Why x i (RepeatedName name) = RepeatsName F x (string_bytes name) × ((k : Json) → SaysOwn x k → ⊥)
  Why x i (Undefined name) = (string_bytes name ≡ x) × (F x ≡ None)
  Why x i (UnknownName name) = NamesNoVariant x i (string_bytes name) ⊎ HasOther x i (string_bytes name)
  Why x i (RepeatedKey name) = RepeatsKey i (string_bytes name)
  Why x i refusal = ⊥

module _ (F : List ℕ → Option Form) (root : List ℕ) where
  module _ (j : Json) where
    -- the path leads to the first place that fails, and why: all that comes before it in the bytes is read
    abbrev pub FailsAt : List Step → Refusal → Type 0
    -- the part is inside of 128 others
    FailsAt path TooDeep = (n : ℕ) × (before : List ℕ) × (p : Part) × IsReached F root j n path before p × (128 ≤ n)
    -- the last step is to an element of a set or map, which isn't above the one before it
    FailsAt path Descends = (n : ℕ) × (outer : List Step) × (index : ℕ) × (before : List ℕ) × (x : List ℕ) × (i : Json) × (path ≡ outer ++ element index ∷ []) × IsReached F root j n outer before (x, i) × Falls F x i index
    -- the last step is to a field that the object hasn't
    FailsAt path MissingField = (n : ℕ) × (outer : List Step) × (name : List ℕ) × (before : List ℕ) × (x : List ℕ) × (i : Json) × (path ≡ outer ++ field name ∷ []) × IsReached F root j n outer before (x, i) × LacksField F x i name
    -- the part's JSON fails itself
    FailsAt path refusal = (n : ℕ) × (before : List ℕ) × (x : List ℕ) × (i : Json) × IsReached F root j n path before (x, i) × Why F x i refusal × FailsHere F x i

    -- JSON that is refused otherwise than for its depth or its order says no bytes at all
    abbrev pub SaysNothing : Refusal → Type 0
    SaysNothing TooDeep = ⊤
    SaysNothing Descends = ⊤
    SaysNothing refusal = SaysSome F root j → ⊥

  -- the error of a check of bytes that the JSON says: an element falls that the path leads to, or a definition is ambiguous
  abbrev pub ShowsFall : Json → JsonError → Type 0
  ShowsFall j OutOfMemory = ⊤
  ShowsFall j (Ambiguous x) = IsUndecided (shapes F) root x.now
  ShowsFall j (Refused path refusal) = (refusal ≡ Descends) × (path.root.now ≡ root) × FailsAt j (path_steps path) Descends
  ShowsFall j e = ⊥

  -- the error of a call is a true reason why the text has no answer: it isn't JSON; or it is, and says bytes that are no member of the root, or a part of it fails
  abbrev pub ShowsNoValue : List ℕ → JsonError → Type 0
  ShowsNoValue text OutOfMemory = ⊤
  ShowsNoValue text (NoMember f) = ⊥
  ShowsNoValue text NoValue = (j : Json) → document text ≡ Some j → (bytes : List ℕ) × HaveBytes F ((root, j) ∷ []) bytes × (Member (shapes F) root bytes → ⊥)
  ShowsNoValue text (Ambiguous x) = ⊤
  ShowsNoValue text (NotJson offset) = document text ≡ None
  ShowsNoValue text (Refused path refusal) = (j : Json) → document text ≡ Some j → (path.root.now ≡ root) × FailsAt j (path_steps path) refusal × SaysNothing j refusal

-- of a text that represents some bytes, and of such bytes, these are the only errors: memory, definitions that aren't unambiguous, and parts inside of 128 others
abbrev pub IsGivenUp : JsonError → Type 0
IsGivenUp OutOfMemory = ⊤
IsGivenUp (NoMember f) = ⊥
IsGivenUp NoValue = ⊥
IsGivenUp (Ambiguous x) = ⊤
IsGivenUp (NotJson offset) = ⊥
IsGivenUp (Refused path refusal) = refusal ≡ TooDeep
