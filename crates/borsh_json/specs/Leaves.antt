-- What is written of a value without places of its own.
use Rattle.std.specs.{Prelude.{◌≡◌, ⊤, ℕ, ◌<◌, ◌≤◌, List, [], ◌∷◌, ◌++◌, length, Bool, Decides, Option, Some, Result, MatchResult}, List.{AllByRecursion}, declared.cmp.Ordering.TheVariants.{Less}}
use Rattle.json.specs.{Token.{Token}, Json.{Json, string}, Tree.{json_tokens, depth, HasNumbers}}
use Rattle.json.specs.Token as token
use Rattle.borsh_walks.specs.declared.definition.Definition.{Definition}
use Rattle.borsh_values.specs.{Nodes.{Opens}, Walks.{IsCounted}}
use Rattle.borsh_plan.specs.declared.named.Named.{Named}
use Rattle.borsh_json.specs.{declared.kinds.Kind.{Kind as Found}, declared.kinds.KeyKind.{KeyKind}, declared.error.WriteError.{WriteError}, declared.error.WriteError.TheVariants.{OutOfMemory, Refused, Element}, declared.output.Output.{Output}, declared.output.LongNumbers.{LongNumbers}, declared.output.LongNumbers.TheVariants.{Plain, Quoted}, declared.output.Output.TheVariants.{Compact, Pretty, Nothing}, declared.sources.EntryKey.{EntryKey}, Forms.{Form, form_of, shape_of_form, shapes}, Found.{IsPrimitiveKind}, Frames.{IsEntryKey}, NoJson.{RefusesOwn, RefusesElement}, Places.{AreKeysOf, IsKindOf}, InOrder.{IsEach}, Printed.{QuotesLong}, Represents.{SaysFirst, HaveBytes}, Table.{Keys, Kind, Part, HasKind, IsHex, key_json, key_order, truth, whole, float, float_size, raw}}

-- ---- tokens

-- how numbers of 64 bits are written
abbrev pub long_of : Output → LongNumbers
long_of (Compact w long) = long
long_of (Pretty w long) = long
long_of Nothing = Quoted

-- the text is of these tokens, if one is kept
abbrev pub Holds : Output → List Token → Type 0
Holds (Compact w long) ts = (w.before ≡ []) × (w.tokens ≡ ts)
Holds (Pretty w long) ts = w ≡ ts
Holds Nothing ts = ⊤

-- these tokens were added
abbrev pub Adds : List Token → Output → Output → Type 0
Adds ts old new = (long_of new ≡ long_of old) × ((before : List Token) → Holds old before → Holds new (before ++ ts))

-- a number of 64 bits
abbrev pub long_token : LongNumbers → List ℕ → Token
long_token Plain s = token.number s
long_token Quoted s = token.string s

-- ---- values

-- how many bytes a primitive of the kind has
abbrev pub HasSize : Kind → ℕ → Type 0
HasSize truth n = n ≡ 1
HasSize (whole m signed non_zero) n = (n ≡ m) × (1 ≤ m) × (m ≤ 16) × (4 < m → 8 ≤ m)
HasSize (float f) n = n ≡ float_size f
HasSize (raw m) n = n ≡ m
HasSize kind n = ⊥

-- hexadecimal digits of these bytes were written, or an allocation failed
abbrev pub WritesHex : List ℕ → Output → Output → Result (Unit {0}) WriteError → Type 0
WritesHex bytes old new result = MatchResult result (λ _. (s : List ℕ) × Adds (token.string s ∷ []) old new × IsHex (string s) bytes) (λ e. e ≡ OutOfMemory)

module _ (F : List ℕ → Option Form) where
  -- the parts have these bytes; where numbers of 64 bits are written as strings, they are in all of them
  abbrev pub AreWritten : LongNumbers → List Part → List ℕ → Type 0
  AreWritten long ps bytes = HaveBytes F ps bytes × (long ≡ Quoted → AllByRecursion (λ p. IsEach F (QuotesLong F) p.0 p.1) ps)

  -- JSON of the name was written whole: it nests at most so deep, and says these bytes
  pub record WritesLeaf (n : ℕ) (x own : List ℕ) (old new : Output) : Type 0 where
    pub json : Json
    pub adds : Adds (json_tokens json) old new
    pub numbers : HasNumbers json
    pub nests : depth json ≤ n
    pub says : (ps : List Part) (bs : List ℕ) → AreWritten (long_of old) ps bs → AreWritten (long_of old) ((x, json) ∷ ps) (own ++ bs)

  -- the error is right of a value of the name that begins with these bytes
  abbrev pub RefusesValue : List ℕ → List ℕ → WriteError → Type 0
  RefusesValue x own OutOfMemory = ⊤
  RefusesValue x own (Refused refusal) = RefusesOwn F refusal x own
  RefusesValue x own (Element index refusal) = RefusesElement F index refusal x own

  -- the same of the element at an index, which the error has
  abbrev pub RefusesAt : ℕ → List ℕ → List ℕ → WriteError → Type 0
  RefusesAt n x own OutOfMemory = ⊤
  RefusesAt n x own (Refused refusal) = ⊥
  RefusesAt n x own (Element index refusal) = (index ≡ n) × RefusesOwn F refusal x own

  -- of a key, which has no elements
  abbrev pub RefusesKey : List ℕ → List ℕ → WriteError → Type 0
  RefusesKey x own OutOfMemory = ⊤
  RefusesKey x own (Refused refusal) = RefusesOwn F refusal x own
  RefusesKey x own (Element index refusal) = ⊥

  abbrev pub IsElementWritten : ℕ → List ℕ → List ℕ → Output → Output → Result (Unit {0}) WriteError → Type 0
  IsElementWritten n e own old new result = MatchResult result (λ _. WritesLeaf 0 e own old new) (λ error. RefusesAt n e own error)

  -- JSON of the name was written that says these bytes, or none can be
  abbrev pub IsWritten : ℕ → List ℕ → List ℕ → Output → Output → Result (Unit {0}) WriteError → Type 0
  IsWritten n x own old new result = MatchResult result (λ _. WritesLeaf n x own old new) (λ e. RefusesValue x own e)

  -- the key of an entry was written that says these bytes as a value of the name, and stands for its text; or none can be
  abbrev pub IsKeyWritten : List ℕ → KeyKind → Keys → List ℕ → Output → Output → Result EntryKey WriteError → Type 0
  IsKeyWritten k kind keys own old new result = MatchResult result
      (λ key. (s : List ℕ) × IsEntryKey kind key s × Adds (token.key s ∷ []) old new × SaysFirst F k (key_json keys s) own [])
      (λ e. RefusesKey k own e)

  -- the own bytes of a value of the name, which has this definition and these parts
  abbrev pub IsOpenedAs : List ℕ → Form → List ℕ → List (List ℕ) → Type 0
  IsOpenedAs x f own parts = (F x ≡ Some f) × Opens (shapes F) (shape_of_form f) own parts × IsCounted (shape_of_form f)

-- of a name that the code found this kind of, with these definitions and own bytes, a value without places of its own was written
abbrev pub WritesNode : Found → ℕ → Definition → List ℕ → Output → Output → Result (Unit {0}) WriteError → Type 0
WritesNode kind n d own old new result =
    (F : List ℕ → Option Form) (ns : List Named) (x : List ℕ) (parts : List (List ℕ)) → IsOpenedAs F x (form_of d) own parts → IsKindOf F ns x (form_of d) kind
    → (parts ≡ []) × IsWritten F n x own old new result

-- and so was the key of an entry
abbrev pub WritesKey : KeyKind → Definition → List ℕ → Output → Output → Result EntryKey WriteError → Type 0
WritesKey kind d own old new result =
    (F : List ℕ → Option Form) (ns : List Named) (k : List ℕ) (keys : Keys) (parts : List (List ℕ)) → IsOpenedAs F k (form_of d) own parts → AreKeysOf F ns k (form_of d) kind keys
    → (parts ≡ []) × IsKeyWritten F k kind keys own old new result

-- P holds of any name of a primitive's kind that the code found, where the value has as many bytes as these
abbrev pub ForPrimitives : Found → List ℕ → ((List ℕ → Option Form) → List ℕ → Type 0) → Type 0
ForPrimitives kind own P = (F : List ℕ → Option Form) (x : List ℕ) (k : Kind) → IsPrimitiveKind kind k → HasKind F x k → HasSize k (length own) → P F x

-- whether the key of a map is above another one, whose keys are of one kind
abbrev pub TellsAbove : EntryKey → EntryKey → Bool → Type 0
TellsAbove last key above =
    (F : List ℕ → Option Form) (ns : List Named) (k : List ℕ) (f : Form) (kind : KeyKind) (keys : Keys) (s t : List ℕ) (i j : Json)
    → AreKeysOf F ns k f kind keys → IsEntryKey kind last s → IsEntryKey kind key t → Decides above (key_order keys (s, i) (t, j) ≡ Less)
