-- What the frames of the reader stand for, and what its steps return.
use Rattle.std.specs.{Prelude.{◌≡◌, ◌⊎◌, ⊤, ℕ, suc, zero, ℤ, String, slice_get, List, [], ◌∷◌, ◌++◌, ◌+◌, ◌-◌, ◌*◌, ◌<◌, length, map, drop, replicate, Bool, true, false, Option, Some, None, IsSome, Result, MatchOption, MatchResult, codes, string_bytes}, Borrow.{Bor}, Global.{Global}, Str.{bytes_eq}, List.{AllByRecursion, IsDistinct, list_any}, List.Sorted.{IsPermutation, IsStrictlySortedBy}, BTreeMap.{BTreeMap, btree_map_len}}
use Rattle.json.specs.{Token.{Token}, Json.{Json, string, array, object, Items, no_items, item, Members, no_members, member}, Find.{BeginsWith, InItems, InMembers, get_member, Finds, as_array}}
use Rattle.borsh_walks.specs.{Container.{references}, Tables.{mark_of}}
use Rattle.borsh_values.specs.{declared.faults.Path.{Path}, declared.faults.PathStep.{PathStep}}
use Rattle.borsh_plan.specs.declared.named.Named.{Named}
use Rattle.borsh_json.specs.{declared.definitions.Definitions.{Definitions}, declared.error.PartError.{PartError}, declared.error.PartError.TheVariants.{OutOfMemory as NoMemory, Refused as RefusedPart}, declared.error.ReadError.{ReadError}, declared.error.ReadError.TheVariants.{OutOfMemory, Refused}, declared.error.Refusal.{Refusal}, declared.error.Refusal.TheVariants.{Expected, RepeatedKey}, Errors.{IsUnreadable}, declared.kinds.Elements.{Elements as FoundElements}, declared.kinds.KeyKind.{KeyKind}, declared.kinds.KeyKind.TheVariants.{Text as TextKeys, Number as NumberKeys}, declared.numbers.Number.{Number}, declared.order.Ordered.{Ordered}, declared.opening.Array.{Array}, declared.opening.Array.TheVariants.{No, TooLong, Of}, declared.opening.Frame.{Frame}, declared.parts.Next.{Next}, declared.parts.Next.TheVariants.{Part, Missing, End}, declared.parts.Reading.{Reading}, declared.position.Key.{Key}, declared.position.Key.TheVariants.{None as NoKey, Name, Entry as EntryOf}, declared.position.Part.{Part as FoundPart}, declared.position.Parts.{Parts}, declared.position.Parts.TheVariants.{Root, List as Elements, Row, Object, Entries as MapEntries, Newtype, Some as Present, Variant}, declared.position.Place.{Place}, declared.sources.EntryKey.{EntryKey}, declared.sources.EntryKey.TheVariants.{Text as TextKey, Rank}, declared.sources.Source.{Source}, declared.sources.Source.TheVariants.{One, Items as TheItems, Members as TheMembers, Entries as InPlace, Texts, Ranks}, Forms.{Form, named, form_of, shape_of_form}, Found.{forms_of, names_of}, Descents.{PrimitivesDescend}, InOrder.{Step, field as field_step, place as place_step, element as element_step, variant as variant_step, AreSteps, BeginsParts, IsReached, InOrder}, NoValue.{step_of, path_steps, RepeatsKey, FailsHere, LacksField, HasOther, Why, FailsAt, SaysNothing}, Orders.{ArePrimitives}, Places.{IsAt, AreKeysOf}, Ranks.{HasRank}, Represents.{SaysFirst, HaveBytes}, Table.{Lengths, Keys, Kind, byte_list, list, row, inner, fields, optional, variants, entries, HasKind, Part as JsonPart, row_parts, list_parts, field_parts, Entry, entries_of, key_order, key_json, entry_parts, IsVariant, IsWhole, IsPrefixed, IsArray, Says}}

-- ---- errors

-- the error shows P, for a reason of these
abbrev pub ShowsRead : (Refusal → Type 0) → ReadError → Type 0 → Type 0
ShowsRead Reason OutOfMemory P = ⊤
ShowsRead Reason (Refused refusal) P = Reason refusal × P

-- that P doesn't hold
abbrev pub DeniesRead : (Refusal → Type 0) → ReadError → Type 0 → Type 0
DeniesRead Reason e P = ShowsRead Reason e (P → ⊥)

-- that the JSON of the name fails itself
abbrev pub FailsRead : (List ℕ → Option Form) → List ℕ → Json → ReadError → Type 0
FailsRead F x j e = ShowsRead (Why F x j) e (FailsHere F x j)

-- other JSON is expected
abbrev pub IsUnexpected : Refusal → Type 0
IsUnexpected (Expected wanted) = ⊤
IsUnexpected refusal = ⊥

-- or a key comes twice
abbrev pub IsKeyReason : Json → Refusal → Type 0
IsKeyReason j (Expected wanted) = ⊤
IsKeyReason j (RepeatedKey name) = RepeatsKey j (string_bytes name)
IsKeyReason j refusal = ⊥

-- where the bytes are primitives that have to ascend, none of them isn't above the one before it
abbrev pub NoneFalls : FoundElements → List ℕ → Type 0
NoneFalls es bytes = (found : Ordered) → es.order ≡ Some found → (F : List ℕ → Option Form) (ns : List Named) (e : List ℕ) → ArePrimitives F ns e found es.size bytes → (i : ℕ) → PrimitivesDescend F e es.size bytes i → ⊥

-- the path leads from the root by these steps
abbrev pub IsPath : List ℕ → List Step → Path → Type 0
IsPath root steps path = (path.root.now ≡ root) × (path_steps path ≡ steps)

-- so does the path of an error, unless there was no memory for it
abbrev pub HasPath : List ℕ → List Step → PartError → Type 0
HasPath root steps NoMemory = ⊤
HasPath root steps (RefusedPart path refusal) = IsPath root steps path

-- numbers of so many bytes each, of which an element at the end of the error's path isn't above the one before it
abbrev pub IsFallOf : List ℕ → List Step → (List ℕ → Option Form) → List ℕ → ℕ → List ℕ → PartError → Type 0
IsFallOf root outer F e n bytes NoMemory = ⊤
IsFallOf root outer F e n bytes (RefusedPart path refusal) = (i : ℕ) × IsPath root (outer ++ element_step i ∷ []) path × PrimitivesDescend F e n bytes i

-- elements with an order are such primitives
abbrev pub IsElementFall : List ℕ → List Step → FoundElements → List ℕ → PartError → Type 0
IsElementFall root outer es bytes error =
    (found : Ordered) × (es.order ≡ Some found)
    × ((F : List ℕ → Option Form) (ns : List Named) (e : List ℕ) → ArePrimitives F ns e found es.size bytes → IsFallOf root outer F e es.size bytes error)

-- the error of a part is a true reason why the JSON isn't read
abbrev pub IsUnread : (List ℕ → Option Form) → List ℕ → Json → PartError → Type 0
IsUnread F root j NoMemory = ⊤
IsUnread F root j (RefusedPart path refusal) = IsUnreadable refusal × (path.root.now ≡ root) × FailsAt F root j (path_steps path) refusal × SaysNothing F root j refusal

-- an error with a path has this refusal, unless there was no memory for the path
abbrev pub IsOf : Refusal → PartError → Type 0
IsOf refusal NoMemory = ⊤
IsOf refusal (RefusedPart path other) = other ≡ refusal

abbrev pub IsOfRead : ReadError → PartError → Type 0
IsOfRead OutOfMemory e = e ≡ NoMemory
IsOfRead (Refused refusal) e = IsOf refusal e

-- ---- the steps from a place to the part of it that was begun last

abbrev pub name_step : Option (List ℕ × List ℕ) → List Step
name_step None = []
name_step (Some f) = field_step f.0 ∷ []

-- to an entry, or to a part of another place
abbrev pub first_steps : Parts → ℕ → List Step
first_steps Root b = []
first_steps (Elements at n) b = element_step (b - 1) ∷ []
first_steps (Row at n) b = place_step (b - 1) ∷ []
first_steps (Object at fs) b = name_step (slice_get (map (λ f. (string_bytes f.0, string_bytes f.1)) fs.now.items) (b - 1))
first_steps (MapEntries es n) b = element_step (b - 1) ∷ []
first_steps (Newtype at) b = place_step (b - 1) ∷ []
first_steps (Present at) b = variant_step (codes "Some") ∷ []
first_steps (Variant v at) b = variant_step v.now ∷ []

-- from an entry to its value
abbrev pub last_steps : Parts → List Step
last_steps (MapEntries es n) = place_step 1 ∷ []
last_steps parts = []

abbrev pub steps_at : Place → List Step
steps_at p = first_steps p.parts p.begun ++ last_steps p.parts

-- through several places, the outermost first
abbrev pub steps_through : List Place → List Step
steps_through [] = []
steps_through (p ∷ ps) = steps_at p ++ steps_through ps

-- a step that was found
abbrev pub found_step : Option PathStep → List Step
found_step None = []
found_step (Some step) = step_of step ∷ []

-- ---- what is left of a place

-- items of these types; behind fields that were looked up in an object others, of whose members so many are left; or entries
pub data Left : Type 0 where
  items_left : List (List ℕ) → Items → Left
  fields_left : List (List ℕ × List ℕ) → List (List ℕ × List ℕ) → Members → ℕ → Left
  entries_left : Keys → List ℕ → List ℕ → List Entry → Left

-- a list, set or array
abbrev pub IsListKind : Kind → Type 0
IsListKind kind = (l : Lengths) × (e : List ℕ) × ((kind ≡ list l e) ⊎ (kind ≡ byte_list l e))

-- ---- what is wanted of a place: the fields' names, empty for other parts, and the names of the types of the parts that are left
abbrev pub Wanted : Type 0
Wanted = List ℕ × List ℕ

module _ (F : List ℕ → Option Form) (ns : List Named) where
  -- the only part
  abbrev pub IsOnlyPart : ℕ → ℕ → List Wanted → Type 0
  IsOnlyPart at i ws = (x : List ℕ) × IsAt ns at x × (ws ≡ drop i (([], x) ∷ []))

  -- so many parts of one name
  abbrev pub AreCopies : ℕ → ℕ → ℕ → List Wanted → Type 0
  AreCopies at n i ws = (x : List ℕ) × IsAt ns at x × (ws ≡ replicate (n - i) ([], x))

  -- the parts behind the first i
  abbrev pub IsWanted : Parts → ℕ → List Wanted → Type 0
  IsWanted Root i ws = IsOnlyPart 0 i ws
  IsWanted (Elements at n) i ws = AreCopies at n i ws
  IsWanted (Row at n) i ws = (x : List ℕ) × (f : Form) × IsAt ns at x × (F x ≡ Some f) × (length (references (shape_of_form f)) ≡ n) × (ws ≡ drop i (map (λ y. ([], y)) (references (shape_of_form f))))
  IsWanted (Object at fs) i ws = (x : List ℕ) × IsAt ns at x × (F x ≡ Some (named (map (λ f. (string_bytes f.0, string_bytes f.1)) fs.now.items))) × (ws ≡ drop i (map (λ f. (string_bytes f.0, string_bytes f.1)) fs.now.items))
  IsWanted (MapEntries es n) i ws = AreCopies es.value n i ws
  IsWanted (Newtype at) i ws = IsOnlyPart at i ws
  IsWanted (Present at) i ws = IsOnlyPart at i ws
  IsWanted (Variant v at) i ws = IsOnlyPart at i ws

-- whether a place's parts are fields, or entries
abbrev pub IsObject : Parts → Type 0
IsObject (Object at fs) = ⊤
IsObject parts = ⊥

abbrev pub IsMapPlace : Parts → Type 0
IsMapPlace (MapEntries es n) = ⊤
IsMapPlace parts = ⊥

-- the key of a part: the field's name, or the kind of an entry's key
abbrev pub IsKey : Parts → Key → List ℕ → Type 0
IsKey Root key f = key ≡ NoKey
IsKey (Elements at n) key f = key ≡ NoKey
IsKey (Row at n) key f = key ≡ NoKey
IsKey (Object at fs) key f = (name : Bor (List ℕ)) × (key ≡ Name name) × (name.now ≡ f)
IsKey (MapEntries es n) key f = key ≡ EntryOf es
IsKey (Newtype at) key f = key ≡ NoKey
IsKey (Present at) key f = key ≡ NoKey
IsKey (Variant v at) key f = key ≡ Name v

-- the first of the parts that are left, behind which those of the other place are; or none is
abbrev pub GivesPart : Definitions → Parts → ℕ → Parts → ℕ → Option FoundPart → Type 0
GivesPart d p i q k found = (ws : List Wanted) → IsWanted (forms_of d) (names_of d) p i ws → MatchOption found (ws ≡ []) (λ part. (w : Wanted) × (rest : List Wanted) × (ws ≡ w ∷ rest) × IsAt (names_of d) part.at w.1 × IsKey p part.key w.0 × IsWanted (forms_of d) (names_of d) q k rest)

-- ---- the JSON that is left

abbrev pub IsOneItem : Option (List Token) → Items → Type 0
IsOneItem None js = js ≡ no_items
IsOneItem (Some e) js = (j : Json) × (js ≡ item j no_items) × BeginsWith e j

abbrev pub HasItems : Source → Items → Type 0
HasItems (One e) js = IsOneItem e js
HasItems (TheItems ts) js = InItems ts js
HasItems source js = ⊥

-- each of the fields is looked up as in the members, of which so many are left
abbrev pub AreFound : BTreeMap (Bor (List ℕ)) (List Token) → List Wanted → Members → Type 0
AreFound m [] ms = ⊤
AreFound m (f ∷ fs) ms = Finds (mark_of m f.0) (get_member f.0 ms) × AreFound m fs ms

-- the members that are left are the fields, in their order, each as it is looked up
abbrev pub AreNext : List Wanted → Members → Members → Type 0
AreNext [] rest ms = rest ≡ no_members
AreNext (f ∷ fs) rest ms = (j : Json) × (more : Members) × (rest ≡ member f.0 j more) × (get_member f.0 ms ≡ Some j) × AreNext fs more ms

-- each text that the map finds is a key of the object, and the name of none of these fields
abbrev pub AreOthers : BTreeMap (Bor (List ℕ)) (List Token) → List Wanted → Members → Type 0
AreOthers m gs ms = (name : List ℕ) → IsSome (mark_of m name) → IsSome (get_member name ms) × (list_any (λ (g : Wanted). bytes_eq name g.0) gs ≡ false)

abbrev pub HasFields : Source → List Wanted → List Wanted → Members → ℕ → Type 0
HasFields (TheMembers m) gs fs ms n = IsDistinct bytes_eq (map (λ f. f.0) fs) × AreFound m fs ms × (btree_map_len m ≡ n) × AreOthers m gs ms
HasFields (InPlace ts) gs fs ms n = (rest : Members) × InMembers ts rest × AreNext fs rest ms × (n ≡ length fs)
HasFields source gs fs ms n = ⊥

-- the key of a map stands for the text: it is the text, or the rank of the number that the text is
abbrev pub IsText : Bor (List ℕ) → List ℕ → Type 0
IsText b s = b.now ≡ s

abbrev pub IsRank : Number → ℕ → List ℕ → Type 0
IsRank n r s = HasRank n.size n.is_signed n.is_non_zero s r

-- these entries, by keys that stand for theirs
abbrev pub AreKeyed : {A : Type 0} → (A → List ℕ → Type 0) → List (A × List Token) → List Entry → Type 0
AreKeyed K [] es = es ≡ []
AreKeyed K (m ∷ ms) es = (s : List ℕ) × (j : Json) × (rest : List Entry) × (es ≡ (s, j) ∷ rest) × K m.0 s × BeginsWith m.1 j × AreKeyed K ms rest

abbrev pub HasEntries : KeyKind → Source → List Entry → Type 0
HasEntries TextKeys (One e) es = ⊥
HasEntries TextKeys (TheItems ts) es = ⊥
HasEntries TextKeys (TheMembers m) es = ⊥
HasEntries TextKeys (InPlace ts) es = (ms : Members) × InMembers ts ms × (es ≡ entries_of ms)
HasEntries TextKeys (Texts m) es = AreKeyed IsText m.entries es
HasEntries TextKeys (Ranks m) es = ⊥
HasEntries (NumberKeys n) (One e) es = ⊥
HasEntries (NumberKeys n) (TheItems ts) es = ⊥
HasEntries (NumberKeys n) (TheMembers m) es = ⊥
HasEntries (NumberKeys n) (InPlace ts) es = ⊥
HasEntries (NumberKeys n) (Texts m) es = ⊥
HasEntries (NumberKeys n) (Ranks m) es = AreKeyed (IsRank n) m.entries es

-- no entry has the key of one before it
abbrev pub HaveOneEach : List Entry → Type 0
HaveOneEach es = (xs ys : List Entry) (e : Entry) → es ≡ xs ++ e ∷ ys → list_any (λ x. bytes_eq e.0 x.0) xs ≡ false

-- a key of the object is no number of the type
abbrev pub HasNoNumber : Number → Json → Type 0
HasNoNumber n j =
    (ms : Members) × (xs : List Entry) × (e : Entry) × (ys : List Entry) × (j ≡ object ms) × (entries_of ms ≡ xs ++ e ∷ ys)
    × ((own : List ℕ) → IsWhole n.size n.is_signed n.is_non_zero e.0 own → ⊥)

-- the entries of a JSON object in the order of their keys, and how many they are
abbrev pub AreSorted : Keys → KeyKind → Json → Source × ℕ → Type 0
AreSorted keys kind j r = (ms : Members) × (es : List Entry) × (j ≡ object ms) × IsPermutation (entries_of ms) es × IsStrictlySortedBy (key_order keys) es × HasEntries kind r.0 es × (r.1 ≡ length es)

-- the key of an entry
abbrev pub IsEntryKey : KeyKind → EntryKey → List ℕ → Type 0
IsEntryKey TextKeys (TextKey s) k = IsText s k
IsEntryKey TextKeys (Rank r) k = ⊥
IsEntryKey (NumberKeys n) (TextKey s) k = ⊥
IsEntryKey (NumberKeys n) (Rank r) k = IsRank n r k

-- no member of an object is left
abbrev pub NoneLeft : Source → Type 0
NoneLeft (TheMembers m) = btree_map_len m ≡ 0
NoneLeft source = ⊤

-- a member of this name is left
abbrev pub IsLeft : Source → List ℕ → Type 0
IsLeft (TheMembers m) name = IsSome (mark_of m name)
IsLeft source name = ⊥

-- all these parts are in order
abbrev pub AreInOrder : (List ℕ → Option Form) → List JsonPart → Type 0
AreInOrder F ds = AllByRecursion (λ q. InOrder F q.0 q.1) ds

module _ (F : List ℕ → Option Form) (ns : List Named) where
  -- the entries of a place
  abbrev pub AreEntriesOf : Parts → Source → Keys → List ℕ → List ℕ → List Entry → Type 0
  AreEntriesOf (MapEntries m n) s keys k v es = IsAt ns m.key k × IsAt ns m.value v × AreKeysOf F ns k (form_of m.key_definition.now) m.key_kind keys × HasEntries m.key_kind s es
  AreEntriesOf parts s keys k v es = ⊥

  -- a place, and the JSON of its parts
  abbrev pub HasLeft : Parts → ℕ → Source → Left → Type 0
  HasLeft p i s (items_left xs js) = (ws : List Wanted) × IsWanted F ns p i ws × (xs ≡ map (λ w. w.1) ws) × HasItems s js × (ps : List JsonPart) × (row_parts xs js ≡ Some ps) × (IsMapPlace p → ⊥)
  HasLeft p i s (fields_left gs fs ms n) = IsObject p × IsWanted F ns p i fs × HasFields s gs fs ms n
  HasLeft p i s (entries_left keys k v es) = (ws : List Wanted) × IsWanted F ns p i ws × (length ws ≡ length es) × AreEntriesOf p s keys k v es

  -- JSON of this kind says the own bytes, the parts that were begun and those that are left; of an object the fields are there that were begun
  abbrev pub SaysOn : Kind → Json → List ℕ → List JsonPart → Left → Type 0
  SaysOn kind i own ds (items_left xs js) = (ps : List JsonPart) × (row_parts xs js ≡ Some ps) × Says F kind i own (ds ++ ps)
  SaysOn kind i own ds (fields_left gs fs ms n) = (kind ≡ fields (gs ++ fs)) × IsDistinct bytes_eq (map (λ f. f.0) (gs ++ fs)) × (own ≡ []) × (i ≡ object ms) × (field_parts gs ms ≡ Some ds) × (length (entries_of ms) ≡ n + length gs)
  SaysOn kind i own ds (entries_left keys k v es) = Says F kind i own (ds ++ entry_parts keys k v es)

  -- a place of a value of this kind, of which so many parts were begun
  abbrev pub IsPlaceOf : Parts → ℕ → Kind → Json → List JsonPart → Type 0
  IsPlaceOf Root b kind i ds = ⊥
  IsPlaceOf (Elements at n) b kind i ds = IsListKind kind × (b ≡ length ds) × ((js : Items) × (i ≡ array js))
  IsPlaceOf (Row at n) b kind i ds = (xs : List (List ℕ)) × (kind ≡ row xs) × (b ≡ length ds)
  IsPlaceOf (Object at fs) b kind i ds = (kind ≡ fields (map (λ f. (string_bytes f.0, string_bytes f.1)) fs.now.items)) × (b ≡ length ds)
  IsPlaceOf (MapEntries es n) b kind i ds = (l : Lengths) × (keys : Keys) × (k : List ℕ) × (v : List ℕ) × (kind ≡ entries l keys k v) × (2 * b ≡ length ds)
  IsPlaceOf (Newtype at) b kind i ds = (y : List ℕ) × (kind ≡ inner y) × (b ≡ length ds)
  IsPlaceOf (Present at) b kind i ds = (y : List ℕ) × (kind ≡ optional y)
  IsPlaceOf (Variant v at) b kind i ds = (w : ℕ) × (vs : List (ℤ × List ℕ × List ℕ)) × (value : Json) × (kind ≡ variants w vs) × (i ≡ object (member v.now value no_members))

  -- so is a place inside of others; the one inside of none has the whole value as its only part
  abbrev pub IsPlaceIn : ℕ → Place → List ℕ → Kind → Json → List JsonPart → Type 0
  IsPlaceIn zero p x kind i ds = (p.parts ≡ Root) × (kind ≡ inner x)
  IsPlaceIn (suc d) p x kind i ds = HasKind F x kind × IsPlaceOf p.parts p.begun kind i ds

  -- all parts of a value were begun: its JSON says them
  abbrev pub SaysAll : ℕ → List ℕ → Json → List ℕ → List JsonPart → Type 0
  SaysAll zero x i own ds = (own ≡ []) × (ds ≡ (x, i) ∷ [])
  SaysAll (suc d) x i own ds = SaysFirst F x i own ds

  -- the error is of the key of the next entry, which fails
  abbrev pub DeniesKey : ℕ → List ℕ → Json → List ℕ → List JsonPart → Place → ReadError → Type 0
  DeniesKey d x i own ds p e =
      (kind : Kind) × (y : List ℕ) × (k : Json) × (0 < d) × HasKind F x kind × BeginsParts F kind i own (ds ++ (y, k) ∷ [])
      × AreSteps kind i (length ds) (first_steps p.parts p.begun ++ place_step 0 ∷ []) × FailsRead F y k e

  -- the next entry of a map, whose key was added
  abbrev pub IsNextEntry : Keys → List ℕ → List ℕ → List Entry → KeyKind → Source → List ℕ → List ℕ → Next → Type 0
  IsNextEntry keys k v es kind s old new (Part at e) =
      (t : List ℕ) × (i : Json) × (rest : List Entry) × (own : List ℕ)
      × (es ≡ (t, i) ∷ rest) × IsAt ns at v × BeginsWith e i × HasEntries kind s rest × SaysFirst F k (key_json keys t) own [] × (new ≡ old ++ own)
  IsNextEntry keys k v es kind s old new Missing = es ≡ []
  IsNextEntry keys k v es kind s old new End = ⊥

  -- inside of so many places, a place whose parts are those of the JSON i of x: its own bytes, the parts that were begun, and the source of those that are left
  pub record IsDoing (p : Place) (s : Source) (d : ℕ) (x : List ℕ) (i : Json) (own : List ℕ) (ds : List JsonPart) : Type 0 where
    pub left : Left
    pub here : HasLeft p.parts p.begun s left
    pub kind : Kind
    pub says : SaysOn kind i own ds left
    pub is_place : IsPlaceIn d p x kind i ds

  -- what was opened: the JSON of the name says these own bytes and no parts, or those of a frame
  abbrev pub IsFound : List ℕ → Json → List ℕ → Option Frame → Type 0
  IsFound x j own None = SaysFirst F x j own []
  IsFound x j own (Some f) = IsDoing f.place f.source 1 x j own []

  -- the JSON of the name was read: its own bytes were added, or there are none
  abbrev pub IsOpened : List ℕ → Json → List ℕ → List ℕ → Result (Option Frame) ReadError → Type 0
  IsOpened x j old new result = MatchResult result
      (λ found. (own : List ℕ) × (new ≡ old ++ own) × IsFound x j own found)
      (λ e. FailsRead F x j e)

  -- what comes next of a place: a part, behind the key if it is of an entry; a field that the object hasn't; or nothing
  abbrev pub IsNext : ℕ → List ℕ → Json → List ℕ → List JsonPart → Place → Source → List ℕ → List ℕ → Next → Type 0
  IsNext d x i own ds p s old new (Part at e) =
      (es : List JsonPart) × (key : List ℕ) × (y : List ℕ) × (k : Json)
      × HaveBytes F es key × (new ≡ old ++ key) × IsAt ns at y × BeginsWith e k × IsDoing p s d x i own (ds ++ (es ++ (y, k) ∷ []))
  IsNext d x i own ds p s old new Missing = (name : List ℕ) × LacksField F x i name × (0 < d) × (steps_at p ≡ field_step name ∷ [])
  IsNext d x i own ds p s old new End = (new ≡ old) × (NoneLeft s → SaysAll d x i own ds) × ((name : List ℕ) → IsLeft s name → HasOther F x i name)

-- for any definitions and places: the JSON of a name of this kind was opened
abbrev pub Opens : ((List ℕ → Option Form) → List Named → List ℕ → Type 0) → List Token → List ℕ → List ℕ → Result (Option Frame) ReadError → Type 0
Opens K e old new result = (F : List ℕ → Option Form) (ns : List Named) (x : List ℕ) (j : Json) → K F ns x → BeginsWith e j → IsOpened F ns x j old new result

-- no memory, or other JSON is wanted
abbrev pub IsExpected : ReadError → Type 0
IsExpected e = (e ≡ OutOfMemory) ⊎ ((wanted : String Global) × (e ≡ Refused (Expected wanted)))

-- the first variant of a name, and its index
abbrev pub IsVariantAt : List (ℤ × List ℕ × List ℕ) → List ℕ → Option (ℕ × ℤ × List ℕ) → Type 0
IsVariantAt vs v None = (k : ℤ) (p : List ℕ) → IsVariant k v p vs → ⊥
IsVariantAt vs v (Some r) = (r.2 ≡ v) × (p : List ℕ) × (slice_get vs r.0 ≡ Some (r.1, v, p)) × IsVariant r.1 v p vs

-- the variant that JSON names, and its value
abbrev pub NamesVariant : Json → Option (List ℕ × Option (List Token)) → Type 0
NamesVariant j None = ((v : List ℕ) → j ≡ string v → ⊥) × ((v : List ℕ) (i : Json) → j ≡ object (member v i no_members) → ⊥)
NamesVariant j (Some (v, None)) = j ≡ string v
NamesVariant j (Some (v, Some e)) = (i : Json) × (j ≡ object (member v i no_members)) × BeginsWith e i

-- the items of an array, and how many they are
abbrev pub IsArrayOf : Json → Array → Type 0
IsArrayOf j No = as_array j ≡ None
IsArrayOf j TooLong = ⊤
IsArrayOf j (Of ts n) = (js : Items) × (j ≡ array js) × InItems ts js × (n ≡ length (list_parts [] js))

-- the JSON says a value of the kind, a list's, as an array of these elements, and not otherwise
abbrev pub SaysArray : (List ℕ → Option Form) → Json → Kind → Lengths → List ℕ → Type 0
SaysArray F j kind l e = IsListKind kind × ((own : List ℕ) (ps : List JsonPart) → (IsArray l e j own ps → Says F kind j own ps) × (Says F kind j own ps → IsArray l e j own ps))

-- ---- the reader's loop
module _ (F : List ℕ → Option Form) (ns : List Named) (root : List ℕ) (j : Json) where
  -- the value of a place inside of so many is there, behind these bytes; the place inside of none is in front of the whole
  abbrev pub Stands : ℕ → List Step → List ℕ → List ℕ → Json → Type 0
  Stands zero path before x i = (path ≡ []) × (before ≡ []) × (x ≡ root) × (i ≡ j)
  Stands (suc n) path before x i = IsReached F root j n path before (x, i)

  -- of a place whose value is there the parts that were begun are read, and these are the bytes so far
  pub record IsInside (p : Place) (s : Source) (out : List ℕ) (d : ℕ) (path : List Step) (before x : List ℕ) (i : Json) : Type 0 where
    pub own : List ℕ
    pub ds : List JsonPart
    pub mid : List ℕ
    pub stands : Stands d path before x i
    pub doing : IsDoing F ns p s d x i own ds
    pub done : HaveBytes F ds mid
    pub out_is : out ≡ before ++ (own ++ mid)

  -- all but the last, whose JSON k says a value of y
  pub record IsBegun (p : Place) (s : Source) (out y : List ℕ) (k : Json) (d : ℕ) (path : List Step) (before x : List ℕ) (i : Json) : Type 0 where
    pub own : List ℕ
    pub ds : List JsonPart
    pub mid : List ℕ
    pub stands : Stands d path before x i
    pub doing : IsDoing F ns p s d x i own (ds ++ (y, k) ∷ [])
    pub done : HaveBytes F ds mid
    pub out_is : out ≡ before ++ (own ++ mid)

  -- all are read, and it has others where a member of its object is left
  pub record IsEnded (p : Place) (s : Source) (out : List ℕ) (d : ℕ) (path : List Step) (before x : List ℕ) (i : Json) : Type 0 where
    pub own : List ℕ
    pub ds : List JsonPart
    pub mid : List ℕ
    pub stands : Stands d path before x i
    pub done : HaveBytes F ds mid
    pub out_is : out ≡ before ++ (own ++ mid)
    pub at_root : d ≡ 0 → steps_at p ≡ []
    pub all : NoneLeft s → SaysAll F ns d x i own ds
    pub others : (name : List ℕ) → IsLeft s name → HasOther F x i name

  -- from a place on, which is inside of so many: the last part of each, that was begun, is the value of the next one; R holds of the innermost
  abbrev pub HaveAround : List Place → List Source → ℕ → List Step → List ℕ → List ℕ → Json → (ℕ → List Step → List ℕ → List ℕ → Json → Type 0) → Type 0
  HaveAround [] [] d path before x i R = R d path before x i
  HaveAround [] (s ∷ ss) d path before x i R = ⊥
  HaveAround (p ∷ ps) [] d path before x i R = ⊥
  HaveAround (p ∷ ps) (s ∷ ss) d path before x i R =
      (out : List ℕ) × (y : List ℕ) × (k : Json) × IsBegun p s out y k d path before x i × HaveAround ps ss (suc d) (path ++ steps_at p) out y k R

-- R holds of the innermost place of a reader of the root's JSON
abbrev pub Holds : Definitions → List ℕ → Json → Reading → (ℕ → List Step → List ℕ → List ℕ → Json → Type 0) → Type 0
Holds d root j r R = (r.position.root.now ≡ root) × HaveAround (forms_of d) (names_of d) root j r.position.outer.items r.outer.items 0 [] [] root j R

-- what a reader has read, and what is left to it
abbrev pub HasRead : Definitions → List ℕ → Json → Reading → Type 0
HasRead d root j r = Holds d root j r (IsInside (forms_of d) (names_of d) root j r.position.place r.source r.out.items)

-- it began the part with the name at this place and the JSON of these tokens
abbrev pub HasBegun : Definitions → List ℕ → Json → Reading → ℕ → List Token → Type 0
HasBegun d root j r at e = Holds d root j r (λ n path before x i. (y : List ℕ) × (k : Json) × IsAt (names_of d) at y × BeginsWith e k × IsBegun (forms_of d) (names_of d) root j r.position.place r.source r.out.items y k n path before x i)

-- it read the last part of a value
abbrev pub HasEnded : Definitions → List ℕ → Json → Reading → Type 0
HasEnded d root j r = Holds d root j r (IsEnded (forms_of d) (names_of d) root j r.position.place r.source r.out.items)

-- more is to be read; or all was, and the root's JSON says these bytes
abbrev pub IsReadOn : Definitions → List ℕ → Json → Reading → Bool → Type 0
IsReadOn d root j r true = HasRead d root j r
IsReadOn d root j r false = HaveBytes (forms_of d) ((root, j) ∷ []) r.out.items

-- a step of a reader of these definitions, after which it is so
abbrev pub ReadsOn : Definitions → List ℕ → Json → Reading → Result Bool PartError → Type 0
ReadsOn d root j r result = MatchResult result (λ more. IsReadOn d root j r more) (λ e. IsUnread (forms_of d) root j e)

-- a list of bytes was added, and its length in front; or the length is out of range
abbrev pub AddsList : {A : Type 0} → Lengths → List ℕ → List ℕ → List ℕ → Result A ReadError → Type 0
AddsList l bs old new result = MatchResult result (λ _. (own : List ℕ) × (new ≡ old ++ own) × IsPrefixed l (length bs) bs own) (λ e. DeniesRead IsUnexpected e ((own : List ℕ) × IsPrefixed l (length bs) bs own))
