-- What was written of a value, and the JSON that may still follow: the invariant of the writer's loop.
use Rattle.std.specs.{Prelude.{◌≡◌, ◌⊎◌, ⊤, ℕ, suc, ◌+◌, ◌<◌, ◌≤◌, List, [], ◌∷◌, ◌++◌, length, map, replicate, drop, Bool, true, false, Option, Some, None, Result, MatchResult, MatchOption, IfSome, option_map, MatchBool}, declared.cmp.Ordering.TheVariants.{Less}}
use Rattle.json.specs.{Token.{Token}, Json.{Json, null, Items, Members, no_members, member}, Tree.{json_tokens, items_tokens, members_tokens, depth, items_depth, members_depth, HasNumbers, ItemsHaveNumbers, MembersHaveNumbers}}
use Rattle.borsh_walks.specs.Container.{product, IsIn}
use Rattle.borsh_plan.specs.{Plan.{root_of}, declared.named.Named.{Named}}
use Rattle.borsh_values.specs.{Nodes.{Opens, AreElementsOf}, Walks.{IsReadTo}, Membership.{IsUndecided}, declared.nodes.Node.{Node}}
use Rattle.borsh_json.specs.{declared.definitions.Definitions.{Definitions}, declared.error.Refusal.TheVariants.{TooDeep, Descends}, declared.error.PartError.{PartError}, declared.error.PartError.TheVariants.{OutOfMemory as NoPartMemory, Refused as RefusedPart}, declared.error.JsonError.{JsonError}, declared.error.JsonError.TheVariants.{OutOfMemory as NoMemory, NoMember, NoValue, Ambiguous, NotJson, Refused as RefusedBytes}, declared.error.WriteError.{WriteError}, declared.error.WriteError.TheVariants.{OutOfMemory, Refused, Element}, declared.kinds.Elements.{Elements as FoundElements}, declared.kinds.Entries.{Entries as FoundEntries}, declared.kinds.Flaw.{Flaw}, declared.kinds.KeyKind.{KeyKind}, declared.kinds.Kind.{Kind as Found}, declared.kinds.Kind.TheVariants.{Numbers, List as ListKind, Map, Row as RowKind, Newtype as NewtypeKind, Object as ObjectKind, Refused as RefusedKind}, declared.order.Ascent.{Ascent}, declared.order.Ordered.{Ordered}, declared.output.LongNumbers.{LongNumbers}, declared.output.Output.{Output}, declared.position.Parts.{Parts}, declared.position.Parts.TheVariants.{Root, List as Elements, Row, Object, Entries as MapEntries, Newtype, Some as Present, Variant}, declared.position.Part.{Part as FoundPart}, declared.position.Place.{Place}, declared.sources.EntryKey.{EntryKey}, declared.writing.Writing.{Writing}, Checked.{Due, one, ascending, AreChecked}, Descents.{HasDescent}, Forms.{Form, tuple, form_of, shape_of_form, shapes, HasNoBytes}, Frames.{Wanted, IsWanted, IsEntryKey, IsOf, IsPath, GivesPart, NoneFalls, first_steps, last_steps}, Found.{forms_of, names_of}, Places.{IsAt, AreKeysOf, IsKindOf}, Orders.{HasKeyOrder, KindHasOrder, IsNotBelow, OrderedBy}, Represents.{HaveBytes, SaysFirst}, InOrder.{Step, place, element, InOrder}, Inside.{LeadTo}, Leaves.{Holds, Adds, IsOpenedAs, RefusesValue, WritesLeaf, long_of, AreWritten}, NoJson.{RefusesBytes}, Only.{IsOpened, AreOnly}, NoValue.{path_steps}, Table.{Keys, Part, row_parts, Entry, entries_of, entry_parts, key_json, key_order}}

-- ---- what is left to be written of a place

-- items of these types; members of these keys and types; one value or none; or so many entries of a map, whose elements have this name, with keys
-- above the last one
pub data Rest : Type 0 where
  items_rest : List (List ℕ) → Rest
  members_rest : List Wanted → Rest
  value_rest : List (List ℕ) → Rest
  entries_rest : Keys → List ℕ → List ℕ → List ℕ → ℕ → Option (List ℕ) → Rest

-- the names of what is left, as they are read
abbrev pub names_of_rest : Rest → List (List ℕ)
names_of_rest (items_rest xs) = xs
names_of_rest (members_rest ws) = map (λ w. w.1) ws
names_of_rest (value_rest xs) = xs
names_of_rest (entries_rest keys k v e n last) = replicate n e

-- of all places, the innermost first
abbrev pub names_of_all : List Rest → List (List ℕ)
names_of_all [] = []
names_of_all (r ∷ rs) = names_of_rest r ++ names_of_all rs

-- these members in order, as parts
abbrev pub AreMembers : List Wanted → Members → List Part → Type 0
AreMembers [] ms ps = (ms ≡ no_members) × (ps ≡ [])
AreMembers (w ∷ ws) ms ps = (j : Json) × (more : Members) × (qs : List Part) × (ms ≡ member w.0 j more) × (ps ≡ (w.1, j) ∷ qs) × AreMembers ws more qs

-- the tokens are a value of each name, as a part
abbrev pub AreValues : List (List ℕ) → ℕ → List Token → List Part → Type 0
AreValues [] n ts ps = (ts ≡ []) × (ps ≡ [])
AreValues (x ∷ xs) n ts ps = (j : Json) × (t : List Token) × (qs : List Part) × HasNumbers j × (depth j ≤ n) × (ts ≡ json_tokens j ++ t) × (ps ≡ (x, j) ∷ qs) × AreValues xs n t qs

-- the last key of a map
abbrev pub IsLast : KeyKind → Option EntryKey → Option (List ℕ) → Type 0
IsLast kind None last = last ≡ None
IsLast kind (Some key) last = (s : List ℕ) × (last ≡ Some s) × IsEntryKey kind key s

-- the key is above the last one
abbrev pub IsAbove : Keys → Option (List ℕ) → List ℕ → Type 0
IsAbove keys None s = ⊤
IsAbove keys (Some t) s = key_order keys (t, null) (s, null) ≡ Less

-- each key is above the one before it
abbrev pub AreAbove : Keys → Option (List ℕ) → List Entry → Type 0
AreAbove keys last [] = ⊤
AreAbove keys last (e ∷ es) = IsAbove keys last e.0 × AreAbove keys (Some e.0) es

-- these tokens may be written of what is left, brackets at the end included: they nest at most so deep, and have these parts
abbrev pub MayFollow : Rest → ℕ → List Token → List Part → Type 0
MayFollow (items_rest xs) n ts ps = (js : Items) × (ts ≡ items_tokens js) × (row_parts xs js ≡ Some ps) × ItemsHaveNumbers js × (items_depth js ≤ n)
MayFollow (members_rest ws) n ts ps = (ms : Members) × (ts ≡ members_tokens ms) × AreMembers ws ms ps × MembersHaveNumbers ms × (members_depth ms ≤ n)
MayFollow (value_rest xs) n ts ps = AreValues xs n ts ps
MayFollow (entries_rest keys k v e m last) n ts ps = (ms : Members) × (ts ≡ members_tokens ms) × (length (entries_of ms) ≡ m) × AreAbove keys last (entries_of ms) × (ps ≡ entry_parts keys k v (entries_of ms)) × MembersHaveNumbers ms × (members_depth ms ≤ n)

-- the same of all places, the innermost first
abbrev pub MayFollowAll : List Rest → List Token → List Part → Type 0
MayFollowAll [] ts ps = (ts ≡ []) × (ps ≡ [])
MayFollowAll (r ∷ rs) ts ps =
    (n : ℕ) × (t : List Token) × (u : List Token) × (a : List Part) × (b : List Part)
    × (n + length rs ≡ 128) × MayFollow r n t a × MayFollowAll rs u b × (ts ≡ t ++ u) × (ps ≡ a ++ b)

-- the same of a value of this name, which nests at most so deep, and then of the places
abbrev pub MayFollowFirst : List ℕ → ℕ → List Rest → List Token → List Part → Type 0
MayFollowFirst x n rs ts ps =
    (j : Json) × (u : List Token) × (b : List Part)
    × HasNumbers j × (depth j ≤ n) × MayFollowAll rs u b × (ts ≡ json_tokens j ++ u) × (ps ≡ (x, j) ∷ b)

-- ---- kinds

-- the kinds of values that have own bytes
abbrev pub HasNode : Found → Type 0
HasNode (RowKind n) = ⊥
HasNode (NewtypeKind at) = ⊥
HasNode (ObjectKind fs) = ⊥
HasNode (RefusedKind flaw) = ⊥
HasNode kind = ⊤

-- how deep JSON of a kind nests that is written whole
abbrev pub leaf_depth : Found → ℕ
leaf_depth (Numbers es) = 1
leaf_depth kind = 0

-- none of the parts was begun, and an object of entries is a map's; the order of parts isn't set
abbrev pub IsNewPlace : Found → Place → Type 0
IsNewPlace kind p =
    (p.ascent ≡ None) × (p.last ≡ None) × ((es : FoundEntries) (n : ℕ) → p.parts ≡ MapEntries es n → (order : Ordered) × (kind ≡ Map es order))
    × (p.begun ≡ 0)

-- a place's steps lead to these parts of a value with this definition and own bytes
abbrev pub AreCalled : Form → List ℕ → Parts → List (List ℕ) → Type 0
AreCalled f own called parts = (i : ℕ) → i < length parts → LeadTo f own i (first_steps called (suc i))

-- each of these is of a place: the places the outermost first, these the innermost first
abbrev pub AreEach : {A : Type 0} → (Place → A → Type 0) → List Place → List A → Type 0
AreEach P [] xs = xs ≡ []
AreEach {A} P (p ∷ ps) xs = (x : A) × (outer : List A) × P p x × AreEach P ps outer × (xs ≡ outer ++ x ∷ [])

-- ---- the invariant

-- what leads to a value's parts, how many of them were begun, and where the last of these begins
abbrev pub Progress : Type 0
Progress = Parts × ℕ × Option ℕ

-- one more begins there
abbrev pub one_more : Progress → ℕ → Progress
one_more g i = (g.0, suc g.1, Some i)

-- a value whose parts are read: its name, how far, and the names of those that are left
pub data Level : Type 0 where
  opened : List ℕ → Progress → List (List ℕ) → Level

-- the steps to the parts that were begun last, the innermost value first
abbrev pub steps_to : List Level → List Step
steps_to [] = []
steps_to (opened x g xs ∷ ls) = steps_to ls ++ first_steps g.0 g.1

module _ (F : List ℕ → Option Form) (root : List ℕ) where
  -- these bytes are read up to a place inside of values, the innermost first; the root is the only part of no value
  pub data Nested : List Level → List ℕ → Type 0 where
    unread : Nested (opened [] (Root, 0, None) (root ∷ []) ∷ []) []
    entered : {x y before : List ℕ} {g : Progress} {xs parts : List (List ℕ)} {ls : List Level} (f : Form) (own : List ℕ) (called : Parts) → Nested (opened y g (x ∷ xs) ∷ ls) before → IsOpened F x f own parts → AreCalled f own called parts → Nested (opened x (called, 0, None) parts ∷ opened y (one_more g (length before)) xs ∷ ls) (before ++ own)
    passed : {x y before own : List ℕ} {g : Progress} {xs : List (List ℕ)} {ls : List Level} → Nested (opened y g (x ∷ xs) ∷ ls) before → AreOnly F (x ∷ []) own → Nested (opened y (one_more g (length before)) xs ∷ ls) (before ++ own)

-- the name of a place's value, how far it is read, and the name of the keys if these have to ascend
abbrev pub Mark : Type 0
Mark = List ℕ × Progress × Option (List ℕ)

-- what leads to the key and the value of an entry
abbrev pub of_pair : Parts
of_pair = Row 0 2

-- the names are those that are left of the places; of an entry, of which both parts are begun, there is no place of its own, but that of its map
pub data AreLevels : List Rest → List Mark → List Level → Type 0 where
  no_levels : AreLevels [] [] []
  level : {rs : List Rest} {ms : List Mark} {ls : List Level} (r : Rest) (m : Mark) → last_steps m.1.0 ≡ [] → AreLevels rs ms ls → AreLevels (r ∷ rs) (m ∷ ms) (opened m.0 m.1 (names_of_rest r) ∷ ls)
  entry_level : {rs : List Rest} {ms : List Mark} {ls : List Level} (x : List ℕ) (i : ℕ) (r : Rest) (m : Mark) → last_steps m.1.0 ≡ place 1 ∷ [] → AreLevels rs ms ls → AreLevels (r ∷ rs) (m ∷ ms) (opened x (of_pair, 2, Some i) [] ∷ opened m.0 m.1 (names_of_rest r) ∷ ls)

-- of each place the names that are left are due, or so many elements, whose keys ascend from its last part on
module _ (bytes : List ℕ) where
  pub data AreOwed : List Mark → List Rest → List Due → Type 0 where
    none_owed : AreOwed [] [] []
    names_owed : {ms : List Mark} {rs : List Rest} {ds : List Due} (x : List ℕ) (g : Progress) (r : Rest) → AreOwed ms rs ds → AreOwed ((x, g, None) ∷ ms) (r ∷ rs) (map one (names_of_rest r) ++ ds)
    elements_owed : {ms : List Mark} {rs : List Rest} {ds : List Due} (x : List ℕ) (g : Progress) (r : Rest) (e k : List ℕ) (n : ℕ) → names_of_rest r ≡ replicate n e → AreOwed ms rs ds → AreOwed ((x, g, Some k) ∷ ms) (r ∷ rs) (ascending e k n (option_map (λ i. drop i bytes) g.2) ∷ ds)

module _ (F : List ℕ → Option Form) where
  -- behind what is read these names and then the parts of the places are due; the whole is checked if these are in the bytes that are left
  pub record IsCheckedTo (root bytes : List ℕ) (xs : List (List ℕ)) (ms : List Mark) (rs : List Rest) (left : List ℕ) : Type 0 where
    pub dues : List Due
    pub owed : AreOwed bytes ms rs dues
    pub checked : AreChecked F (map one xs ++ dues) left → AreChecked F (one root ∷ []) bytes

  -- these tokens are JSON of the root that can be printed and read, and says these bytes
  abbrev pub IsWhole : LongNumbers → List ℕ → List Token → List ℕ → Type 0
  IsWhole long root ts bs = (j : Json) × (ts ≡ json_tokens j) × HasNumbers j × (depth j ≤ 128) × AreWritten F long ((root, j) ∷ []) bs

  -- tokens were written of so many bytes, and with any that P holds of they are JSON of the root
  abbrev pub Begins : LongNumbers → List ℕ → (List Token → List Part → Type 0) → List Token → List ℕ → Type 0
  Begins long root P written done = (ts : List Token) (ps : List Part) (bs : List ℕ) → P ts ps → AreWritten F long ps bs → IsWhole long root (written ++ ts) (done ++ bs)

  -- the bytes are those read and those left, and these names come next
  pub record IsHalved (root bytes done left : List ℕ) (names : List (List ℕ)) : Type 0 where
    pub joined : bytes ≡ done ++ left
    pub read : IsReadTo (shapes F) root done names left

  -- ---- one value

  -- behind these tokens whatever may follow of a place makes JSON of x that says these own bytes
  abbrev pub IsFront : LongNumbers → List ℕ → List ℕ → Rest → List Token → Type 0
  IsFront long x own r front =
      (n : ℕ) (ts : List Token) (qs ps : List Part) (bs : List ℕ) → MayFollow r n ts qs → AreWritten F long (qs ++ ps) bs
      → (j : Json) × (json_tokens j ≡ front ++ ts) × HasNumbers j × (depth j ≤ suc n) × AreWritten F long ((x, j) ∷ ps) (own ++ bs)

  -- the beginning of JSON of x was written, and with what may follow of a place it says these own bytes
  pub record WritesFront (x own : List ℕ) (r : Rest) (old new : Output) : Type 0 where
    pub front : List Token
    pub adds : Adds front old new
    pub whole : IsFront (long_of old) x own r front

  module _ (ns : List Named) where
    -- what is left of a place
    abbrev pub IsRestOf : Parts → ℕ → Option EntryKey → Rest → Type 0
    IsRestOf Root i last r = (ws : List Wanted) × IsWanted F ns Root i ws × (r ≡ value_rest (map (λ w. w.1) ws))
    IsRestOf (Elements at n) i last r = (ws : List Wanted) × IsWanted F ns (Elements at n) i ws × (r ≡ items_rest (map (λ w. w.1) ws))
    IsRestOf (Row at n) i last r = (ws : List Wanted) × IsWanted F ns (Row at n) i ws × (r ≡ items_rest (map (λ w. w.1) ws))
    IsRestOf (Object at fs) i last r = (ws : List Wanted) × IsWanted F ns (Object at fs) i ws × (r ≡ members_rest ws)
    IsRestOf (MapEntries es n) i last r =
        (k : List ℕ) × (v : List ℕ) × (e : List ℕ) × (keys : Keys) × (s : Option (List ℕ)) × (ws : List Wanted)
        × IsAt ns es.key k × IsAt ns es.value v × (F e ≡ Some (tuple (k ∷ v ∷ []))) × AreKeysOf F ns k (form_of es.key_definition.now) es.key_kind keys × IsLast es.key_kind last s
        × IsWanted F ns (MapEntries es n) i ws × (r ≡ entries_rest keys k v e (length ws) s)
    IsRestOf (Newtype at) i last r = (ws : List Wanted) × IsWanted F ns (Newtype at) i ws × (r ≡ value_rest (map (λ w. w.1) ws))
    IsRestOf (Present at) i last r = (ws : List Wanted) × IsWanted F ns (Present at) i ws × (r ≡ value_rest (map (λ w. w.1) ws))
    IsRestOf (Variant v at) i last r = (ws : List Wanted) × IsWanted F ns (Variant v at) i ws × (r ≡ members_rest (map (λ w. (v.now, w.1)) ws))

    abbrev pub IsRest : Place → Rest → Type 0
    IsRest p r = IsRestOf p.parts p.begun p.last r

    abbrev pub AreRests : List Place → List Rest → Type 0
    AreRests ps rs = AreEach IsRest ps rs

    -- in front of a part of a place: where the writer is
    pub record IsWriting (long : LongNumbers) (root bytes : List ℕ) (p : Place) (ps : List Place) (m : Mark) (ms : List Mark) (left : List ℕ) (written : List Token) : Type 0 where
      pub inner : Rest
      pub around : List Rest
      pub done : List ℕ
      pub here : IsRest p inner
      pub there : AreRests ps around
      pub room : length around ≤ 128
      pub halved : IsHalved root bytes done left (names_of_all (inner ∷ around))
      pub outer : List Level
      pub levels : AreLevels around ms outer
      pub nested : Nested F root (opened m.0 m.1 (names_of_rest inner) ∷ outer) done
      pub rises : IsCheckedTo root bytes [] (m ∷ ms) (inner ∷ around) left
      pub begun : Begins long root (MayFollowAll (inner ∷ around)) written done

    -- in front of a value of this name, which has room for this depth, and then of the rest of the place
    pub record IsAwaiting (long : LongNumbers) (root bytes : List ℕ) (x : List ℕ) (n : ℕ) (p : Place) (ps : List Place) (m : Mark) (ms : List Mark) (left : List ℕ) (written : List Token) : Type 0 where
      pub inner : Rest
      pub around : List Rest
      pub done : List ℕ
      pub here : IsRest p inner
      pub there : AreRests ps around
      pub room : n + length around ≡ 128
      pub halved : IsHalved root bytes done left (x ∷ names_of_all (inner ∷ around))
      pub value : List ℕ
      pub before : Progress
      pub beside : List (List ℕ)
      pub outer : List Level
      pub levels : AreLevels (inner ∷ around) (m ∷ ms) (opened value (one_more before (length done)) beside ∷ outer)
      pub nested : Nested F root (opened value before (x ∷ beside) ∷ outer) done
      pub rises : IsCheckedTo root bytes (x ∷ []) (m ∷ ms) (inner ∷ around) left
      pub begun : Begins long root (MayFollowFirst x n (inner ∷ around)) written done

    -- of a value of x, whose definition opens these own bytes with these parts, JSON was written whole, and then its parts have no bytes, and its
    -- elements aren't written one by one; or it was begun, and its parts are those of the place
    abbrev pub IsWrittenAs : Found → List ℕ → Form → List ℕ → Output → Output → Option Place → Type 0
    IsWrittenAs kind x f own old new None =
        WritesLeaf F (leaf_depth kind) x own old new × (parts : List (List ℕ)) × Opens (shapes F) (shape_of_form f) own parts × ((y : List ℕ) → IsIn y parts → HasNoBytes F y)
        × ((es : FoundElements) → kind ≡ ListKind es → ⊥)
    IsWrittenAs kind x f own old new (Some p) = (r : Rest) × IsRest p r × WritesFront x own r old new × Opens (shapes F) (shape_of_form f) own (names_of_rest r) × IsNewPlace kind p × AreCalled f own p.parts (names_of_rest r)

    -- a value of x was written whole or begun, or is refused
    abbrev pub WritesValue : Found → List ℕ → Form → List ℕ → Output → Output → Result (Option Place) WriteError → Type 0
    WritesValue kind x f own old new result = MatchResult result (λ found. IsWrittenAs kind x f own old new found) (λ e. RefusesValue F x own e)

    -- the same of a value of a kind without own bytes; nothing is written of another
    abbrev pub WritesStruct : List ℕ → Form → Found → Output → Output → Result (Option Place) WriteError → Type 0
    WritesStruct x f kind old new result = MatchResult result
        (λ found. MatchOption found (HasNode kind × (new ≡ old)) (λ p. (r : Rest) × IsRest p r × WritesFront x [] r old new × (shape_of_form f ≡ product (names_of_rest r)) × IsNewPlace kind p × AreCalled f [] p.parts (names_of_rest r)))
        (λ e. RefusesValue F x [] e)

-- of the name at the place, that the code found this kind of, the value whose node this is was written or begun, or is refused
abbrev pub WritesValueOf : (List ℕ → Option Form) → List Named → ℕ → Found → Node → Output → Output → Result (Option Place) WriteError → Type 0
WritesValueOf F ns at kind n old new result =
    (x : List ℕ) (parts : List (List ℕ)) → IsAt ns at x → IsOpenedAs F x (form_of n.definition.now) n.bytes.now parts → IsKindOf F ns x (form_of n.definition.now) kind
    → WritesValue F ns kind x (form_of n.definition.now) n.bytes.now old new result

-- the bracket in front of the parts of a place
abbrev pub begins_of : Parts → List Token
begins_of (Elements at n) = Token.begin_array ∷ []
begins_of (Row at n) = Token.begin_array ∷ []
begins_of (Object at fs) = Token.begin_object ∷ []
begins_of (MapEntries es n) = Token.begin_object ∷ []
begins_of (Variant v at) = Token.begin_object ∷ []
begins_of parts = []

-- the bracket was written, and none of the parts
abbrev pub BeginsAt : Parts → Output → Output → Result (Option Place) WriteError → Type 0
BeginsAt parts old new result = MatchResult result
    (λ found. MatchOption found ⊥ (λ p. (p.parts ≡ parts) × (p.begun ≡ 0) × (p.last ≡ None) × Adds (begins_of parts) old new × (p.ascent ≡ None)))
    (λ e. e ≡ OutOfMemory)

-- the parts of a value of a kind without own bytes, that has the name at the place
abbrev pub ArePartsOf : ℕ → Found → Option Parts → Type 0
ArePartsOf at kind None = HasNode kind ⊎ ((flaw : Flaw) × (kind ≡ RefusedKind flaw))
ArePartsOf at kind (Some (Row i n)) = (i ≡ at) × (kind ≡ RowKind n)
ArePartsOf at kind (Some (Newtype p)) = kind ≡ NewtypeKind p
ArePartsOf at kind (Some (Object i fs)) = (i ≡ at) × (kind ≡ ObjectKind fs)
ArePartsOf at kind parts = ⊥

-- of the name at the place, that the code found this kind of, a value without own bytes was begun, or is refused
abbrev pub BeginsStruct : ℕ → Found → Output → Output → Result (Option Place) WriteError → Type 0
BeginsStruct at kind old new result = (F : List ℕ → Option Form) (ns : List Named) (x : List ℕ) (f : Form) → IsAt ns at x → F x ≡ Some f → IsKindOf F ns x f kind → WritesStruct F ns x f kind old new result

-- ---- why the writer stopped

module _ (F : List ℕ → Option Form) (root bytes : List ℕ) where
  -- the error is a true reason why the writer stopped at a member
  abbrev pub Stops : JsonError → Type 0
  Stops NoMemory = ⊤
  Stops (NoMember f) = ⊥
  Stops NoValue = ⊥
  Stops (Ambiguous x) = IsUndecided (shapes F) root x.now
  Stops (NotJson offset) = ⊥
  Stops (RefusedBytes path refusal) = (path.root.now ≡ root) × RefusesBytes F root bytes (path_steps path) refusal

-- ---- order

module _ (d : Definitions) (bytes : List ℕ) where
  -- the keys of the value k ascend in this order, and its last part begins there
  abbrev pub IsAscending : Option Ascent → Mark → Type 0
  IsAscending None m = ⊤
  IsAscending (Some a) m = HasKeyOrder (forms_of d) (names_of d) m.0 (Some a.order) × (a.last ≡ m.1.2)

  -- the last entry of these begins there with bytes that its key says
  abbrev pub IsLastKey : FoundEntries → Option EntryKey → Option ℕ → Type 0
  IsLastKey es None s = ⊤
  IsLastKey es (Some key) s =
      (i : ℕ) × (k : List ℕ) × (keys : Keys) × (t : List ℕ) × (own : List ℕ) × (rest : List ℕ)
      × (s ≡ Some i) × IsAt (names_of d) es.key k × AreKeysOf (forms_of d) (names_of d) k (form_of es.key_definition.now) es.key_kind keys
      × IsEntryKey es.key_kind key t × SaysFirst (forms_of d) k (key_json keys t) own [] × (drop i bytes ≡ own ++ rest)

  -- the value is a map of these entries, whose keys ascend
  abbrev pub IsMapOf : List ℕ → FoundEntries → Type 0
  IsMapOf x es = (order : Ordered) × (f : Form) × IsKindOf (forms_of d) (names_of d) x f (Map es order) × KindHasOrder (forms_of d) (names_of d) x (Map es order)

  -- where the place's parts are entries, the value is such a map
  abbrev pub IsKeyed : Parts → Option EntryKey → Mark → Type 0
  IsKeyed parts last m = (es : FoundEntries) (n : ℕ) → parts ≡ MapEntries es n → IsMapOf m.0 es × IsLastKey es last m.1.2

  -- keys that have to ascend are those of the place's order
  abbrev pub IsComparing : Option Ascent → Option (List ℕ) → Type 0
  IsComparing ascent k = IfSome k (λ k. MatchOption ascent ⊥ (λ a. OrderedBy d k a.order))

  abbrev pub IsMarked : Place → Mark → Type 0
  IsMarked p m = IsAscending p.ascent m × IsKeyed p.parts p.last m × IsComparing p.ascent m.2 × (p.parts ≡ m.1.0) × (p.begun ≡ m.1.1)

-- ---- the writer

module _ (d : Definitions) (w : Writing) where
  -- the writer walks by these definitions, and has written these tokens
  pub record IsWriterOf : Type 0 where
    pub plan : w.walk.plan.now ≡ d.plan.now
    pub long : LongNumbers
    pub kept : long_of w.out ≡ long
    pub tokens : List Token
    pub holds : Holds w.out tokens
    pub offset : w.walk.offset + length w.walk.left.now ≡ length w.bytes.now
    pub root : w.position.root.now ≡ root_of d.plan.now

  -- it is in front of a part of this place
  pub record IsWritingAt (p : Place) : Type 0 where
    pub writer : IsWriterOf
    pub mark : Mark
    pub marks : List Mark
    pub state : IsWriting (forms_of d) (names_of d) writer.long (root_of d.plan.now) w.bytes.now p w.position.outer.items mark marks w.walk.left.now writer.tokens
    pub here : IsMarked d w.bytes.now p mark
    pub around : AreEach (IsMarked d w.bytes.now) w.position.outer.items marks

  -- or in front of a value of this name
  pub record IsAwaitingAt (x : List ℕ) : Type 0 where
    pub writer : IsWriterOf
    pub room : ℕ
    pub mark : Mark
    pub marks : List Mark
    pub state : IsAwaiting (forms_of d) (names_of d) writer.long (root_of d.plan.now) w.bytes.now x room w.position.place w.position.outer.items mark marks w.walk.left.now writer.tokens
    pub here : IsMarked d w.bytes.now w.position.place mark
    pub around : AreEach (IsMarked d w.bytes.now) w.position.outer.items marks

  -- or at the end
  pub record HasWritten : Type 0 where
    pub tokens : List Token
    pub holds : Holds w.out tokens
    pub whole : IsWhole (forms_of d) (long_of w.out) (root_of d.plan.now) tokens w.bytes.now
    pub rises : AreChecked (forms_of d) (one (root_of d.plan.now) ∷ []) w.bytes.now

  abbrev pub IsWrittenOn : Bool → Type 0
  IsWrittenOn true = IsWritingAt w.position.place
  IsWrittenOn false = HasWritten

-- JSON of the root was written that can be printed and read, and says the bytes; in any that says them what has to ascend does
abbrev pub WritesJson : (List ℕ → Option Form) → List ℕ → List ℕ → Output → Type 0
WritesJson F root bytes out = (j : Json) × Holds out (json_tokens j) × HasNumbers j × (depth j ≤ 128) × AreWritten F (long_of out) ((root, j) ∷ []) bytes × ((i : Json) → HaveBytes F ((root, i) ∷ []) bytes → InOrder F root i)

-- an error of the writer of these definitions
abbrev pub StopsBy : Definitions → List ℕ → JsonError → Type 0
StopsBy d bytes e = Stops (forms_of d) (root_of d.plan.now) bytes e

-- the brackets at the end of a place
abbrev pub ends_of : Parts → List Token
ends_of (Elements at n) = Token.end_array ∷ []
ends_of (Row at n) = Token.end_array ∷ []
ends_of (Object at fs) = Token.end_object ∷ []
ends_of (MapEntries es n) = Token.end_object ∷ []
ends_of (Variant v at) = Token.end_object ∷ []
ends_of parts = []

-- the error has no memory, or the refusal of so many places around
abbrev pub IsFull : ℕ → PartError → Type 0
IsFull n NoPartMemory = ⊤
IsFull n (RefusedPart path refusal) = (refusal ≡ TooDeep) × (128 ≤ n)

-- the error of a part that was not written
abbrev pub IsOfWrite : WriteError → PartError → Type 0
IsOfWrite OutOfMemory e = e ≡ NoPartMemory
IsOfWrite (Refused refusal) e = IsOf refusal e
IsOfWrite (Element index refusal) e = IsOf refusal e

-- the steps to what the error is of: the part, or an element of it
abbrev pub write_steps : List Step → WriteError → List Step
write_steps steps OutOfMemory = steps
write_steps steps (Refused refusal) = steps
write_steps steps (Element index refusal) = steps ++ element index ∷ []

-- the error of the part that these steps lead to is that refusal; or that of an element of it, of which P holds if so many are in front of the one before it
abbrev pub IsFullOrFalls : List ℕ → List Step → ℕ → (ℕ → Type 0) → PartError → Type 0
IsFullOrFalls root steps n P NoPartMemory = ⊤
IsFullOrFalls root steps n P (RefusedPart path refusal) = (((refusal ≡ TooDeep) × (128 ≤ n)) × IsPath root steps path) ⊎ ((refusal ≡ Descends) × (passed : ℕ) × IsPath root (steps ++ element (suc passed) ∷ []) path × P passed)

-- none of the elements in the own bytes of a list falls
abbrev pub NoneFallsIn : FoundElements → Form → List ℕ → Type 0
NoneFallsIn es f own = (bytes : List ℕ) → AreElementsOf (shape_of_form f) own bytes → NoneFalls es bytes

-- the refusal is right of the own bytes of a value of a kind
abbrev pub RefusesElements : List ℕ → List Step → ℕ → Found → Node → PartError → Type 0
RefusesElements root steps depth kind n e =
    (F : List ℕ → Option Form) (ns : List Named) (x : List ℕ) (parts : List (List ℕ)) (after : List ℕ)
    → IsOpenedAs F x (form_of n.definition.now) n.bytes.now parts → IsKindOf F ns x (form_of n.definition.now) kind → KindHasOrder F ns x kind → IsFullOrFalls root steps depth (HasDescent F x (n.bytes.now ++ after)) e

-- the next part begins at the offset, where parts have to ascend
abbrev pub BeginsNext : Option Ascent → ℕ → Option Ascent → Type 0
BeginsNext None i new = new ≡ None
BeginsNext (Some a) i new = (b : Ascent) × (new ≡ Some b) × (b.order ≡ a.order) × (b.last ≡ Some i)

-- whether it is above the one before, if there is one
abbrev pub TellsAscent : Definitions → List ℕ → Option Ascent → ℕ → Bool → Type 0
TellsAscent d bytes None j ascends = ascends ≡ true
TellsAscent d bytes (Some a) j ascends = MatchOption a.last (ascends ≡ true) (λ i. (k : List ℕ) → OrderedBy d k a.order → MatchBool ascends (IsNotBelow d k (drop i bytes) (drop j bytes) → ⊥) (IsNotBelow d k (drop i bytes) (drop j bytes)))

-- the next part of the place is above the last one, where parts have to ascend
abbrev pub RisesAt : Definitions → Writing → Place → Type 0
RisesAt d w p = TellsAscent d w.bytes.now p.ascent w.walk.offset true

-- a place's ascent in this order, in front of the first part
abbrev pub AscendsFrom : Option Ordered → Option Ascent → Type 0
AscendsFrom None new = new ≡ None
AscendsFrom (Some order) new = (a : Ascent) × (new ≡ Some a) × (a.order ≡ order) × (a.last ≡ None) × (a.earlier ≡ None)

-- the part is begun of the place p, which is q now
abbrev pub IsBegunOf : Definitions → ℕ → Place → Place → FoundPart → Type 0
IsBegunOf d i p q part = GivesPart d p.parts p.begun q.parts q.begun (Some part) × (q.parts ≡ p.parts) × (q.last ≡ p.last) × BeginsNext p.ascent i q.ascent × (q.begun ≡ suc p.begun)

-- a step of the writer: it is in front of another part, or at the end, or has stopped
abbrev pub IsWrittenNext : Definitions → Writing → Writing → Result Bool JsonError → Type 0
IsWrittenNext d old new result = MatchResult result (IsWrittenOn d new) (StopsBy d old.bytes.now)

-- a part was written: it is in front of another one, or has stopped
abbrev pub IsPartWritten : Definitions → Writing → Writing → Result (Unit {0}) JsonError → Type 0
IsPartWritten d old new result = MatchResult result (λ _. IsWritingAt d new new.position.place) (StopsBy d old.bytes.now)

-- the key of a part was written, the name of whose type is at this place: it is in front of the part's value, or has stopped
abbrev pub IsKeyPut : Definitions → ℕ → Writing → Writing → Result (Unit {0}) JsonError → Type 0
IsKeyPut d at old new result = MatchResult result (λ _. (x : List ℕ) × IsAt (names_of d) at x × IsAwaitingAt d new x) (StopsBy d old.bytes.now)
