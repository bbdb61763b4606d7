-- What the code finds of the orders of names, and what is still to be compared.
use Rattle.std.specs.{Prelude.{◌≡◌, ◌⊎◌, ⊤, ℕ, ◌*◌, ◌<◌, ◌≤◌, ◌^◌, ℤ, pos, All, Bool, false, Decides, MatchBool, List, [], ◌∷◌, ◌++◌, length, map, drop, replicate, reverse, Option, None, Some, Result, IfOk, IfSome, slice_get, MatchOption}, Borrow.{Bor}, Cmp.Lexicographic.{slice_cmp}, Ordering.{MatchOrdering, int_cmp, nat_cmp}, declared.cmp.Ordering.{Ordering}, declared.cmp.Ordering.TheVariants.{Less}}
use Rattle.borsh_walks.specs.{Container.{Shape, references, tag}, declared.definition.Definition.{Definition}}
use Rattle.borsh_plan.specs.declared.named.Named.{Named}
use Rattle.borsh_json.specs.{declared.definitions.Definitions.{Definitions}, declared.formats.Collection.{Collection}, declared.kinds.KeyKind.{KeyKind}, declared.kinds.Kind.{Kind}, declared.kinds.Kind.TheVariants.{ByteList, Numbers, List as ListKind, Map}, declared.order.Ascent.{Ascent}, declared.order.Next.{Next}, declared.order.Next.TheVariants.{Value, Decided}, declared.order.Ordered.{Ordered}, declared.order.Ordered.TheVariants.{Single, Number, Text, Array, List as Counted, Tuple, Other}, declared.order.Pair.{Pair}, declared.order.Pending.{Pending}, declared.order.Pending.TheVariants.{Elements as TwoLists, Parts, Copies, PartCopies}, Forms.{Form, sequence, tuple, primitive, shape_of_form, HasNoBytes}, Descents.{HasKeys}, Found.{HasForm, IsCollection, IsNamed, forms_of, names_of}, Ordered.{Order, single, numbers, text, array, list, parts, other, OrdersBytes, HasOrder, IsNode, Compared, a_value, a_copy, elements, IsAtLeast}, Places.{AreKeysOf, IsAt, IsKindAt}, Table.{AreKeys, InRange, Keys}}

module _ (F : List ℕ → Option Form) (ns : List Named) where
  -- what was found of the name is its order
  abbrev pub IsOrderOf : List ℕ → Ordered → Order → Type 0
  IsOrderOf x Single o = o ≡ single
  IsOrderOf x (Number n signed) o = o ≡ numbers n signed
  IsOrderOf x Text o = o ≡ text
  IsOrderOf x (Array n at) o = (e : List ℕ) × IsAt ns at e × (o ≡ array n e)
  IsOrderOf x (Counted w at) o = (e : List ℕ) × IsAt ns at e × (o ≡ list w e)
  IsOrderOf x (Tuple at n) o = (ps : List (List ℕ)) × IsAt ns at x × (F x ≡ Some (tuple ps)) × (n ≡ length ps) × (o ≡ parts ps)
  IsOrderOf x (Other at) o = IsAt ns at x × (o ≡ other)

  -- the values of the name are ordered as was found
  abbrev pub FindsOrder : List ℕ → Ordered → Type 0
  FindsOrder x found = (o : Order) × HasOrder F x o × IsOrderOf x found o

  -- so are those of a name whose values have bytes
  abbrev pub FindsBytes : List ℕ → Ordered → Type 0
  FindsBytes x found = (o : Order) × OrdersBytes F x o × IsOrderOf x found o

  -- what is pending
  abbrev pub IsPending : Pending → List Compared → Type 0
  IsPending (TwoLists at n m) ts = (e : List ℕ) × IsAt ns at e × (ts ≡ elements e n m ∷ [])
  IsPending (Parts at n i) ts = (x : List ℕ) × (ps : List (List ℕ)) × IsAt ns at x × (F x ≡ Some (tuple ps)) × (n ≡ length ps) × (ts ≡ map (λ p. a_value p) (drop i ps))
  IsPending (Copies at n) ts = (x : List ℕ) × IsAt ns at x × (ts ≡ replicate n (a_copy x))
  IsPending (PartCopies at i) ts = (x : List ℕ) × (f : Form) × IsAt ns at x × (F x ≡ Some f) × (ts ≡ map (λ p. a_copy p) (drop i (references (shape_of_form f))))

  -- the next first
  abbrev pub ArePending : List Pending → List Compared → Type 0
  ArePending [] ts = ts ≡ []
  ArePending (p ∷ ps) ts = (us : List Compared) × (more : List Compared) × IsPending p us × ArePending ps more × (ts ≡ us ++ more)

  -- a value of the name is compared, in this order; or a copy of one
  abbrev pub IsTurn : Ordered → Compared → Type 0
  IsTurn found (a_value x) = FindsOrder x found
  IsTurn found (a_copy x) = (at : ℕ) × IsAt ns at x × (found ≡ Other at)
  IsTurn found (elements e n m) = ⊥

  -- the keys k of the set or map x ascend so, which is their order
  abbrev pub KeysAscend : List ℕ → List ℕ → Ordered → Type 0
  KeysAscend x k found = (e : List ℕ) × HasKeys F x e k × FindsOrder k found

  abbrev pub HasKeyOrder : List ℕ → Option Ordered → Type 0
  HasKeyOrder x order = IfSome order (λ found. (k : List ℕ) × KeysAscend x k found)

  -- an order that a kind of x has is that of its keys
  abbrev pub KindHasOrder : List ℕ → Kind → Type 0
  KindHasOrder x (ByteList es) = (es.size ≡ 1) × HasKeyOrder x es.order
  KindHasOrder x (Numbers es) = HasKeyOrder x es.order
  KindHasOrder x (ListKind es) = HasKeyOrder x es.order
  KindHasOrder x (Map es found) = (k : List ℕ) × IsAt ns es.key k × KeysAscend x k found
  KindHasOrder x kind = ⊤

  -- an order that was found of primitives e, and some of them, of n bytes each
  abbrev pub ArePrimitives : List ℕ → Ordered → ℕ → List ℕ → Type 0
  ArePrimitives e found n bytes = FindsOrder e found × (F e ≡ Some (primitive n)) × (0 < n) × ((c : ℕ) × (length bytes ≡ c * n)) × All (λ b. b < 256) bytes

-- the place of the name of an index, if there is one
abbrev pub IsPartAt : List Named → List (List ℕ) → ℕ → Option ℕ → Type 0
IsPartAt ns ps i found = MatchOption found (slice_get ps i ≡ None) (λ k. (p : List ℕ) × (slice_get ps i ≡ Some p) × IsAt ns k p)

module _ (F : List ℕ → Option Form) where
  -- the name has bytes, and neither it nor its definition tells an order
  abbrev pub TellsOther : List ℕ → Type 0
  TellsOther x = (HasNoBytes F x → ⊥) × ((o : Order) → OrdersBytes F x o → ⊥)

  -- x is no set or map
  abbrev pub KnowsNoOrder : List ℕ → Type 0
  KnowsNoOrder x = (e k : List ℕ) → HasKeys F x e k → ⊥

  -- where no order of its keys was found, it has none
  abbrev pub TellsNoOrder : List ℕ → Option Ordered → Type 0
  TellsNoOrder x order = order ≡ None → KnowsNoOrder x

  -- a kind of x without an order tells that x is no set or map
  abbrev pub KindTellsOrder : List ℕ → Kind → Type 0
  KindTellsOrder x (ByteList es) = TellsNoOrder x es.order
  KindTellsOrder x (Numbers es) = TellsNoOrder x es.order
  KindTellsOrder x (ListKind es) = TellsNoOrder x es.order
  KindTellsOrder x kind = ⊤

-- a list of this kind need not ascend
abbrev pub NeedNotAscend : Kind → Type 0
NeedNotAscend (ByteList es) = es.order ≡ None
NeedNotAscend (Numbers es) = es.order ≡ None
NeedNotAscend (ListKind es) = es.order ≡ None
NeedNotAscend kind = ⊤

-- nor one of these
abbrev pub NoneAscends : List (Option (Bor Definition × Kind)) → Type 0
NoneAscends kinds = (i : ℕ) (found : Option (Bor Definition × Kind)) → slice_get kinds i ≡ Some found → IfSome found (λ r. NeedNotAscend r.1)

-- the values of the definitions' name are ordered so
abbrev pub OrderedBy : Definitions → List ℕ → Ordered → Type 0
OrderedBy d x found = FindsOrder (forms_of d) (names_of d) x found

-- what was found of the name at a place is its kind, which has the order of its keys, and tells where it has none
abbrev pub IsFoundKind : (List ℕ → Option Form) → List Named → ℕ → Option (Bor Definition × Kind) → Type 0
IsFoundKind F ns i found = IsKindAt F ns i found × ((x : List ℕ) → IsAt ns i x → IfSome found (λ r. KindHasOrder F ns x r.1 × KindTellsOrder F x r.1))

-- and so is what was found of each of the first names
abbrev pub AreFoundKinds : (List ℕ → Option Form) → List Named → List (Option (Bor Definition × Kind)) → Type 0
AreFoundKinds F ns kinds = (i : ℕ) (found : Option (Bor Definition × Kind)) → slice_get kinds i ≡ Some found → IsFoundKind F ns i found

-- each order is that of the name at its place
abbrev pub AreOrders : (List ℕ → Option Form) → List Named → List Ordered → Type 0
AreOrders F ns orders = (i : ℕ) (x : List ℕ) (found : Ordered) → slice_get orders i ≡ Some found → IsAt ns i x → FindsOrder F ns x found

-- the kinds are those of all names, they and the orders are right, and a list has to ascend or none has
pub record HasKinds (d : Definitions) (kinds : List (Option (Bor Definition × Kind))) (orders : List Ordered) (ascends : Bool) : Type 0 where
  pub whole : length kinds ≡ length (names_of d)
  pub right : AreFoundKinds (forms_of d) (names_of d) kinds
  pub ordered : AreOrders (forms_of d) (names_of d) orders
  pub free : ascends ≡ false → NoneAscends kinds

-- two byte strings begin with values of the name, the first of which isn't below the second, as far as their order is told
abbrev pub IsNotBelow : Definitions → List ℕ → List ℕ → List ℕ → Type 0
IsNotBelow d x left right = IsAtLeast (forms_of d) (a_value x ∷ []) left right

-- these are compared so if the others are
abbrev pub AreAlike : (List ℕ → Option Form) → List Compared → List ℕ → List ℕ → List Compared → List ℕ → List ℕ → Type 0
AreAlike F ts L R us M S = (IsAtLeast F us M S → IsAtLeast F ts L R) × (IsAtLeast F ts L R → IsAtLeast F us M S)

-- an order that decides says whether the first isn't below the second; equal says that what is pending decides
abbrev pub FrontTells : Definitions → List Pending → List Compared → List ℕ → List ℕ → List ℕ → List ℕ → Ordering → Type 0
FrontTells d new ts L R M S front =
    MatchOrdering front (IsAtLeast (forms_of d) ts L R → ⊥) ((us : List Compared) × ArePending (forms_of d) (names_of d) (reverse new) us × AreAlike (forms_of d) ts L R us M S) (IsAtLeast (forms_of d) ts L R)

-- what comes next of what is pending; or nothing, and how it compares
abbrev pub NextTells : Definitions → List Pending → List Compared → List ℕ → List ℕ → Next → Type 0
NextTells d new ts L R (Value found) =
    (t : Compared) × (us : List Compared) × IsTurn (forms_of d) (names_of d) found t × ArePending (forms_of d) (names_of d) (reverse new) us × AreAlike (forms_of d) ts L R (t ∷ us) L R
NextTells d new ts L R (Decided o) = MatchOrdering o (IsAtLeast (forms_of d) ts L R → ⊥) (IsAtLeast (forms_of d) ts L R) (IsAtLeast (forms_of d) ts L R)

abbrev pub FindsNext : {E : Type 0} → Definitions → List Pending → List Pending → Result Next E → Type 0
FindsNext d old new result = (ts : List Compared) → ArePending (forms_of d) (names_of d) (reverse old) ts → (L R : List ℕ) → IfOk result (λ next. NextTells d new ts L R next)

-- how two values compare that are in turn, by what comes before their parts
abbrev pub ComparesFronts : {E : Type 0} → Definitions → Ordered → List Pending → Pair → List Pending → Pair → Result Ordering E → Type 0
ComparesFronts d order old from new to result =
    (t : Compared) (ts : List Compared) → IsTurn (forms_of d) (names_of d) order t → ArePending (forms_of d) (names_of d) (reverse old) ts
    → IfOk result (λ o. FrontTells d new (t ∷ ts) from.left.now from.right.now to.left.now to.right.now o)

-- two copies of the values of the name at the place
abbrev pub ComparesCopies : {E : Type 0} → Definitions → ℕ → List Pending → Pair → List Pending → Pair → Result Ordering E → Type 0
ComparesCopies d at old from new to result =
    (x : List ℕ) (t : Compared) (ts : List Compared) → IsAt (names_of d) at x → IsTurn (forms_of d) (names_of d) (Other at) t → ArePending (forms_of d) (names_of d) (reverse old) ts
    → IfOk result (λ o. FrontTells d new (t ∷ ts) from.left.now from.right.now to.left.now to.right.now o)

-- the parts of a value of this definition with these own bytes, if there is one
abbrev pub FindsCopies : Definitions → Shape → List ℕ → Option Pending → Type 0
FindsCopies d s own found =
    MatchOption found ((ps : List (List ℕ)) → IsNode s own ps → ⊥)
    (λ p. (ps : List (List ℕ)) × IsNode s own ps × IsPending (forms_of d) (names_of d) p (map (λ p. a_copy p) ps))

-- ---- what is taken of two byte strings that are being compared

-- the first n bytes, and the others, if there are as many
abbrev pub IsCut : ℕ → List ℕ → List ℕ → List ℕ → Type 0
IsCut n bytes front rest = (xs bs : List ℕ) → bytes ≡ xs ++ bs → length xs ≡ n → (front ≡ xs) × (rest ≡ bs)

-- n bytes of the one and m of the other, if both have as many
abbrev pub TakesBoth : ℕ → ℕ → Pair → Pair → Option (Bor (List ℕ) × Bor (List ℕ)) → Type 0
TakesBoth n m old new taken =
    MatchOption taken ((n ≤ length old.left.now → m ≤ length old.right.now → ⊥))
    (λ t. (length t.0.now ≡ n) × (length t.1.now ≡ m) × All (λ b. b < 256) t.0.now × All (λ b. b < 256) t.1.now × (old.left.now ≡ t.0.now ++ new.left.now) × (old.right.now ≡ t.1.now ++ new.right.now))

-- n bytes of both, if they are the same
abbrev pub TakesSame : ℕ → Pair → Pair → Option (Bor (List ℕ)) → Type 0
TakesSame n old new taken =
    MatchOption taken ((xs bs cs : List ℕ) → old.left.now ≡ xs ++ bs → old.right.now ≡ xs ++ cs → length xs ≡ n → ⊥)
    (λ t. (length t.now ≡ n) × (old.left.now ≡ t.now ++ new.left.now) × (old.right.now ≡ t.now ++ new.right.now))

-- two counts of so many bytes, if both have as many
abbrev pub TakesCounts : ℕ → Pair → Pair → Option (ℕ × ℕ) → Type 0
TakesCounts w old new taken =
    (w ≡ 1) ⊎ (w ≡ 4) → MatchOption taken (w ≤ length old.left.now → w ≤ length old.right.now → ⊥)
    (λ t. (t.0 < 256 ^ w) × (t.1 < 256 ^ w) × (old.left.now ≡ tag w (pos t.0) ++ new.left.now) × (old.right.now ≡ tag w (pos t.1) ++ new.right.now))

-- how the numbers of so many bytes compare that come first; `Less` if there are too few bytes
abbrev pub ComparesNumbers : ℕ → Bool → Pair → Pair → Ordering → Type 0
ComparesNumbers n signed old new result =
    ((result ≡ Less) × (n ≤ length old.left.now → n ≤ length old.right.now → ⊥))
    ⊎ ((l : List ℕ) × (r : List ℕ) × (length l ≡ n) × (length r ≡ n) × All (λ b. b < 256) l × All (λ b. b < 256) r × (old.left.now ≡ l ++ new.left.now) × (old.right.now ≡ r ++ new.right.now)
    × ((y z : ℤ) → 0 < n → InRange n signed y → InRange n signed z → l ≡ tag n y → r ≡ tag n z → result ≡ int_cmp y z))

-- the texts that come first
abbrev pub ComparesTexts : Pair → Pair → Ordering → Type 0
ComparesTexts old new result =
    ((result ≡ Less) × ((s t bs cs : List ℕ) → length s < 256 ^ 4 → length t < 256 ^ 4 → old.left.now ≡ (tag 4 (pos (length s)) ++ s) ++ bs → old.right.now ≡ (tag 4 (pos (length t)) ++ t) ++ cs → ⊥))
    ⊎ ((s : List ℕ) × (t : List ℕ) × (length s < 256 ^ 4) × (length t < 256 ^ 4) × (old.left.now ≡ (tag 4 (pos (length s)) ++ s) ++ new.left.now) × (old.right.now ≡ (tag 4 (pos (length t)) ++ t) ++ new.right.now) × (result ≡ slice_cmp nat_cmp s t))

-- whether the last of the elements that were begun is above the one before it, as far as their order is told
abbrev pub DecidesAscent : {E : Type 0} → Definitions → Ascent → List ℕ → Result Bool E → Type 0
DecidesAscent d a bytes result =
    (x : List ℕ) → OrderedBy d x a.order → (i j : ℕ) → a.earlier ≡ Some i → a.last ≡ Some j
    → IfOk result (λ ascends. MatchBool ascends (IsNotBelow d x (drop i bytes) (drop j bytes) → ⊥) (IsNotBelow d x (drop i bytes) (drop j bytes)))

-- ---- orders that are found

-- how the values of the name at the place, which has this definition and some bytes, are ordered
abbrev pub FindsBytesAt : Definitions → ℕ → Form → Option Ordered → Type 0
FindsBytesAt d at f result = (x : List ℕ) → HasForm d at f x → IfSome result (λ found. FindsBytes (forms_of d) (names_of d) x found)

-- neither the name at the place, which has this definition and some bytes, nor the definition tells an order where none was found
abbrev pub FindsNoBytesAt : Definitions → ℕ → Form → Option Ordered → Type 0
FindsNoBytesAt d at f result = (x : List ℕ) → HasForm d at f x → result ≡ None → (o : Order) → OrdersBytes (forms_of d) x o → ⊥

-- the order of a set's elements or a map's keys was found; of a list there is none
abbrev pub FindsKeysOf : Definitions → ℕ → Collection → Option Ordered → Type 0
FindsKeysOf d element c found =
    (x e : List ℕ) (w lo hi : ℕ) → IsCollection (forms_of d) (names_of d) x c → IsAt (names_of d) element e → forms_of d x ≡ Some (sequence w lo hi e)
    → HasKeyOrder (forms_of d) (names_of d) x found × TellsNoOrder (forms_of d) x found

-- a kind was found, with the order of the keys
abbrev pub HasOrderIn : Definitions → List ℕ → Kind → Type 0
HasOrderIn d x kind = KindHasOrder (forms_of d) (names_of d) x kind × KindTellsOrder (forms_of d) x kind

abbrev pub FindsKind : {E : Type 0} → Definitions → ℕ → Form → Result Kind E → Type 0
FindsKind d at f result = (x : List ℕ) → HasForm d at f x → IfOk result (λ kind. HasOrderIn d x kind)

abbrev pub TellsOrders : Definitions → ℕ → Form → Kind → Type 0
TellsOrders d at f kind = (x : List ℕ) → HasForm d at f x → HasOrderIn d x kind

abbrev pub FindsKindAt : {E : Type 0} → Definitions → ℕ → Result (Option (Bor Definition × Kind)) E → Type 0
FindsKindAt d at result = (x : List ℕ) → IsAt (names_of d) at x → IfOk result (λ found. IfSome found (λ r. HasOrderIn d x r.1))

-- the kind has the order of x
abbrev pub HasOrderAt : Definitions → List ℕ → Option (Bor Definition × Kind) → Type 0
HasOrderAt d x found = IfSome found (λ r. KindHasOrder (forms_of d) (names_of d) x r.1)

-- ---- kinds with orders

-- the name at the place is that of the elements of a sequence
abbrev pub HasElements : Definitions → ℕ → Form → Type 0
HasElements d element f = (w : ℕ) × (lo : ℕ) × (hi : ℕ) × (e : List ℕ) × (f ≡ sequence w lo hi e) × IsNamed d element e

-- the keys of an object are ordered so
abbrev pub OrdersKeys : Ordered → KeyKind → Type 0
OrdersKeys found kind = (F : List ℕ → Option Form) (ns : List Named) (k : List ℕ) (f : Form) (keys : Keys) → AreKeys F k keys → AreKeysOf F ns k f kind keys → FindsOrder F ns k found

-- ---- primitives in a row

-- the first primitive isn't below the second, of n bytes both
abbrev pub DecidesFall : Ordered → ℕ → List ℕ → List ℕ → Bool → Type 0
DecidesFall order n first second falls =
    (F : List ℕ → Option Form) (ns : List Named) (e : List ℕ) → FindsOrder F ns e order → F e ≡ Some (primitive n) → 0 < n → length first ≡ n → length second ≡ n → All (λ b. b < 256) first → All (λ b. b < 256) second
    → Decides falls (IsAtLeast F (a_value e ∷ []) first second)
