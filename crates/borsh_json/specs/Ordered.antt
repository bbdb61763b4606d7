-- How the values of a name are ordered, where names and definitions tell it; and of which two values they tell that the first isn't below the second: the first parts that differ decide.
use Rattle.std.specs.{Prelude.{◌≡◌, ◌⊎◌, ℕ, suc, zero, ◌<◌, ◌≤◌, ◌^◌, ℤ, pos, List, [], ◌∷◌, ◌++◌, length, map, replicate, Bool, false, if◌then◌else◌, codes, Option, Some, None}, Fmt.{decimal}, Str.{bytes_eq}, Ordering.{int_cmp, nat_cmp}, Cmp.Lexicographic.{slice_cmp}, declared.cmp.Ordering.{Ordering}, declared.cmp.Ordering.TheVariants.{Less, Equal, Greater}}
use Rattle.borsh_walks.specs.{Container.{Shape, tag}, TupleNames.{tuple_name}}
use Rattle.borsh_walks.specs.Container as shape
use Rattle.borsh_values.specs.Tags.{number_of}
use Rattle.borsh_json.specs.{Forms.{Form, primitive, sequence, tuple, shape_of_form, HasNoBytes, IsList, IsOption}, Table.{Kind, texts, truth, whole, primitive_kind, AreKeys, InRange}}

-- how the values of a name are ordered, if those of its parts are: `Fronts`, below, has a sentence for each
pub data Order : Type 0 where
  single : Order
  numbers : ℕ → Bool → Order
  text : Order
  array : ℕ → List ℕ → Order
  list : ℕ → List ℕ → Order
  parts : List (List ℕ) → Order
  other : Order

-- `Vec<T>`, `VecDeque<T>`, `LinkedList<T>` or `BTreeSet<T>`, where e is T
abbrev pub IsSequenceName : List ℕ → List ℕ → Type 0
IsSequenceName x e =
    (x ≡ codes "Vec<" ++ e ++ codes ">")
    ⊎ (x ≡ codes "VecDeque<" ++ e ++ codes ">")
    ⊎ (x ≡ codes "LinkedList<" ++ e ++ codes ">")
    ⊎ (x ≡ codes "BTreeSet<" ++ e ++ codes ">")

-- `BTreeMap<K, V>`, where k is K and v is V
abbrev pub IsTreeMapName : List ℕ → List ℕ → List ℕ → Type 0
IsTreeMapName x k v = x ≡ codes "BTreeMap<" ++ k ++ codes ", " ++ v ++ codes ">"

-- the numbers of a primitive of n bytes, `bool` among them, and whether they have a sign
abbrev pub AreNumbers : Kind → ℕ → Bool → Type 0
AreNumbers kind n signed = ((kind ≡ truth) × (signed ≡ false)) ⊎ ((non_zero : Bool) × (kind ≡ whole n signed non_zero))

module _ (F : List ℕ → Option Form) where
  -- a list, an ordered set, or an ordered map, where e is the tuple of key and value. The types of hash sets and hash maps have no order of their
  -- own, so they aren't among these, though their elements and keys ascend in the bytes
  abbrev pub IsListName : List ℕ → List ℕ → Type 0
  IsListName x e = IsSequenceName x e ⊎ ((k : List ℕ) × (v : List ℕ) × (F e ≡ Some (tuple (k ∷ v ∷ []))) × IsTreeMapName x k v)

  -- a name whose values have bytes
  abbrev pub OrdersBytes : List ℕ → Order → Type 0
  OrdersBytes x single = ⊥
  OrdersBytes x (numbers n signed) = (F x ≡ Some (primitive n)) × AreNumbers (primitive_kind x n) n signed
  OrdersBytes x text = AreKeys F x texts
  -- `[T; n]`
  OrdersBytes x (array n e) = (F x ≡ Some (sequence 0 n n e)) × (x ≡ codes "[" ++ e ++ codes "; " ++ decimal n ++ codes "]")
  OrdersBytes x (list w e) = ((w ≡ 4) × (IsList F x e × IsListName x e)) ⊎ ((w ≡ 1) × IsOption F x e)
  OrdersBytes x (parts ps) = (F x ≡ Some (tuple ps)) × (x ≡ tuple_name ps)
  OrdersBytes x other = ⊥

  -- the values of the name are ordered so, if those of its parts are: each name has one order, and if neither it nor its definition tells one, `other`
  abbrev pub HasOrder : List ℕ → Order → Type 0
  HasOrder x o =
      (HasNoBytes F x × (o ≡ single))
      ⊎ ((HasNoBytes F x → ⊥) × (OrdersBytes x o ⊎ ((o ≡ other) × ((q : Order) → OrdersBytes x q → ⊥))))

-- ---- values whose order isn't told
-- how many own bytes a value of the definition has, as it is compared: a primitive all its bytes, a sequence its count, an enum its tag
abbrev pub node_size : Shape → ℕ
node_size (shape.primitive n) = n
node_size (shape.sequence w lo hi e) = w
node_size (shape.product qs) = 0
node_size (shape.choice w vs) = w

-- so many elements, as the own bytes of a sequence say; or the least number where it has none
abbrev pub IsCount : ℕ → ℕ → List ℕ → ℕ → Type 0
IsCount zero lo own k = k ≡ lo
IsCount (suc w) lo own k = (suc w ≤ 8) × (k ≡ number_of own)

-- the type of the first variant that has the tag, if one has
abbrev pub variant_of : List ℕ → List (ℤ × List ℕ) → Option (List ℕ)
variant_of t [] = None
variant_of t (v ∷ vs) = if bytes_eq (tag (length t) v.0) t then Some v.1 else variant_of t vs

-- behind own bytes of the definition come values of these names
abbrev pub HasParts : Shape → List ℕ → List (List ℕ) → Type 0
HasParts (shape.primitive n) own ps = ps ≡ []
HasParts (shape.sequence w lo hi e) own ps = (k : ℕ) × IsCount w lo own k × (ps ≡ replicate k e)
HasParts (shape.product qs) own ps = ps ≡ qs
HasParts (shape.choice w vs) own ps = (w ≤ 8) × (p : List ℕ) × (variant_of own vs ≡ Some p) × (ps ≡ p ∷ [])

-- a value of the definition begins with these own bytes and has parts of these names, as far as its bytes say
abbrev pub IsNode : Shape → List ℕ → List (List ℕ) → Type 0
IsNode s own ps = (length own ≡ node_size s) × HasParts s own ps

-- ---- what is compared: a value of a name with another; two of which is known only whether they are the same; n elements of one list with m of another
pub data Compared : Type 0 where
  a_value : List ℕ → Compared
  a_copy : List ℕ → Compared
  elements : List ℕ → ℕ → ℕ → Compared

module _ (F : List ℕ → Option Form) where
  -- values of the name whose own bytes are the same are so if their parts are
  abbrev pub IsCopy : List ℕ → List ℕ → List ℕ → Ordering → List Compared → Type 0
  IsCopy x l r o us =
      (l ≡ r) × (o ≡ Equal)
      × ((HasNoBytes F x × (l ≡ []) × (us ≡ []))
      ⊎ ((HasNoBytes F x → ⊥) × (f : Form) × (ps : List (List ℕ)) × (F x ≡ Some f) × IsNode (shape_of_form f) l ps × (us ≡ map (λ p. a_copy p) ps)))

  -- values of this order begin with these own bytes, which compare so; where they are equal, these parts decide
  abbrev pub Fronts : List ℕ → Order → List ℕ → List ℕ → Ordering → List Compared → Type 0
  -- one value, without bytes
  Fronts x single l r o us = (l ≡ []) × (r ≡ []) × (o ≡ Equal) × (us ≡ [])
  -- numbers of n bytes, or `bool`s
  Fronts x (numbers n signed) l r o us = (y : ℤ) × (z : ℤ) × InRange n signed y × InRange n signed z × (l ≡ tag n y) × (r ≡ tag n z) × (o ≡ int_cmp y z) × (us ≡ [])
  -- texts: by their bytes, a beginning first
  Fronts x text l r o us =
      (s : List ℕ) × (t : List ℕ) × (length s < 256 ^ 4) × (length t < 256 ^ 4)
      × (l ≡ tag 4 (pos (length s)) ++ s) × (r ≡ tag 4 (pos (length t)) ++ t) × (o ≡ slice_cmp nat_cmp s t) × (us ≡ [])
  -- arrays
  Fronts x (array n e) l r o us = (l ≡ []) × (r ≡ []) × (o ≡ Equal) × (us ≡ elements e n n ∷ [])
  -- lists, behind a count of so many bytes; an option is one of at most one element
  Fronts x (list w e) l r o us =
      (n : ℕ) × (m : ℕ) × (n < 256 ^ w) × (m < 256 ^ w) × (l ≡ tag w (pos n)) × (r ≡ tag w (pos m)) × (o ≡ Equal) × (us ≡ elements e n m ∷ [])
  -- tuples
  Fronts x (parts ps) l r o us = (l ≡ []) × (r ≡ []) × (o ≡ Equal) × (us ≡ map (λ p. a_value p) ps)
  -- of others is known only whether they are the same
  Fronts x other l r o us = IsCopy x l r o us

  -- so it is of what is compared; the end of a list is below an element
  abbrev pub FrontsOf : Compared → List ℕ → List ℕ → Ordering → List Compared → Type 0
  FrontsOf (a_value x) l r o us = (q : Order) × HasOrder F x q × Fronts x q l r o us
  FrontsOf (a_copy x) l r o us = IsCopy x l r o us
  FrontsOf (elements e zero zero) l r o us = (l ≡ []) × (r ≡ []) × (o ≡ Equal) × (us ≡ [])
  FrontsOf (elements e zero (suc m)) l r o us = (l ≡ []) × (r ≡ []) × (o ≡ Less) × (us ≡ [])
  FrontsOf (elements e (suc n) zero) l r o us = (l ≡ []) × (r ≡ []) × (o ≡ Greater) × (us ≡ [])
  FrontsOf (elements e (suc n) (suc m)) l r o us = (l ≡ []) × (r ≡ []) × (o ≡ Equal) × (us ≡ a_value e ∷ elements e n m ∷ [])

  -- the one bytes begin with values that are equal to those with which the other bytes begin, or above them; values whose order isn't told are so only if they are the same
  pub data IsAtLeast : List Compared → List ℕ → List ℕ → Type 0 where
    all_equal : {bs cs : List ℕ} → IsAtLeast [] bs cs
    first_above : {t : Compared} {ts : List Compared} (l r bs cs : List ℕ) (us : List Compared) → FrontsOf t l r Greater us → IsAtLeast (t ∷ ts) (l ++ bs) (r ++ cs)
    first_equal : {t : Compared} {ts : List Compared} {bs cs : List ℕ} (l r : List ℕ) (us : List Compared) → FrontsOf t l r Equal us → IsAtLeast (us ++ ts) bs cs → IsAtLeast (t ∷ ts) (l ++ bs) (r ++ cs)
