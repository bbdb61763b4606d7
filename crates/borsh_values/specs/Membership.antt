-- What is answered of bytes: whether they are a value, how they begin, and where and why they stop being one.
use Rattle.std.specs.{Prelude.{◌≡◌, ℕ, ◌+◌, ◌*◌, ◌≤◌, ◌<◌, ℤ, pos, List, [], ◌∷◌, ◌++◌, length, take, drop, Option, Some, None, Result, IfOk, ◌-◌}, Borrow.{Bor}}
use Rattle.borsh_walks.specs.{Container.{Shape, primitive, sequence, choice, IsListedVariant, tag, Member, Reached, IsValid}, RulesAnswer.{KeepsWidths}}
use Rattle.borsh_values.specs.{declared.faults.Reason.TheVariants.{BytesLeft, TooShort, Count, Tag, MissingDefinition, Recursive}, declared.members.Membership.TheVariants.{Member as IsMember, NoMember, Ambiguous}, declared.fronts.Front.TheVariants.{Value, TooShort as ShortFront, NoMember as NoFront, Ambiguous as Unclear}, Nodes.{packed_size, Opens, Reads}, declared.{faults.Fault.Fault, faults.Reason.Reason, members.Membership.Membership, fronts.Front.Front}, Unambiguous.{UnambiguousShape, IsUnambiguous}}

module _ (C : List ℕ → Option Shape) where
  -- some of the first bytes, or all, are a member of the name
  abbrev pub BeginsWith : List ℕ → List ℕ → Type 0
  BeginsWith x bytes = (xs : List ℕ) × (ys : List ℕ) × Member C x xs × (bytes ≡ xs ++ ys)

  -- why a definition doesn't go with the bytes
  pub data Refuses : Reason → Shape → List ℕ → Type 0 where
    -- it takes more: as a primitive, for its count, for the elements that are listed with that, or for its tag
    few_for_primitive : {n : ℕ} {bytes : List ℕ} → length bytes < n → Refuses TooShort (primitive n) bytes
    few_for_count : {w lo hi : ℕ} {e bytes : List ℕ} → length bytes < w → Refuses TooShort (sequence w lo hi e) bytes
    few_for_elements : {w lo hi : ℕ} {e bytes : List ℕ} (k : ℕ) → tag w (pos k) ≡ take w bytes → lo ≤ k → k ≤ hi → length bytes < w + k * packed_size (C e) → Refuses TooShort (sequence w lo hi e) bytes
    few_for_tag : {w : ℕ} {vs : List (ℤ × List ℕ)} {bytes : List ℕ} → length bytes < w → Refuses TooShort (choice w vs) bytes
    -- the first bytes are no number of elements that the sequence may have
    other_count : {w lo hi : ℕ} {e bytes : List ℕ} → w ≤ length bytes → ((k : ℕ) → lo ≤ k → k ≤ hi → tag w (pos k) ≡ take w bytes → ⊥) → Refuses Count (sequence w lo hi e) bytes
    -- the first bytes are the tag of no variant of the enum
    other_tag : {w : ℕ} {vs : List (ℤ × List ℕ)} {bytes : List ℕ} → w ≤ length bytes → ((k : ℤ) (p : List ℕ) → IsListedVariant k p vs → tag w k ≡ take w bytes → ⊥) → Refuses Tag (choice w vs) bytes

  -- where the name x is opened, the name y comes next before any byte
  abbrev pub LeadsTo : List ℕ → List ℕ → Type 0
  LeadsTo x y = (d : Shape) × (ns : List (List ℕ)) × (others : List (List ℕ)) × (C x ≡ Some d) × Opens C d [] ns × Reads C ns [] (y ∷ others)

  -- why no member of the name begins at the bytes that are left: it has no definition, it leads back to itself before any byte, or its
  -- definition doesn't go with them
  abbrev pub Why : Reason → List ℕ → List ℕ → Type 0
  Why MissingDefinition name left = C name ≡ None
  Why Recursive name left = LeadsTo name name
  Why r name left = (d : Shape) × (C name ≡ Some d) × Refuses r d left

  module _ (root bytes : List ℕ) where
    -- so at an offset, or the bytes before it are a value of the root and others are left
    abbrev pub IsWhy : Reason → ℕ → List ℕ → Type 0
    IsWhy BytesLeft offset name = (offset < length bytes) × (name ≡ root) × Member C root (take offset bytes)
    IsWhy r offset name = Why r name (drop offset bytes)

    -- the bytes before the offset are read of the root, the name comes next, and no member of it begins there
    pub record Stops (offset : ℕ) (name : List ℕ) : Type 0 where
      pub others : List (List ℕ)
      pub next : Reads C (root ∷ []) (take offset bytes) (name ∷ others)
      pub none : BeginsWith name (drop offset bytes) → ⊥

    -- a fault is where it says, of a name that is reached, and for its reason
    pub record IsFault (f : Fault) : Type 0 where
      pub within : f.offset ≤ length bytes
      pub reached : Reached C root f.name.now
      pub why : IsWhy f.reason f.offset f.name.now
      pub stops : (f.reason ≡ BytesLeft → ⊥) → Stops f.offset f.name.now

-- a name that is reached, and whose definition is ambiguous or breaks a rule of widths
abbrev pub IsUndecided : (List ℕ → Option Shape) → List ℕ → List ℕ → Type 0
IsUndecided C root x = (d : Shape) × Reached C root x × (C x ≡ Some d) × (UnambiguousShape d → KeepsWidths d → ⊥)

-- a name that is reached, and whose definition is ambiguous
abbrev pub IsAmbiguousName : (List ℕ → Option Shape) → List ℕ → List ℕ → Type 0
IsAmbiguousName C root x = (d : Shape) × Reached C root x × (C x ≡ Some d) × (UnambiguousShape d → ⊥)

module _ (C : List ℕ → Option Shape) (root bytes : List ℕ) where
  -- each answer is right
  abbrev pub IsAnswer : Membership → Type 0
  IsAnswer IsMember = Member C root bytes
  IsAnswer (NoMember f) = (Member C root bytes → ⊥) × IsFault C root bytes f
  IsAnswer (Ambiguous x) = IsUndecided C root x.now

  -- the answer is right, and is yes or no where the container is valid and unambiguous
  pub record AnswersMembership {E : Type 0} (result : Result Membership E) : Type 0 where
    -- an answer is right
    pub answer : IfOk result (λ a. IsAnswer a)
    -- a container that is valid and unambiguous gets yes or no
    pub decided : IsValid C root → IsUnambiguous C root → IfOk result (λ a. (x : Bor (List ℕ)) → a ≡ Ambiguous x → ⊥)

-- the fault is of the name and the reason, where so many of all bytes are left
abbrev pub IsFaultAt : ℕ → ℕ → List ℕ → Reason → Fault → Type 0
IsFaultAt all left name reason f = (f.offset ≡ all - left) × (f.name.now ≡ name) × (f.reason ≡ reason)

-- the answer is such a fault, and says whether more bytes may help
abbrev pub StopsAt : ℕ → ℕ → List ℕ → Reason → Front → Type 0
StopsAt all left name reason (ShortFront f) = IsFaultAt all left name reason f × (reason ≡ TooShort)
StopsAt all left name reason (NoFront f) = IsFaultAt all left name reason f × (reason ≡ TooShort → ⊥)
StopsAt all left name reason a = ⊥

module _ (C : List ℕ → Option Shape) (root bytes : List ℕ) where
  -- the first n bytes are a member, and no other front is, whatever bytes follow
  pub record IsFront (n : ℕ) : Type 0 where
    pub within : n ≤ length bytes
    pub member : Member C root (take n bytes)
    pub only : (xs ys more : List ℕ) → Member C root xs → xs ++ ys ≡ bytes ++ more → xs ≡ take n bytes

  -- no front of the bytes is a member, and the fault says where they stop being one
  pub record HasNoFront (f : Fault) : Type 0 where
    pub none : BeginsWith C root bytes → ⊥
    pub fault : IsFault C root bytes f
    pub stops : f.reason ≡ BytesLeft → ⊥

module _ (C : List ℕ → Option Shape) (root bytes : List ℕ) where
  -- each answer is right: where no front is a member, none is whatever bytes follow, unless the bytes are too short
  abbrev pub IsFrontAnswer : Front → Type 0
  IsFrontAnswer (Value n) = IsFront C root bytes n
  IsFrontAnswer (ShortFront f) = HasNoFront C root bytes f × (f.reason ≡ TooShort)
  IsFrontAnswer (NoFront f) = (more : List ℕ) → HasNoFront C root (bytes ++ more) f
  IsFrontAnswer (Unclear x) = IsUndecided C root x.now

  -- the answer is right, and a container that is valid and unambiguous gets one
  pub record AnswersFront {E : Type 0} (result : Result Front E) : Type 0 where
    pub answer : IfOk result (λ a. IsFrontAnswer a)
    pub decided : IsValid C root → IsUnambiguous C root → IfOk result (λ a. (x : Bor (List ℕ)) → a ≡ Unclear x → ⊥)
