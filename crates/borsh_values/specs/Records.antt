-- Values one after another, as a reader gives them.
use Rattle.std.specs.Prelude.{◌≡◌, ℕ, ◌<◌, List, [], ◌∷◌, ◌++◌, length, Option, ⊤, ◌+◌, ◌*◌, ◌-◌, ◌^◌, ◌≤◌, Bool, true, false, take, drop, min, Result, Ok, Err, IfErr}
use Rattle.std.specs.{Io.KnownBytes.IsAtEnd, Borrow.Bor}
use Rattle.borsh_io.specs.Buffered.{Lost, IsUnread, held, most_at_once, piece, reader_of}
use Rattle.borsh_io.specs.{Stream.ReaderState, declared.error.Error.Error}
use Rattle.borsh_walks.specs.Container.{Shape, Member}
use Rattle.borsh_plan.specs.declared.plan.Plan.{Plan}
use Rattle.borsh_values.specs.declared.records.RecordError.TheVariants.{NoMember, CutShort, TooLong, EmptyValue, Ambiguous, Reader, OutOfMemory}
use Rattle.borsh_values.specs.Membership.{BeginsWith, HasNoFront, IsUndecided}
use Rattle.borsh_values.specs.declared.{records.Records.Records, records.RecordError.RecordError}

module _ (C : List ℕ → Option Shape) (root : List ℕ) where
  -- the bytes are these values of the root, one after another
  abbrev pub AreValues : List (List ℕ) → List ℕ → Type 0
  AreValues [] bytes = bytes ≡ []
  AreValues (v ∷ vs) bytes = (left : List ℕ) × Member C root v × (bytes ≡ v ++ left) × AreValues vs left

  -- the bytes begin with the value v, and others are left: whatever values they are, v is the first
  pub record IsFirst (v bytes left : List ℕ) : Type 0 where
    pub member : Member C root v
    pub some : 0 < length v
    pub split : bytes ≡ v ++ left
    pub only : (vs : List (List ℕ)) → AreValues vs bytes → (others : List (List ℕ)) × (vs ≡ v ∷ others) × AreValues others left

abbrev pub value_of : {R : Type 0} → Records R → List ℕ
value_of r = piece r.input

-- the bytes that were read and are of no value before
abbrev pub ahead : {R : Type 0} → Records R → List ℕ
ahead r = held r.input

-- where the next value begins, in bytes from the first one
abbrev pub next_offset : {R : Type 0} → Records R → ℕ
next_offset r = r.next

-- how many bytes a value has at most
abbrev pub limit_of : {R : Type 0} → Records R → ℕ
limit_of r = r.limit

abbrev pub source_of : {R : Type 0} → Records R → R
source_of r = reader_of r.input

-- how many bytes are ahead and may still be read: a number that falls with each value, so that a loop over the values ends
abbrev pub turns_left : {R : Type 0} → (R → ReaderState) → Records R → ℕ
turns_left state r = most_at_once * (state (source_of r)).reads_left + length (ahead r)

abbrev pub TurnsFall : {R : Type 0} → (R → ReaderState) → Records R → Records R → Result Bool RecordError → Type 0
TurnsFall state old new result = result ≡ Ok true → turns_left state new < turns_left state old

-- the plan, by which the values are known
abbrev pub plan_of : {R : Type 0} → Records R → Bor Plan
plan_of r = r.plan

-- the root, its definitions and the limit stay
abbrev pub SameRoot : {R : Type 0} → Records R → Records R → Type 0
SameRoot old new = (new.plan ≡ old.plan) × (new.limit ≡ old.limit)

-- the first n bytes are the first value, whatever follows the bytes
pub record IsFirstOf (C : List ℕ → Option Shape) (root : List ℕ) (n : ℕ) (bytes : List ℕ) : Type 0 where
  pub within : n ≤ length bytes
  pub first : (more : List ℕ) → IsFirst C root (take n bytes) (bytes ++ more) (drop n bytes ++ more)

-- why a root is refused: it has the empty value, or is undecided
abbrev pub IsRootError : (List ℕ → Option Shape) → List ℕ → RecordError → Type 0
IsRootError C root EmptyValue = Member C root []
IsRootError C root (Ambiguous x) = IsUndecided C root x.now
IsRootError C root OutOfMemory = ⊤
IsRootError C root e = ⊥

module _ (C : List ℕ → Option Shape) (root bytes : List ℕ) (at limit : ℕ) where
  -- the error is true of the bytes, which begin at that offset; `ended` holds where no others follow, and `unread` where none could be read
  abbrev pub IsRecordError : Type 0 → (Error → Type 0) → RecordError → Type 0
  IsRecordError ended unread (NoMember o f) = (o ≡ at) × ((more : List ℕ) → HasNoFront C root (bytes ++ more) f)
  IsRecordError ended unread (CutShort o f) = (o ≡ at) × HasNoFront C root bytes f × (bytes ≡ [] → ⊥) × ended
  IsRecordError ended unread (TooLong o) = (o ≡ at) × (limit ≤ length bytes) × (BeginsWith C root (take limit bytes) → ⊥)
  IsRecordError ended unread (Reader e) = unread e
  IsRecordError ended unread e = IsRootError C root e

  -- v is the first value of the bytes, whatever follows them, and others are left; or none is found, where `nothing` holds, or an error returned, and all are left
  pub record GoesOn (nothing ended : Type 0) (unread : Error → Type 0) (v left : List ℕ) (after : ℕ) (result : Result Bool RecordError) : Type 0 where
    pub found : result ≡ Ok true → (more : List ℕ) → IsFirst C root v (bytes ++ more) (left ++ more)
    pub short : result ≡ Ok true → length v ≤ limit
    pub next : result ≡ Ok true → after ≡ min (at + length v) (2 ^ 64 - 1)
    pub none : result ≡ Ok false → nothing
    pub error : IfErr result (λ e. IsRecordError ended unread e)
    pub kept : (result ≡ Ok true → ⊥) → (left ≡ bytes) × (after ≡ at)

-- an error of the reader is passed on, and no other has one
abbrev pub FaultsAre : ReaderState → ReaderState → Result Bool RecordError → Type 0
FaultsAre before after (Err (Reader e)) = IsUnread before after e
FaultsAre before after result = after.faults ≡ before.faults

-- the next value of the bytes that are ahead or still to come; none only where there are no such bytes
pub record AdvancesFrom {R : Type 0} (C : List ℕ → Option Shape) (root : List ℕ) (state : R → ReaderState) (source : R) (waiting : List ℕ) (at limit : ℕ) (new : Records R) (result : Result Bool RecordError) : Type 0 where
  -- the bytes that were read
  pub read : List ℕ
  pub lost : Lost (state source) (state (source_of new)) read
  pub faults : FaultsAre (state source) (state (source_of new)) result
  pub goes : (let bytes = waiting ++ read in
      GoesOn C root bytes at limit ((bytes ≡ []) × IsAtEnd (state (source_of new)).bytes) (IsAtEnd (state (source_of new)).bytes)
      (IsUnread (state source) (state (source_of new))) (value_of new) (ahead new) (next_offset new) result)

abbrev pub Advances : {R : Type 0} → (List ℕ → Option Shape) → List ℕ → (R → ReaderState) → Records R → Records R → Result Bool RecordError → Type 0
Advances C root state old new result = AdvancesFrom C root state (source_of old) (ahead old) (next_offset old) (limit_of old) new result

-- the next value of the bytes that are ahead, if it is whole there; nothing is read
pub record AdvancesHeld {R : Type 0} (C : List ℕ → Option Shape) (root : List ℕ) (old new : Records R) (none ended : Type 0) (result : Result Bool RecordError) : Type 0 where
  pub reader : source_of new ≡ source_of old
  pub goes : GoesOn C root (ahead old) (next_offset old) (limit_of old) none ended (λ e. ⊥) (value_of new) (ahead new) (next_offset new) result
