-- Where a walk over the bytes of a value is, and what its steps find.
use Rattle.std.specs.Prelude.{◌≡◌, ◌≢◌, AllPairs, ℕ, ℤ, slice_get, Bool, true, false, suc, zero, ◌+◌, ◌*◌, ◌≤◌, ◌<◌, ◌^◌, List, [], ◌∷◌, ◌++◌, length, take, drop, replicate, sum_by, Option, Some, None, MatchOption, get_or, ⊤, ◌⊎◌, ◌-◌, reverse}
use Rattle.std.specs.{Borrow.Bor, BTreeMap.btree_map_len, BTreeMap.get_by_text}
use Rattle.borsh_walks.specs.Container.{Shape, sequence, product, choice, tag, IsIn, Member, references, IsZeroSize, IsDefined, Members, Reached}
use Rattle.borsh_walks.specs.{RulesAnswer.KeepsWidths, RulesAnswer.IsWidth, Definitions.shape_of, declared.definition.Definition.Definition}
use Rattle.borsh_walks.proofs.Measure.{work}
use Rattle.borsh_plan.specs.Names.{name_at, shape_at, parts_in}
use Rattle.borsh_plan.specs.Plan.{definitions_of, map_of, names_of, root_of}
use Rattle.borsh_plan.specs.{declared.named.Named.Named, declared.plan.Plan.Plan}
use Rattle.borsh_plan.proofs.Laws.{place}
use Rattle.borsh_values.specs.declared.frames.Opened.TheVariants.{Undecided as Unopened, Refused, Taken}
use Rattle.borsh_values.specs.declared.cursor.Event.TheVariants.{Open, Pass, Close, End, Fault, Undecided}
use Rattle.borsh_values.specs.Membership.{BeginsWith, Refuses, Why, StopsAt, IsUndecided}
use Rattle.borsh_values.specs.declared.{faults.Reason.TheVariants.TooShort, faults.Reason.Reason, frames.Step.Step, frames.Rest.Rest, frames.Rest.TheVariants.Copies, frames.Rest.TheVariants.Parts, frames.Frame.Frame, frames.Opened.Opened, frames.Mark.Mark, frames.Mark.TheVariants.Empty, frames.Mark.TheVariants.Open as IsOpen, fronts.Front.Front, fronts.Front.TheVariants.Value, fronts.Front.TheVariants.Ambiguous, cursor.Cursor.Cursor, cursor.Event.Event}
use Rattle.borsh_values.specs.{Unambiguous.UnambiguousShape, Nodes.Opens, Nodes.Reads, Tags.AreTagTables}

-- the names that are still to be read, of those of a plan
abbrev pub remaining : List Named → Rest → List (List ℕ)
remaining ns (Copies at k) = replicate k (name_at ns at)
remaining ns (Parts at i) = drop i (parts_in (shape_at ns at))

-- at most how many steps of the loop are left at the frame without opening a name
abbrev pub step_count : List Named → Rest → ℕ
step_count ns (Copies at zero) = 1
step_count ns (Copies at (suc k)) = 2
step_count ns (Parts at i) = suc (length (drop i (parts_in (shape_at ns at))))

-- the place is one of the plan
abbrev pub Fits : List Named → Rest → Type 0
Fits ns (Copies at k) = at < length ns
Fits ns (Parts at i) = at < length ns

-- the next name, and what follows it
pub record StepsOn (ns : List Named) (r : Rest) (s : Step) : Type 0 where
  pub within : s.at < length ns
  pub fits : Fits ns s.others
  pub parts : remaining ns r ≡ name_at ns s.at ∷ remaining ns s.others
  -- after one part of a definition fewer steps are left
  pub moves : (at i : ℕ) → r ≡ Parts at i → step_count ns s.others < step_count ns r
  pub steps : step_count ns s.others ≤ step_count ns r

-- what follows all copies of the next name
abbrev pub past_copies : Rest → Step → Rest
past_copies (Copies at k) s = Copies s.at 0
past_copies (Parts at i) s = s.others

-- the names that are still to be read, those of the last frame first
abbrev pub pending : List Named → List Frame → List (List ℕ)
pending ns [] = []
pending ns (f ∷ fs) = remaining ns f.rest ++ pending ns fs

-- each frame has places of the plan
abbrev pub AllFit : List Named → List Frame → Type 0
AllFit ns [] = ⊤
AllFit ns (f ∷ fs) = (f.at < length ns) × Fits ns f.rest × AllFit ns fs

-- the mark at a place, if there is one
abbrev pub mark_at : List (Option Mark) → Option ℕ → Option Mark
mark_at ms None = None
mark_at ms (Some i) = get_or ms i None

-- names without which a definition that takes no byte has no member
abbrev pub required_by : Shape → List (List ℕ)
required_by (sequence zero (suc lo) hi e) = e ∷ []
required_by (product ps) = ps
required_by (choice zero (v ∷ [])) = v.1 ∷ []
required_by d = []

-- the empty list is a member of the name, and none else is, since the name is of zero size
abbrev pub OnlyEmpty : (List ℕ → Option Shape) → List ℕ → Type 0
OnlyEmpty C x = Member C x [] × IsZeroSize C x

abbrev pub AllOnlyEmpty : (List ℕ → Option Shape) → List (List ℕ) → Type 0
AllOnlyEmpty C ps = (p : List ℕ) → IsIn p ps → OnlyEmpty C p

-- bytes that begin with own begin with no other own bytes of the definition, and with no other parts
abbrev pub OpensOnce : (List ℕ → Option Shape) → Shape → List ℕ → List (List ℕ) → Type 0
OpensOnce C d own ns = (b : List ℕ) (ms : List (List ℕ)) (r s : List ℕ) → Opens C d b ms → b ++ r ≡ own ++ s → (b ≡ own) × (r ≡ s) × (ms ≡ ns)

-- no two variants of an enum have the tag that these own bytes are
abbrev pub HasOneTag : Shape → List ℕ → Type 0
HasOneTag (choice w vs) own = (m n : ℕ) (j k : ℤ) (p q : List ℕ) → slice_get vs m ≡ Some (j, p) → slice_get vs n ≡ Some (k, q) → tag w j ≡ own → tag w k ≡ own → m ≡ n
HasOneTag d own = ⊤

-- no member of the name begins with the bytes, nor with these and more, unless the reason is that they are too few
abbrev pub NoneBegins : (List ℕ → Option Shape) → Reason → List ℕ → List ℕ → Type 0
NoneBegins C r x bytes = (more : List ℕ) → (r ≡ TooShort → more ≡ []) → BeginsWith C x (bytes ++ more) → ⊥

-- a name with the definition d is read from bytes as n bytes and then the names ns
pub record Takes (C : List ℕ → Option Shape) (d : Shape) (bytes : List ℕ) (n : ℕ) (ns : List (List ℕ)) : Type 0 where
  -- there are n bytes
  pub within : n ≤ length bytes
  -- where no byte is taken and none is in ns, the name has the empty member alone
  pub only_empty : n ≡ 0 → (x : List ℕ) → C x ≡ Some d → AllOnlyEmpty C ns → OnlyEmpty C x
  -- the n bytes are those that the definition encodes before its parts ns, and no other bytes are
  pub opens : Opens C d (take n bytes) ns
  pub once : OpensOnce C d (take n bytes) ns
  pub alone : HasOneTag d (take n bytes)
  -- the names are written in the definition
  pub mentioned : (p : List ℕ) → IsIn p ns → IsIn p (references d)
  -- where no byte is taken, they are required
  pub needs : n ≡ 0 → (p : List ℕ) → IsIn p ns → IsIn p (required_by d)

-- what an opened definition takes from the bytes, or that no member begins here, or that the definition is ambiguous or breaks a rule of widths
abbrev pub OpensAs : (List ℕ → Option Shape) → List Named → Shape → List ℕ → Opened → Type 0
OpensAs C ns d bytes Unopened = UnambiguousShape d → KeepsWidths d → ⊥
OpensAs C ns d bytes (Refused r) = ((x : List ℕ) → C x ≡ Some d → NoneBegins C r x bytes) × Refuses C r d bytes
OpensAs C ns d bytes (Taken n r) = Takes C d bytes n (remaining ns r) × (step_count ns r ≤ 2 + length (references d)) × Fits ns r

-- what k elements at a place of the plan take behind w bytes of all, where each has m bytes that are listed with their sequence
abbrev pub TakesElements : List Named → ℕ → ℕ → ℕ → ℕ → ℕ → Opened → Type 0
TakesElements ns m e k w all Unopened = ⊥
TakesElements ns m e k w all (Refused r) = (r ≡ TooShort) × (all < w + k * m)
TakesElements ns zero e k w all (Taken n r) = (n ≡ w) × (remaining ns r ≡ replicate k (name_at ns e)) × (step_count ns r ≤ 3) × Fits ns r
TakesElements ns (suc m) e k w all (Taken n r) = (n ≡ w + k * suc m) × (n ≤ all) × (remaining ns r ≡ []) × (step_count ns r ≤ 3) × Fits ns r

-- what the mark of a name says where n bytes are left
abbrev pub KnownAs : Option Mark → ℕ → Option Mark → Type 0
KnownAs o n None = (o ≡ Some Empty → ⊥) × (o ≡ Some (IsOpen n) → ⊥)
KnownAs o n (Some Empty) = o ≡ Some Empty
KnownAs o n (Some (IsOpen m)) = o ≡ Some (IsOpen n)

-- whether a count of w bytes, up to hi, keeps the rules of widths; where it does, hi is below 256 ^ w
abbrev pub FitsWidth : ℕ → ℕ → Bool → Type 0
FitsWidth w hi true = (w ≤ 8) × (0 < w) × (hi < 256 ^ w)
FitsWidth w hi false = IsWidth w hi → w ≡ 0

-- the name is open since o bytes were left
abbrev pub On : List Named → List ℕ → ℕ → List Frame → Type 0
On ns x o [] = ⊥
On ns x o (f ∷ fs) = ((name_at ns f.at ≡ x) × (f.start ≡ o)) ⊎ On ns x o fs

module _ (C : List ℕ → Option Shape) where
  -- a member of the root that begins as these bytes do is they and members of the names ps, whatever follows
  pub record Begun (root done : List ℕ) (ps : List (List ℕ)) : Type 0 where
    pub forth : (xs ys zs : List ℕ) → Member C root xs → xs ++ ys ≡ done ++ zs → (us : List ℕ) × Members C ps us × (zs ≡ us ++ ys)
    pub back : (us : List ℕ) → Members C ps us → Member C root (done ++ us)
    pub reads : Reads C (root ∷ []) done ps

  -- a name x that waits for these names, since `start` bytes were left; where o bytes are left, it has taken none if these are as many
  pub record Waits (o start : ℕ) (x : List ℕ) (next : List (List ℕ)) : Type 0 where
    pub low : o ≤ start
    pub only_empty : start ≡ o → AllOnlyEmpty C next → OnlyEmpty C x
    pub needs : start ≡ o → (d : Shape) × (C x ≡ Some d) × ((p : List ℕ) → IsIn p next → IsIn p (required_by d)) × (qs : List (List ℕ)) × Opens C d [] qs × Reads C qs [] next

module _ (C : List ℕ → Option Shape) (ns : List Named) where
  -- so the names of the frames, each for the one above it, of which y is the last, and was opened with s bytes left
  abbrev pub Chain : ℕ → List Frame → List ℕ → ℕ → Type 0
  Chain o [] y s = ⊤
  Chain o (f ∷ fs) y s = Waits C o f.start (name_at ns f.at) (y ∷ remaining ns f.rest) × (f.start ≡ o → s ≡ o) × Chain o fs (name_at ns f.at) f.start

  -- of the bytes those in done are read, and rest is left
  pub record Walk (root done : List ℕ) (T : List ℕ → Option Mark) (fs : List Frame) (f : Frame) (rest : List ℕ) (L : List (List ℕ)) : Type 0 where
    pub begun : Begun C root done (pending ns (f ∷ fs))
    pub reached : (x : List ℕ) → IsIn x (pending ns (f ∷ fs)) → Reached C root x
    pub empty : (x : List ℕ) → T x ≡ Some Empty → OnlyEmpty C x
    pub here : (x : List ℕ) → T x ≡ Some (IsOpen (length rest)) → On ns x (length rest) (f ∷ fs)
    pub past : (x : List ℕ) (n : ℕ) → T x ≡ Some (IsOpen n) → length rest ≤ n
    pub top : Waits C (length rest) f.start (name_at ns f.at) (remaining ns f.rest)
    pub chain : Chain (length rest) fs (name_at ns f.at) f.start
    pub distinct : AllPairs ◌≢◌ L
    pub defined : (x : List ℕ) → IsIn x L → IsDefined C x
    pub marked : (x : List ℕ) → IsIn x L → (T x ≡ Some Empty) ⊎ (T x ≡ Some (IsOpen (length rest)))

-- what is left of the names and of the bytes, and what is known of the names
pub record Going (l : Plan) (done : List ℕ) (ms : List (Option Mark)) (fs : List Frame) (f : Frame) (rest : List ℕ) (idle : ℕ) : Type 0 where
  -- the names that were begun since the last byte
  pub names : List (List ℕ)
  pub state : Walk (definitions_of l) (names_of l) (root_of l) done (λ x. mark_at ms (place l x)) fs f rest names
  pub count : length names ≡ idle
  pub long : length ms ≡ length (names_of l)
  pub fits : AllFit (names_of l) (f ∷ fs)

-- the bytes before those that are left
abbrev pub before : List ℕ → List ℕ → List ℕ
before bytes left = take (length bytes - length left) bytes

-- of the bytes those before the ones that are left are read, and of the names those of the frames are left
pub record IsCursor (c : Cursor) : Type 0 where
  pub going : Going c.plan.now (before c.bytes.now c.left.now) c.marks.items (reverse c.stack.items) c.frame c.left.now c.idle
  pub within : length c.left.now ≤ length c.bytes.now
  pub suffix : c.left.now ≡ drop (length c.bytes.now - length c.left.now) c.bytes.now
  pub tables : AreTagTables (definitions_of c.plan.now) c.tables

-- all bytes are a member of the root; a type can keep only that there is a proof of it, ∥ IsInValue c ∥₁
pub record IsInValue (c : Cursor) : Type 0 where
  pub cursor : IsCursor c
  pub member : Member (definitions_of c.plan.now) (root_of c.plan.now) c.bytes.now

-- the innermost value that is read, and those around it
abbrev pub frames : Cursor → List Frame
frames c = c.frame ∷ reverse c.stack.items

-- ---- at most so many steps are left
abbrev pub steps_of : List Named → List Frame → ℕ
steps_of ns fs = sum_by (λ f. step_count ns f.rest) fs

-- for each byte, each definition may be opened once
abbrev pub opens : ℕ → ℕ → ℕ → ℕ
opens D len idle = len * suc D + (D - idle)

abbrev pub steps_left : Cursor → ℕ
steps_left c = (3 + work references (map_of c.plan.now).entries) * opens (btree_map_len (map_of c.plan.now)) (length c.left.now) c.idle + steps_of (names_of c.plan.now) (frames c)

-- ---- steps
abbrev pub name_in : Cursor → ℕ → List ℕ
name_in c at = name_at (names_of c.plan.now) at

-- the names that are still to be read
abbrev pub pending_names : Cursor → List (List ℕ)
pending_names c = pending (names_of c.plan.now) (frames c)

-- the plan and all bytes stay
abbrev pub Stays : Cursor → Cursor → Type 0
Stays old new = (new.plan ≡ old.plan) × (new.bytes ≡ old.bytes)

abbrev pub Moves : Cursor → Cursor → Type 0
Moves old new = steps_left new < steps_left old

-- the definition of the name at the place takes so many of the bytes that are left, and then these parts
pub record IsOpenable (c : Cursor) (at : ℕ) (d : Definition) (n : ℕ) (r : Rest) : Type 0 where
  pub shape : shape_at (names_of c.plan.now) at ≡ Some (shape_of d)
  pub defined : get_by_text (map_of c.plan.now) (name_in c at) ≡ Some d
  pub opens : OpensAs (definitions_of c.plan.now) (names_of c.plan.now) (shape_of d) c.left.now (Taken n r)

-- no value of the name x, which comes next, begins at the bytes that are left, and so none of the root begins
pub record IsStopped (C : List ℕ → Option Shape) (root done left x : List ℕ) (r : Reason) : Type 0 where
  pub others : List (List ℕ)
  pub reached : Reached C root x
  pub next : Reads C (root ∷ []) done (x ∷ others)
  pub why : Why C r x left
  pub deny : NoneBegins C r x left
  pub no : NoneBegins C r root (done ++ left)

-- a value of the name at the place, which has the definition, begins with these own bytes, and its parts come next
pub record IsBegun (old new : Cursor) (at : ℕ) (d : Definition) (own : List ℕ) : Type 0 where
  pub within : at < length (names_of old.plan.now)
  pub bytes : old.left.now ≡ own ++ new.left.now
  pub defined : get_by_text (map_of old.plan.now) (name_in old at) ≡ Some d
  pub parts : Rest
  pub others : Rest
  pub opened : Opens (definitions_of old.plan.now) (shape_of d) own (remaining (names_of old.plan.now) parts)
  pub before : remaining (names_of old.plan.now) old.frame.rest ≡ name_in old at ∷ remaining (names_of old.plan.now) others
  -- it is the innermost, but may be left out where it has no parts
  pub after : let around = record old.frame { rest = others } ∷ reverse old.stack.items in
      (frames new ≡ record { at = at; start = length old.left.now; rest = parts } ∷ around) ⊎ ((remaining (names_of old.plan.now) parts ≡ []) × (frames new ≡ around))

-- copies of the name at the place are passed, without a byte
pub record PassesCopies (old new : Cursor) (x : List ℕ) : Type 0 where
  pub left : new.left ≡ old.left
  pub count : ℕ
  pub others : Rest
  pub names : remaining (names_of old.plan.now) old.frame.rest ≡ replicate (suc count) x ++ remaining (names_of old.plan.now) others
  pub after : frames new ≡ record old.frame { rest = others } ∷ reverse old.stack.items
  pub moves : Moves old new

-- what a step finds, and where it leads
abbrev pub Happens : Cursor → Cursor → Event → Type 0
Happens old new (Open at d own) = IsBegun old new at d.now own.now × Moves old new
Happens old new (Pass at) = PassesCopies old new (name_in old at)
Happens old new Close = (new.left ≡ old.left) × (remaining (names_of old.plan.now) old.frame.rest ≡ []) × (frames new ≡ reverse old.stack.items) × Moves old new
Happens old new End = (new.left ≡ old.left) × (pending_names old ≡ [])
Happens old new (Fault at r) = new.left ≡ old.left
Happens old new (Undecided at) = (new.left ≡ old.left) × IsUndecided (definitions_of old.plan.now) (root_of old.plan.now) (name_in old at)

-- what that shows of the bytes that are left: a name that is passed has the empty member alone, and a fault is true
abbrev pub Shows : Cursor → Event → Type 0
Shows c (Pass at) = OnlyEmpty (definitions_of c.plan.now) (name_in c at)
Shows c (Fault at r) = IsStopped (definitions_of c.plan.now) (root_of c.plan.now) (before c.bytes.now c.left.now) c.left.now (name_in c at) r
Shows c e = ⊤

-- a value that begins isn't one of a name of zero size
abbrev pub OpensFull : Cursor → Event → Type 0
OpensFull c e = (at : ℕ) (d : Bor Definition) (own : Bor (List ℕ)) → e ≡ Open at d own → IsZeroSize (definitions_of c.plan.now) (name_in c at) → ⊥

-- the answer of an event, if it is the last
abbrev pub IsAnswerOf : Cursor → Event → Option Front → Type 0
IsAnswerOf c End o = o ≡ Some (Value (length c.bytes.now - length c.left.now))
IsAnswerOf c (Fault at r) o = MatchOption o ⊥ (λ a. StopsAt (length c.bytes.now) (length c.left.now) (name_in c at) r a)
IsAnswerOf c (Undecided at) o = (x : Bor (List ℕ)) × (o ≡ Some (Ambiguous x)) × (x.now ≡ name_in c at)
IsAnswerOf c e o = o ≡ None
