-- The steps of a cursor, and its folds.
use Rattle.std.proofs.Common.{◌≡◌, ℕ, suc, ◌+◌, ◌-◌, ◌<◌, ◌≤◌, List, [], ◌∷◌, ◌++◌, length, take, drop, reverse, replicate, set, get_or, Some, None, refl, sym, ◌∙◌, ap, subst, take-append-drop, append-nil, Ok, zero, arith, length-append, ◌⊎◌, inl, inr}
use Rattle.std.specs.Prelude.{Err, IfOk, Option, Vec, Result, leb, false, map, option_to_list, slice_get}
use Rattle.std.proofs.lemmas.List.{length-map, length-reverse}
use Rattle.std.proofs.lemmas.Bool.{le-leb, lt-leb}
use Rattle.std.proofs.Math.Logic.{∥∥₁_elim, ∥∥₁_map}
use Rattle.std.specs.{Borrow.Bor, Global.Global, BTreeMap.btree_map_len, BTreeMap.get_by_text, Coded.Coded-set, Coded.le_prop}
use Rattle.borsh_walks.specs.declared.definition.Definition.{Definition}
use Rattle.borsh_walks.specs.Container.{IsZeroSize, Member, Members, Reached, Shape}
use Rattle.borsh_walks.specs.Definitions.{shape_of}
use Rattle.borsh_values.specs.declared.cursor.Event.TheVariants.{Open as AtOpen, Pass as AtPass, Close as AtClose, End as AtEnd, Fault as AtFault, Undecided as AtUndecided}
use Rattle.borsh_values.specs.declared.{cursor.Cursor.Cursor, cursor.Event.Event, faults.PathStep.PathStep, faults.Reason.Reason, faults.Reason.TheVariants.Recursive as IsRecursive, frames.Frame.Frame, frames.Rest.Rest, frames.Rest.TheVariants.Copies, frames.Rest.TheVariants.Parts, frames.Step.Step, frames.Mark.Mark, frames.Mark.TheVariants.Empty, frames.Mark.TheVariants.Open, runs.Passed.Passed, fronts.Front.Front, fronts.Front.TheVariants.Value, fronts.Front.TheVariants.Ambiguous, nodes.Node.Node, preorder.Preorder.Preorder}
use Rattle.borsh_plan.specs.Plan.{definitions_of, map_of, names_of, root_of}
use Rattle.borsh_plan.specs.Names.{found_definition, name_at, name_of}
use Rattle.borsh_plan.specs.declared.plan.Plan.{Plan}
use Rattle.borsh_walks.proofs.Laws.{zero_member}
use Rattle.borsh_walks.proofs.Propositions.{coded_name, zero_prop}
use Rattle.borsh_values.specs.Cursor.{Fits, Going, Happens, IsBegun, IsCursor, IsInValue, IsOpenable, IsStopped, Moves, OpensFull, PassesCopies, before, name_in, pending_names, Begun, IsAnswerOf, Stays, StepsOn, KnownAs, NoneBegins, OnlyEmpty, Shows, past_copies, pending, remaining, frames}
use Rattle.borsh_values.specs.Free.{IsFreeFront}
use Rattle.borsh_values.specs.Tags.{AreTagTables, Tables}
use Rattle.borsh_values.proofs.TableProps.{tables_prop}
use Rattle.borsh_plan.specs.declared.named.Named.{Named}
use Rattle.borsh_plan.proofs.Laws.{looked_up, reached, root_there}
use Rattle.borsh_plan.proofs.Places.{name_there}
use Rattle.borsh_values.specs.Nodes.{IsStep, Opens}
use Rattle.borsh_values.proofs.Answers.{before_whole, suffix_on, answers_no, is_front}
use Rattle.borsh_values.proofs.Walk.{going_skip, known_empty, less_skip, going_reached, going_next, going_denied, room, going_new, going_on, going_past, going_pass, going_up, going_up_empty, going_back, going_leads, less_new, less_on, less_past, less_pass, next_names, left, passes, with_rest}
use Rattle.borsh_values.proofs.MemberLaws.{members_head, no_more}
use Rattle.borsh_values.specs.Membership.{IsFrontAnswer, StopsAt, IsUndecided, Why}
use Rattle.borsh_values.specs.Preorder.{GivesNode, Level, PassesTo, here, past_end, passed, level_of}

-- ---- each step of a cursor
fits_prop : (ns : List Named) (r : Rest) → IsProp (Fits ns r)
fits_prop ns (Copies at k) = le_prop
fits_prop ns (Parts at i) = le_prop

-- what is known where only that there is a proof is
module _ (c : Cursor) (h : ∥ IsCursor c ∥₁) where
  pub next_fits : Fits (names_of c.plan.now) c.frame.rest
  next_fits = ∥∥₁_elim h (fits_prop (names_of c.plan.now) c.frame.rest) λ i. i.going.fits.1

  pub has_mark : (at : ℕ) → at < length (names_of c.plan.now) → at < length c.marks.items
  has_mark at w = ∥∥₁_elim h le_prop λ i. subst (λ n. at < n) (sym i.going.long) w

  pub frame_marked : c.frame.at < length c.marks.items
  frame_marked = ∥∥₁_elim h le_prop λ i. subst (λ n. c.frame.at < n) (sym i.going.long) i.going.fits.0

  pub has_tables : AreTagTables (definitions_of c.plan.now) c.tables
  has_tables = ∥∥₁_elim h (tables_prop (definitions_of c.plan.now) c.tables) λ i. i.tables

  pub other_tables : (ts : Tables) → AreTagTables (definitions_of c.plan.now) ts → ∥ IsCursor (record c { tables = ts }) ∥₁
  other_tables ts t = ∥∥₁_map h λ i. record { going = i.going; within = i.within; suffix = i.suffix; tables = t }

module _ (c : Cursor) (i : IsCursor c) where
  -- names are passed with their bytes
  pub cursor_pass : (p : Passed) → IsFreeFront (definitions_of c.plan.now) (names_of c.plan.now) c.frame.rest c.left.now p → (a : Bor (List ℕ)) → a.now ≡ drop p.taken c.left.now → IsCursor (record c { frame = with_rest c.frame p.rest; left = a; idle = 0 }) × Moves c (record c { frame = with_rest c.frame p.rest; left = a; idle = 0 })
  cursor_pass p g a ea =
      let l = c.plan.now in
      let ends = suffix_on p.taken c.bytes.now c.left.now a.now i.within i.suffix ea g.first.0 in (
        record {
          going = subst (λ q. Going l q c.marks.items (reverse c.stack.items) (with_rest c.frame p.rest) a.now 0) ends.2 (subst (λ b. Going l (before c.bytes.now c.left.now ++ take p.taken c.left.now) c.marks.items (reverse c.stack.items) (with_rest c.frame p.rest) b 0) (sym ea) (going_pass l i.going p g));
          within = ends.0;
          suffix = ends.1;
          tables = i.tables;
        },
        subst (λ b. left (map_of l) (names_of l) (length b) 0 (with_rest c.frame p.rest ∷ reverse c.stack.items) < left (map_of l) (names_of l) (length c.left.now) c.idle (c.frame ∷ reverse c.stack.items)) (sym ea) (less_pass l i.going p g),
      )

  -- the bytes that are left are members of the names that are left
  pub members_left : Member (definitions_of c.plan.now) (root_of c.plan.now) c.bytes.now → Members (definitions_of c.plan.now) (pending_names c) c.left.now
  members_left m =
      let f = i.going.state.begun.forth c.bytes.now [] c.left.now m (append-nil c.bytes.now ∙ sym (before_whole c.bytes.now c.left.now i.suffix)) in
      subst (λ b. Members (definitions_of c.plan.now) (pending_names c) b) (sym (append-nil f.0) ∙ sym f.2) f.1

-- the bytes of a member stay
pub still_inside : (old new : Cursor) → Stays old new → IsInValue old → IsCursor new → IsInValue new
still_inside old new s v i = record {
  cursor = i;
  member = subst (λ (l : Bor Plan). Member (definitions_of l.now) (root_of l.now) new.bytes.now) (sym s.0) (subst (λ b. Member (definitions_of old.plan.now) (root_of old.plan.now) b.now) (sym s.1) v.member);
}

module _ (c : Cursor) (s : Step) (g : StepsOn (names_of c.plan.now) c.frame.rest s) where
  -- copies of a name are passed
  pub skips : ∥ IsCursor c ∥₁ → (r : Rest) → r ≡ past_copies c.frame.rest s → PassesCopies c (record c { frame = with_rest c.frame r }) (name_in c s.at)
  skips h r e =
      let ns = (names_of c.plan.now) in
      let p = passes ns c.frame.rest s g in
      record {
        left = refl;
        count = p.0;
        others = r;
        names = p.1 ∙ ap (λ t. replicate (suc p.0) (name_in c s.at) ++ remaining ns t) (sym e);
        after = refl;
        moves = subst (λ t. Moves c (record c { frame = with_rest c.frame t })) (sym e) (∥∥₁_elim h le_prop λ i. less_skip c.plan.now i.going s g);
      }

  pub next_reached : Reached (definitions_of c.plan.now) (root_of c.plan.now) (name_in c s.at)
  next_reached = reached c.plan.now (name_in c s.at) s.at (name_there (names_of c.plan.now) s.at g.within)

  -- the next name is opened
  module _ (d : Definition) (n : ℕ) (r : Rest) (o : IsOpenable c s.at d n r) where
    pub begun : (k : Cursor) (own : List ℕ) → own ≡ take n c.left.now → k.left.now ≡ drop n c.left.now → (let around = with_rest c.frame s.others ∷ reverse c.stack.items in (frames k ≡ record { at = s.at; start = length c.left.now; rest = r } ∷ around) ⊎ ((remaining (names_of c.plan.now) r ≡ []) × (frames k ≡ around))) → IsBegun c k s.at d own
    begun k own e l b = record {
      within = g.within;
      bytes = sym (take-append-drop n c.left.now) ∙ ap (λ z. z ++ drop n c.left.now) (sym e) ∙ ap (λ z. own ++ z) (sym l);
      defined = o.defined;
      parts = r;
      others = s.others;
      opened = subst (λ z. Opens (definitions_of c.plan.now) (shape_of d) z (remaining (names_of c.plan.now) r)) (sym e) o.opens.0.opens;
      before = g.parts;
      after = b;
    }

module _ (c : Cursor) (i : IsCursor c) (s : Step) (g : StepsOn (names_of c.plan.now) c.frame.rest s) where
  -- copies of a name are passed that has the empty member alone
  pub cursor_skip : (r : Rest) → r ≡ past_copies c.frame.rest s → OnlyEmpty (definitions_of c.plan.now) (name_in c s.at) → IsCursor (record c { frame = with_rest c.frame r })
  cursor_skip r e h = record {
    going = subst (λ t. Going c.plan.now (before c.bytes.now c.left.now) c.marks.items (reverse c.stack.items) (with_rest c.frame t) c.left.now c.idle) (sym e) (going_skip c.plan.now i.going s g h);
    within = i.within;
    suffix = i.suffix;
    tables = i.tables;
  }

  pub marked_empty : get_or c.marks.items s.at None ≡ Some Empty → OnlyEmpty (definitions_of c.plan.now) (name_in c s.at)
  marked_empty k = known_empty c.plan.now i.going s g k

  -- in a value, a name of zero size that comes next has the empty member
  pub zero_next : Member (definitions_of c.plan.now) (root_of c.plan.now) c.bytes.now → IsZeroSize (definitions_of c.plan.now) (name_in c s.at) → OnlyEmpty (definitions_of c.plan.now) (name_in c s.at)
  zero_next m z =
      let h = members_head (definitions_of c.plan.now) (subst (λ ps. Members (definitions_of c.plan.now) ps c.left.now) (next_names c.plan.now i.going s g) (members_left c i m)) in
      (subst (λ b. Member (definitions_of c.plan.now) (name_in c s.at) b) (zero_member (definitions_of c.plan.now) h.2 z) h.2, z)

  -- the next name has no value there
  pub cursor_stopped : (r : Reason) → Why (definitions_of c.plan.now) r (name_in c s.at) c.left.now → NoneBegins (definitions_of c.plan.now) r (name_in c s.at) c.left.now → IsStopped (definitions_of c.plan.now) (root_of c.plan.now) (before c.bytes.now c.left.now) c.left.now (name_in c s.at) r
  cursor_stopped r why deny = record {
    others = remaining (names_of c.plan.now) s.others ++ pending (names_of c.plan.now) (reverse c.stack.items);
    reached = going_reached c.plan.now i.going s g;
    next = going_next c.plan.now i.going s g;
    why = why;
    deny = deny;
    no = going_denied c.plan.now i.going s g r deny;
  }

  pub stopped_again : get_or c.marks.items s.at None ≡ Some (Open (length c.left.now)) → IsStopped (definitions_of c.plan.now) (root_of c.plan.now) (before c.bytes.now c.left.now) c.left.now (name_in c s.at) IsRecursive
  stopped_again k = cursor_stopped IsRecursive (going_leads c.plan.now i.going s g k) (going_back c.plan.now i.going s g k)

  -- the next name is opened
  module _ (d : Definition) (n : ℕ) (r : Rest) (o : IsOpenable c s.at d n r) where
    -- without a byte
    module _ (z : n ≡ 0) (new : KnownAs (get_or c.marks.items s.at None) (length c.left.now) None) (ms : Vec (Option Mark) Global) (em : ms.items ≡ set c.marks.items s.at (Some (Open (length c.left.now)))) (st : Vec Frame Global) (es : reverse st.items ≡ with_rest c.frame s.others ∷ reverse c.stack.items) where
      pub few_idle : suc c.idle ≤ btree_map_len (map_of c.plan.now)
      few_idle = room c.plan.now i.going s g (shape_of d) o.shape n r o.opens z new

      pub cursor_new : IsCursor (record c { marks = ms; stack = st; frame = record { at = s.at; start = length c.left.now; rest = r }; idle = c.idle + 1 })
      cursor_new = record {
        going = subst (λ v. Going c.plan.now (before c.bytes.now c.left.now) v (reverse st.items) (record { at = s.at; start = length c.left.now; rest = r }) c.left.now (c.idle + 1)) (sym em) (subst (λ v. Going c.plan.now (before c.bytes.now c.left.now) (set c.marks.items s.at (Some (Open (length c.left.now)))) v (record { at = s.at; start = length c.left.now; rest = r }) c.left.now (c.idle + 1)) (sym es) (going_new c.plan.now i.going s g (shape_of d) o.shape n r o.opens z new));
        within = i.within;
        suffix = i.suffix;
        tables = i.tables;
      }

      pub new_moves : Moves c (record c { marks = ms; stack = st; frame = record { at = s.at; start = length c.left.now; rest = r }; idle = c.idle + 1 })
      new_moves = subst (λ q. left (map_of c.plan.now) (names_of c.plan.now) (length c.left.now) (c.idle + 1) (record { at = s.at; start = length c.left.now; rest = r } ∷ q) < left (map_of c.plan.now) (names_of c.plan.now) (length c.left.now) c.idle (c.frame ∷ reverse c.stack.items)) (sym es) (less_new c.plan.now i.going s g (shape_of d) o.shape n r o.opens z new)

    -- with some bytes
    module _ (more : 0 < n) (a : Bor (List ℕ)) (ea : a.now ≡ drop n c.left.now) where
      ends : (length a.now ≤ length c.bytes.now) × (a.now ≡ drop (length c.bytes.now - length a.now) c.bytes.now) × (before c.bytes.now c.left.now ++ take n c.left.now ≡ before c.bytes.now a.now)
      ends = suffix_on n c.bytes.now c.left.now a.now i.within i.suffix ea o.opens.0.within

      placed : (st : List Frame) (f : Frame) → Going c.plan.now (before c.bytes.now c.left.now ++ take n c.left.now) c.marks.items st f (drop n c.left.now) 0 → Going c.plan.now (before c.bytes.now a.now) c.marks.items st f a.now 0
      placed st f w = subst (λ q. Going c.plan.now q c.marks.items st f a.now 0) ends.2 (subst (λ b. Going c.plan.now (before c.bytes.now c.left.now ++ take n c.left.now) c.marks.items st f b 0) (sym ea) w)

      -- and parts
      pub cursor_on : (st : Vec Frame Global) → reverse st.items ≡ with_rest c.frame s.others ∷ reverse c.stack.items → (k : Cursor) → k ≡ record c { left = a; stack = st; frame = record { at = s.at; start = length c.left.now; rest = r }; idle = 0 } → IsCursor k × Moves c k
      cursor_on st es k is =
          let f : Frame = record { at = s.at; start = length c.left.now; rest = r } in
          let now : Cursor = record c { left = a; stack = st; frame = f; idle = 0 } in
          subst (λ q. IsCursor q × Moves c q) (sym is) (
            record { going = subst (λ v. Going c.plan.now (before c.bytes.now a.now) c.marks.items v f a.now 0) (sym es) (placed (with_rest c.frame s.others ∷ reverse c.stack.items) f (going_on c.plan.now i.going s g (shape_of d) o.shape n r o.opens more)); within = ends.0; suffix = ends.1; tables = i.tables },
            subst (λ b. left (map_of c.plan.now) (names_of c.plan.now) (length b) 0 (f ∷ reverse st.items) < left (map_of c.plan.now) (names_of c.plan.now) (length c.left.now) c.idle (c.frame ∷ reverse c.stack.items)) (sym ea)
                (subst (λ q. left (map_of c.plan.now) (names_of c.plan.now) (length (drop n c.left.now)) 0 (f ∷ q) < left (map_of c.plan.now) (names_of c.plan.now) (length c.left.now) c.idle (c.frame ∷ reverse c.stack.items)) (sym es) (less_on c.plan.now i.going s g (shape_of d) o.shape n r o.opens more)),
          )

      -- and no parts
      pub cursor_past : remaining (names_of c.plan.now) r ≡ [] → (k : Cursor) → k ≡ record c { left = a; frame = with_rest c.frame s.others; idle = 0 } → IsCursor k × Moves c k
      cursor_past none k is =
          let now : Cursor = record c { left = a; frame = with_rest c.frame s.others; idle = 0 } in
          subst (λ q. IsCursor q × Moves c q) (sym is) (
            record { going = placed (reverse c.stack.items) (with_rest c.frame s.others) (going_past c.plan.now i.going s g (shape_of d) o.shape n r o.opens more none); within = ends.0; suffix = ends.1; tables = i.tables },
            subst (λ b. left (map_of c.plan.now) (names_of c.plan.now) (length b) 0 (with_rest c.frame s.others ∷ reverse c.stack.items) < left (map_of c.plan.now) (names_of c.plan.now) (length c.left.now) c.idle (c.frame ∷ reverse c.stack.items)) (sym ea) (less_past c.plan.now i.going s g (shape_of d) o.shape n r o.opens more),
          )

-- tables have no part in what happens
pub other_tables_happen : {E : Type 0} (c new : Cursor) (ts : Tables) (r : Result Event E) → IfOk r (λ e. Happens (record c { tables = ts }) new e) → IfOk r (λ e. Happens c new e)
other_tables_happen c new ts (Err e) h = tt
other_tables_happen c new ts (Ok e) h = same e h
  where
    same : (e : Event) → Happens (record c { tables = ts }) new e → Happens c new e
    same (AtOpen at d own) h = (record { within = h.0.within; bytes = h.0.bytes; defined = h.0.defined; parts = h.0.parts; others = h.0.others; opened = h.0.opened; before = h.0.before; after = h.0.after }, h.1)
    same (AtPass at) h = record { left = h.left; count = h.count; others = h.others; names = h.names; after = h.after; moves = h.moves }
    same AtClose h = h
    same AtEnd h = h
    same (AtFault at r) h = h
    same (AtUndecided at) h = h

-- a value begins only where a name comes next, and is that name's
module _ (old new : Cursor) where
  pub none_full : (e : Event) → remaining (names_of old.plan.now) old.frame.rest ≡ [] → Happens old new e → OpensFull old e
  none_full e none h = λ at d own q z. (let b = (subst (λ e. Happens old new e) q h).0.before in cc)

  pub next_full : (s : Step) → StepsOn (names_of old.plan.now) old.frame.rest s → (IsZeroSize (definitions_of old.plan.now) (name_in old s.at) → ⊥) → (e : Event) → Happens old new e → OpensFull old e
  next_full s g some e h = λ at d own q z.
      let k = subst (λ e. Happens old new e) q h in
      let b : remaining (names_of old.plan.now) old.frame.rest ≡ name_in old at ∷ remaining (names_of old.plan.now) k.0.others = k.0.before in
      let p : remaining (names_of old.plan.now) old.frame.rest ≡ name_in old s.at ∷ remaining (names_of old.plan.now) s.others = g.parts in
      let same : name_in old at ≡ name_in old s.at = cc in
      some (subst (λ x. IsZeroSize (definitions_of old.plan.now) x) same z)

-- the last value ends
module _ (c : Cursor) (i : IsCursor c) (none : remaining (names_of c.plan.now) c.frame.rest ≡ []) (above : Frame) (st : Vec Frame Global) (es : reverse c.stack.items ≡ above ∷ reverse st.items) where
  around : Going c.plan.now (before c.bytes.now c.left.now) c.marks.items (above ∷ reverse st.items) c.frame c.left.now c.idle
  around = subst (λ q. Going c.plan.now (before c.bytes.now c.left.now) c.marks.items q c.frame c.left.now c.idle) es i.going

  pub cursor_up : (c.frame.start ≡ length c.left.now → ⊥) → IsCursor (record c { stack = st; frame = above })
  cursor_up far = record { going = going_up c.plan.now around none far; within = i.within; suffix = i.suffix; tables = i.tables }

  pub cursor_up_empty : (ms : Vec (Option Mark) Global) → ms.items ≡ set c.marks.items c.frame.at (Some Empty) → c.frame.start ≡ length c.left.now → IsCursor (record c { marks = ms; stack = st; frame = above })
  cursor_up_empty ms em at = record { going = subst (λ v. Going c.plan.now (before c.bytes.now c.left.now) v (reverse st.items) above c.left.now c.idle) (sym em) (going_up_empty c.plan.now around none at); within = i.within; suffix = i.suffix; tables = i.tables }

-- ---- what the last step of a walk answers
-- a step without an answer moves on
pub moves_on : (old new : Cursor) (e : Event) → IsAnswerOf new e None → Happens old new e → Moves old new
moves_on old new (AtOpen at d own) a h = h.1
moves_on old new (AtPass at) a h = h.moves
moves_on old new AtClose a h = h.3
moves_on old new AtEnd a h = cc
moves_on old new (AtFault at r) a h = absurd a
moves_on old new (AtUndecided at) a h = (let e = a.1 in cc)

ended : (old : Cursor) (n : ℕ) → IsCursor old → n ≡ length old.bytes.now - length old.left.now → pending_names old ≡ [] → IsFrontAnswer (definitions_of old.plan.now) (root_of old.plan.now) old.bytes.now (Value n)
ended old n i e p = is_front (definitions_of old.plan.now) (root_of old.plan.now) old.bytes.now old.left.now n e i.suffix (subst (λ ps. Begun (definitions_of old.plan.now) (root_of old.plan.now) (before old.bytes.now old.left.now) ps) p i.going.state.begun)

value_is : (a b : Front) → ◌≡◌ {A = Option Front} (Some a) (Some b) → a ≡ b
value_is a b e = cc

-- the answer of the last step is right
pub last_is : (old new : Cursor) (e : Event) (a : Front) → IsCursor old → Stays old new → Happens old new e → Shows old e → IsAnswerOf new e (Some a) → IsFrontAnswer (definitions_of old.plan.now) (root_of old.plan.now) old.bytes.now a
last_is old new (AtOpen at d own) a i s h w k = cc
last_is old new (AtPass at) a i s h w k = cc
last_is old new AtClose a i s h w k = cc
last_is old new AtEnd a i s h w k =
    let n = length new.bytes.now - length new.left.now in
    let same : n ≡ length old.bytes.now - length old.left.now = ap (λ b. length b.now - length new.left.now) s.1 ∙ ap (λ b. length old.bytes.now - length b.now) h.0 in
    subst (λ z. IsFrontAnswer (definitions_of old.plan.now) (root_of old.plan.now) old.bytes.now z) (sym (value_is a (Value n) k)) (ended old n i same h.1)
last_is old new (AtFault at r) a i s h w k =
    let o : Result Front (Unit {0}) = Ok a in
    let all = ap (λ b. length b.now) s.1 in
    let left = ap (λ b. length b.now) h in
    let name = ap (λ l. name_at (names_of l.now) at) s.0 in
    answers_no (definitions_of old.plan.now) (root_of old.plan.now) old.bytes.now old.left.now (name_in old at) r i.within i.suffix w.reached w.others w.next w.why w.deny w.no o
    (subst (λ n. StopsAt n (length old.left.now) (name_in old at) r a) all (subst (λ n. StopsAt (length new.bytes.now) n (name_in old at) r a) left (subst (λ x. StopsAt (length new.bytes.now) (length new.left.now) x r a) name k)))
last_is old new (AtUndecided at) a i s h w k =
    let q = value_is a (Ambiguous k.0) k.1 in
    let u = subst (λ x. IsUndecided (definitions_of old.plan.now) (root_of old.plan.now) x) (sym (k.2 ∙ ap (λ l. name_at (names_of l.now) at) s.0)) h.1 in
    subst (λ z. IsFrontAnswer (definitions_of old.plan.now) (root_of old.plan.now) old.bytes.now z) (sym q) u

-- ---- nodes of a value, one after another
-- the levels of frames
abbrev pub levels : Cursor → List Frame → List Level
levels c fs = map (level_of c.plan.now c.bytes.now) fs

-- copies of a name of zero size are passed
pass_copies : {C : List ℕ → Option Shape} {old ls : List Level} {d : Option Definition} {bytes : List ℕ} (k : ℕ) (x : List ℕ) (xs : List (List ℕ)) → IsZeroSize C x → PassesTo C old ((d, bytes, replicate k x ++ xs) ∷ ls) → PassesTo C old ((d, bytes, xs) ∷ ls)
pass_copies zero x xs z p = p
pass_copies (suc k) x xs z p = pass_copies k x xs z (passed z p)

-- so far no node is given: names of zero size are passed
pub record NoneYet (old now : Cursor) : Type 0 where
  pub plan : now.plan ≡ old.plan
  pub bytes : now.bytes ≡ old.bytes
  pub left : now.left ≡ old.left
  pub passes : PassesTo (definitions_of old.plan.now) (levels old (frames old)) (levels now (frames now))

pub none_yet : (c : Cursor) → NoneYet c c
none_yet c = record { plan = refl; bytes = refl; left = refl; passes = here }

module _ (old now : Cursor) (h : NoneYet old now) (new : Cursor) (s : Stays now new) where
  -- the frame is another
  onward : new.left ≡ now.left → (fs : List Frame) → frames new ≡ fs → PassesTo (definitions_of old.plan.now) (levels old (frames old)) (levels now fs) → NoneYet old new
  onward e fs f p = record {
    plan = s.0 ∙ h.plan;
    bytes = s.1 ∙ h.bytes;
    left = e ∙ h.left;
    passes = subst (λ (l : Bor Plan). PassesTo (definitions_of old.plan.now) (levels old (frames old)) (map (level_of l.now new.bytes.now) (frames new))) (sym s.0)
        (subst (λ (b : Bor (List ℕ)). PassesTo (definitions_of old.plan.now) (levels old (frames old)) (map (level_of now.plan.now b.now) (frames new))) (sym s.1)
        (subst (λ fs. PassesTo (definitions_of old.plan.now) (levels old (frames old)) (levels now fs)) (sym f) p));
  }

  -- the names that are left of the frame
  at_frame : (xs : List (List ℕ)) → remaining (names_of now.plan.now) now.frame.rest ≡ xs → PassesTo (definitions_of old.plan.now) (levels old (frames old)) ((let l = level_of now.plan.now now.bytes.now now.frame in (l.0, l.1, xs)) ∷ levels now (reverse now.stack.items))
  at_frame xs e = subst (λ xs. PassesTo (definitions_of old.plan.now) (levels old (frames old)) ((let l = level_of now.plan.now now.bytes.now now.frame in (l.0, l.1, xs)) ∷ levels now (reverse now.stack.items))) e h.passes

  -- copies of one more are passed
  passed_on : (x : List ℕ) → IsZeroSize (definitions_of now.plan.now) x → PassesCopies now new x → NoneYet old new
  passed_on x z p =
      let zero : IsZeroSize (definitions_of old.plan.now) x = subst (λ (l : Bor Plan). IsZeroSize (definitions_of l.now) x) h.plan z in
      let ns = names_of now.plan.now in
      onward p.left (with_rest now.frame p.others ∷ reverse now.stack.items) p.after (pass_copies (suc p.count) x (remaining ns p.others) zero (at_frame (replicate (suc p.count) x ++ remaining ns p.others) p.names))

module _ (old now : Cursor) (h : NoneYet old now) (i : ∥ IsInValue now ∥₁) where
  -- all values end
  pub none_left : pending_names now ≡ [] → old.left.now ≡ []
  none_left e = ap (λ b. b.now) (sym h.left) ∙ ∥∥₁_elim i (Coded-set coded_name _ _) λ v. no_more (subst (λ ps. Members (definitions_of now.plan.now) ps now.left.now) e (members_left now v.cursor v.member))

  -- a value of the next name begins in a member
  not_stopped : (x : List ℕ) (r : Reason) → (IsInValue now → IsStopped (definitions_of now.plan.now) (root_of now.plan.now) (before now.bytes.now now.left.now) now.left.now x r) → ⊥
  not_stopped x r t = ∥∥₁_elim i (λ a b. absurd a) λ v. (t v).no [] (λ _. refl) (now.bytes.now, [], v.member, append-nil (before now.bytes.now now.left.now ++ now.left.now) ∙ before_whole now.bytes.now now.left.now v.cursor.suffix ∙ sym (append-nil now.bytes.now))

  -- an event of which no node comes
  module _ (new : Cursor) (s : Stays now new) (e : Event) (k : Happens now new e) (w : IsInValue now → Shows now e) where
    pub goes_on : ((x : ℕ) × (e ≡ AtPass x)) ⊎ (e ≡ AtClose) → NoneYet old new
    goes_on (inl p) =
        let zero = ∥∥₁_elim i (zero_prop (definitions_of now.plan.now)) λ v. (subst (λ e. Shows now e) p.1 (w v)).1 in
        passed_on old now h new s (name_in now p.0) zero (subst (λ e. Happens now new e) p.1 k)
    goes_on (inr p) = let q = subst (λ e. Happens now new e) p k in onward old now h new s q.0 (reverse now.stack.items) q.2 (past_end (at_frame old now h new s [] q.1))

    pub undecided : (at : ℕ) → ((r : Reason) × (e ≡ AtFault at r)) ⊎ (e ≡ AtUndecided at) → (x : List ℕ) → x ≡ name_in now at → IsUndecided (definitions_of old.plan.now) (root_of old.plan.now) x
    undecided at (inl p) x n = absurd (not_stopped (name_in now at) p.0 λ v. subst (λ e. Shows now e) p.1 (w v))
    undecided at (inr p) x n =
        let q = subst (λ e. Happens now new e) p k in
        subst (λ (l : Bor Plan). IsUndecided (definitions_of l.now) (root_of l.now) x) h.plan (subst (λ y. IsUndecided (definitions_of now.plan.now) (root_of now.plan.now) y) (sym n) q.1)

-- the level around the root
pub root_level : (l : Plan) (bytes : List ℕ) → level_of l bytes (record { at = 0; start = length bytes + 1; rest = Copies 0 1 }) ≡ (None, bytes, root_of l ∷ [])
root_level l bytes =
    let far : leb (length bytes + 1) (length bytes) ≡ false = lt-leb (length bytes + 1) (length bytes) (omega arith) in
    let none : length bytes - (length bytes + 1) ≡ 0 = omega arith in
    rw (far, none, (root_there l).1) refl

-- the next node
module _ (old new : Preorder) (now : Cursor) (h : NoneYet old.cursor now) (i : ∥ IsInValue now ∥₁) (s : Stays now new.cursor) where
  -- the step to the part that comes next
  abbrev pub LeadsOn : Option PathStep → Type 0
  LeadsOn step = let l = level_of now.plan.now now.bytes.now now.frame in IsStep l.0 l.1 (length l.2) step

  module _ (n : Node) (b : IsBegun now new.cursor n.at n.definition.now n.bytes.now) (name : n.name.now ≡ name_in now n.at) where
    low : length now.left.now ≤ length now.bytes.now
    low = ∥∥₁_elim i le_prop λ v. v.cursor.within

    abbrev parts : List (List ℕ)
    parts = remaining (names_of now.plan.now) b.parts

    abbrev beside : Level
    beside = level_of now.plan.now now.bytes.now (with_rest now.frame b.others)

    abbrev outer : List Level
    outer = levels now (reverse now.stack.items)

    -- the level of its parts
    begins : level_of now.plan.now now.bytes.now (record { at = n.at; start = length now.left.now; rest = b.parts }) ≡ (Some n.definition.now, old.cursor.left.now, parts)
    begins =
        let there : found_definition (slice_get (names_of now.plan.now) n.at) ≡ Some n.definition.now = sym (looked_up now.plan.now (name_in now n.at) n.at (name_there (names_of now.plan.now) n.at b.within)) ∙ b.defined in
        let rest : drop (length now.bytes.now - length now.left.now) now.bytes.now ≡ old.cursor.left.now = ∥∥₁_elim i (Coded-set coded_name _ _) (λ v. sym v.cursor.suffix) ∙ ap (λ b. b.now) h.left in
        rw (le-leb (length now.left.now) (length now.bytes.now) low, there, rest) refl

    after : PassesTo (definitions_of old.cursor.plan.now) ((Some n.definition.now, old.cursor.left.now, parts) ∷ beside ∷ outer) (levels now (frames new.cursor))
    after =
        let C = definitions_of old.cursor.plan.now in
        let first : Level = (Some n.definition.now, old.cursor.left.now, parts) in
        elim b.after [
          | inl e ↦ subst (λ ls. PassesTo C (first ∷ beside ∷ outer) ls) (sym (ap (λ fs. levels now fs) e ∙ ap (λ l. l ∷ beside ∷ outer) begins)) here
          | inr e ↦
              let left : PassesTo C (first ∷ beside ∷ outer) (beside ∷ outer) = past_end (subst (λ (xs : List (List ℕ)). PassesTo C (first ∷ beside ∷ outer) ((Some n.definition.now, old.cursor.left.now, xs) ∷ beside ∷ outer)) e.0 here) in
              subst (λ ls. PassesTo C (first ∷ beside ∷ outer) ls) (sym (ap (λ fs. levels now fs) e.1)) left
        ]

    pub given : n.offset ≡ length now.bytes.now - length now.left.now → (IsZeroSize (definitions_of now.plan.now) (name_in now n.at) → ⊥) → n.depth ≡ length now.stack.items → (step : Option PathStep) → LeadsOn step → new.path.steps.items ≡ take (n.depth - 1) old.path.steps.items ++ option_to_list step → GivesNode old new n
    given offset some depth step leads path =
        let ns = names_of now.plan.now in
        let own = n.bytes.now in
        let C = definitions_of old.cursor.plan.now in
        let next : remaining ns now.frame.rest ≡ n.name.now ∷ beside.2 = b.before ∙ ap (λ x. x ∷ beside.2) (sym name) in
        let back : IsZeroSize (definitions_of old.cursor.plan.now) n.name.now → IsZeroSize (definitions_of now.plan.now) (name_in now n.at) = λ z. subst (λ x. IsZeroSize (definitions_of now.plan.now) x) name (subst (λ (l : Bor Plan). IsZeroSize (definitions_of l.now) n.name.now) (sym h.plan) z) in
        let all = ap (λ b. length b.now) h.bytes in
        let left = ap (λ b. length b.now) h.left in
        let all_new = ap (λ b. length b.now) s.1 in
        let split = ap length b.bytes ∙ length-append own new.cursor.left.now in
        let there = name_there ns n.at b.within in
        record {
          place = ap (λ (l : Bor Plan). name_of (names_of l.now) n.at) (sym h.plan) ∙ there ∙ ap (λ x. Some x) (sym name);
          defined = subst (λ (l : Bor Plan). get_by_text (map_of l.now) n.name.now ≡ Some n.definition.now) h.plan (ap (λ x. get_by_text (map_of now.plan.now) x) name ∙ b.defined);
          bytes = ap (λ b. b.now) (sym h.left) ∙ b.bytes;
          offset = omega (arith, offset, all, left);
          next = omega (arith, all, left, all_new, split, low);
          some = λ z. some (back z);
          around = beside;
          outer = outer;
          before = at_frame old.cursor now h new.cursor s (n.name.now ∷ beside.2) next;
          parts = parts;
          opens = subst (λ (l : Bor Plan). Opens (definitions_of l.now) (shape_of n.definition.now) own parts) h.plan b.opened;
          after = subst (λ (l : Bor Plan). PassesTo C ((Some n.definition.now, old.cursor.left.now, parts) ∷ beside ∷ outer) (map (level_of l.now new.cursor.bytes.now) (frames new.cursor))) (sym s.0)
              (subst (λ (bytes : Bor (List ℕ)). PassesTo C ((Some n.definition.now, old.cursor.left.now, parts) ∷ beside ∷ outer) (map (level_of now.plan.now bytes.now) (frames new.cursor))) (sym s.1) after);
          depth = depth ∙ sym (length-map (reverse now.stack.items) (level_of now.plan.now now.bytes.now) ∙ length-reverse now.stack.items);
          step = step;
          leads = subst (λ (xs : List (List ℕ)). IsStep beside.0 beside.1 (length xs) step) next leads;
          path = path;
        }
