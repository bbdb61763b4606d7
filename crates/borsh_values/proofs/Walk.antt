-- A walk over the bytes of a value: its state, and what each step makes of it.
use Rattle.std.proofs.Common.{◌++◌, replicate, subst, ◌≡◌, ℕ, suc, zero, ◌+◌, ◌<◌, List, [], ◌∷◌, drop, length, Some, None, refl, sym, ◌∙◌, ap, arith, get_or, set, ◌*◌, ◌≤◌, take, append_assoc, append-nil, length-drop, ◌⊎◌, inl, inr, add-one}
use Rattle.std.specs.Prelude.{Option, String}
use Rattle.std.proofs.lemmas.List.{get_or-set_same, get_or-set_other, length-replicate, length-set}
use Rattle.std.proofs.lemmas.List.Sums.{sum_by-cons}
use Rattle.borsh_walks.proofs.Tables.{Updated}
use Rattle.borsh_plan.specs.Names.{name_at, shape_at, parts_in, IsPlaceOf}
use Rattle.borsh_plan.specs.Plan.{definitions_of, map_of, names_of, root_of}
use Rattle.borsh_plan.specs.declared.{named.Named.Named, plan.Plan.Plan}
use Rattle.borsh_values.specs.declared.{frames.Rest.Rest, frames.Rest.TheVariants.Copies, frames.Rest.TheVariants.Parts, frames.Step.Step, frames.Mark.Mark, frames.Frame.Frame, frames.Mark.TheVariants.Empty, frames.Mark.TheVariants.Open, faults.Reason.Reason, frames.Opened.TheVariants.Taken, runs.Passed.Passed}
use Rattle.std.specs.BTreeMap.{BTreeMap, btree_map_len}
use Rattle.borsh_walks.specs.Container.{Shape, references, IsIn, first, later, Member, of_primitive, of_sequence, of_parts, of_choice, Reached, Reaches, IsOnCycle, stays, onward}
use Rattle.borsh_walks.specs.declared.definition.Definition.{Definition}
use Rattle.borsh_values.specs.Cursor.{opens, steps_of, Begun, On, Waits, Chain, Walk, Going, remaining, step_count, StepsOn, Fits, past_copies, mark_at, pending, required_by, OnlyEmpty, AllOnlyEmpty, Takes, NoneBegins, OpensAs, KnownAs}
use Rattle.borsh_plan.proofs.Places.{name_is, name_there}
use Rattle.borsh_walks.proofs.Measure.{work, work_within}
use Rattle.borsh_walks.proofs.Names.{distinct_none, distinct_more, drop_end, drop_next, name_cases, also_defined, among_one, among_append, among_right, names_within}
use Rattle.std.proofs.Math.Nat.{mul-le-mul_left}
use Rattle.borsh_values.specs.Membership.{BeginsWith, LeadsTo}
use Rattle.borsh_values.specs.Nodes.{Opens, Reads, reads_none}
use Rattle.borsh_values.proofs.MemberLaws.{begun_start, begun_skip, begun_on, begun_denied, begun_first, reads_on, reads_member, reads_skip, leads_on, only_empty_copies, only_empty_more, not_required}
use Rattle.borsh_values.specs.Free.{AreFirst, IsFreeFront}
use Rattle.borsh_plan.proofs.Laws.{back, defined_at, place, root_there, sound}

-- ---- the parts and the marks at places
-- ---- the next name
pub parts_on : (ns : List Named) (at next k : ℕ) → at < length ns → IsPlaceOf ns at next (Some k) → StepsOn ns (Parts at next) (record { at = k; others = Parts at (next + 1) })
parts_on ns at next k low h =
    let refs = parts_in (shape_at ns at) in
    let d : drop next refs ≡ name_at ns k ∷ drop (next + 1) refs = drop_next refs next h.1 in
    let l = ap (λ z. length z) d in
    record { within = h.0; fits = low; parts = d; moves = λ _ _ _. omega (arith, l); steps = omega (arith, l) }

pub parts_end : (ns : List Named) (at next : ℕ) → IsPlaceOf ns at next None → remaining ns (Parts at next) ≡ []
parts_end ns at next h = drop_end (parts_in (shape_at ns at)) next h

pub fits_parts : (ns : List Named) (r : Rest) (at i : ℕ) → r ≡ Parts at i → Fits ns r → at < length ns
fits_parts ns r at i e f = subst (λ s. Fits ns s) e f

pub fits_copies : (ns : List Named) (r : Rest) (at k : ℕ) → r ≡ Copies at k → Fits ns r → at < length ns
fits_copies ns r at k e f = subst (λ s. Fits ns s) e f

-- all copies of it are passed
abbrev pub Passes : List Named → Rest → Step → Rest → Type 0
Passes ns r s t = (k : ℕ) × (remaining ns r ≡ replicate (suc k) (name_at ns s.at) ++ remaining ns t) × (step_count ns t < step_count ns r) × Fits ns t

pub passes : (ns : List Named) (r : Rest) (s : Step) → StepsOn ns r s → Passes ns r s (past_copies r s)
passes ns (Copies at zero) s g = (let p = g.parts in cc)
passes ns (Copies at (suc k)) s g =
    let p = g.parts in
    let q : name_at ns at ≡ name_at ns s.at = cc in
    (k, ap (λ x. replicate (suc k) x) q ∙ sym (end (replicate (suc k) (name_at ns s.at))), omega arith, g.within)
  where
    end : (xs : List (List ℕ)) → xs ++ [] ≡ xs
    end [] = refl
    end (x ∷ xs) = ap (λ l. x ∷ l) (end xs)
passes ns (Parts at i) s g = (0, g.parts, g.moves at i refl, g.fits)

-- ---- marks
module _ (l : Plan) where
  -- a mark is set at the place of a name: it is that of the name, and no other changes
  pub marked : (ms : List (Option Mark)) (i : ℕ) (k : Mark) → length ms ≡ length (names_of l) → i < length (names_of l) → Updated (λ x. mark_at ms (place l x)) (λ x. mark_at (set ms i (Some k)) (place l x)) (name_at (names_of l) i) k
  marked ms i k long low =
      let b = back l (name_at (names_of l) i) i (name_there (names_of l) i low) in
      record {
        here = ap (λ o. mark_at (set ms i (Some k)) o) b ∙ get_or-set_same ms i (Some k) None (omega (arith, long, low));
        others = λ x f. other x f (place l x) refl;
      }
    where
      other : (x : List ℕ) → (x ≡ name_at (names_of l) i → ⊥) → (o : Option ℕ) → place l x ≡ o → mark_at (set ms i (Some k)) o ≡ mark_at ms o
      other x f None e = refl
      other x f (Some j) e =
          let n = name_is (names_of l) j x (sound l x j e) in
          let apart : j ≡ i → ⊥ = λ q. f (sym n.1 ∙ ap (λ z. name_at (names_of l) z) q) in
          get_or-set_other ms i j (Some k) None apart

  pub mark_here : (ms : List (Option Mark)) (i : ℕ) → i < length (names_of l) → mark_at ms (place l (name_at (names_of l) i)) ≡ get_or ms i None
  mark_here ms i low = ap (λ o. mark_at ms o) (back l (name_at (names_of l) i) i (name_there (names_of l) i low))

-- ---- no marks
none_at : (n i : ℕ) → ◌≡◌ {A = Option Mark} (get_or (replicate n None) i None) None
none_at zero i = refl
none_at (suc n) zero = refl
none_at (suc n) (suc i) = none_at n i

pub none_marked : (n : ℕ) (o : Option ℕ) → mark_at (replicate n None) o ≡ None
none_marked n None = refl
none_marked n (Some i) = none_at n i

-- ---- how far the loop has to go
abbrev pub left : {A : Type 0} → BTreeMap (String A) Definition → List Named → ℕ → ℕ → List Frame → ℕ
left m ns len idle fs = (3 + work references m.entries) * opens (btree_map_len m) len idle + steps_of ns fs

less : (w a b s t : ℕ) → a < b → s < w + t → w * a + s < w * b + t
less w a b s t h k = let g : suc a ≤ b = omega arith in let p = mul-le-mul_left w g in omega (arith, p, k)

opens_still : (D len idle : ℕ) → suc idle ≤ D → opens D len (suc idle) < opens D len idle
opens_still D len idle h = omega arith

opens_on : (D a b idle : ℕ) → a < b → opens D a 0 < opens D b idle
opens_on D a b idle h = let g : suc a ≤ b = omega arith in let p = mul-le-mul_left (suc D) g in omega (arith, p)

more_steps : (ns : List Named) (f : Frame) (fs : List Frame) → steps_of ns (f ∷ fs) ≡ step_count ns f.rest + steps_of ns fs
more_steps ns = sum_by-cons (λ f. step_count ns f.rest)

-- the last frame goes on
pub left_moved : {A : Type 0} (m : BTreeMap (String A) Definition) (ns : List Named) (len idle : ℕ) (f g : Frame) (fs : List Frame) → step_count ns g.rest < step_count ns f.rest → left m ns len idle (g ∷ fs) < left m ns len idle (f ∷ fs)
left_moved m ns len idle f g fs h = omega (arith, h, more_steps ns f fs, more_steps ns g fs)

-- a new one comes, without a byte
pub left_still : {A : Type 0} (m : BTreeMap (String A) Definition) (ns : List Named) (len idle : ℕ) (f h g : Frame) (fs : List Frame) → suc idle ≤ btree_map_len m → step_count ns h.rest ≤ step_count ns f.rest → step_count ns g.rest ≤ 2 + work references m.entries → left m ns len (suc idle) (g ∷ h ∷ fs) < left m ns len idle (f ∷ fs)
left_still m ns len idle f h g fs room low small = less (3 + work references m.entries) _ _ _ _ (opens_still (btree_map_len m) len idle room) (omega (arith, low, small, more_steps ns f fs, more_steps ns h fs, more_steps ns g (h ∷ fs)))

-- or with some
pub left_on : {A : Type 0} (m : BTreeMap (String A) Definition) (ns : List Named) (a b idle : ℕ) (f h g : Frame) (fs : List Frame) → a < b → step_count ns h.rest ≤ step_count ns f.rest → step_count ns g.rest ≤ 2 + work references m.entries → left m ns a 0 (g ∷ h ∷ fs) < left m ns b idle (f ∷ fs)
left_on m ns a b idle f h g fs room low small = less (3 + work references m.entries) _ _ _ _ (opens_on (btree_map_len m) a b idle room) (omega (arith, low, small, more_steps ns f fs, more_steps ns h fs, more_steps ns g (h ∷ fs)))

-- or one that has no parts was read with some bytes
pub left_past : {A : Type 0} (m : BTreeMap (String A) Definition) (ns : List Named) (a b idle : ℕ) (f h : Frame) (fs : List Frame) → a < b → step_count ns h.rest ≤ step_count ns f.rest → left m ns a 0 (h ∷ fs) < left m ns b idle (f ∷ fs)
left_past m ns a b idle f h fs room low = less (3 + work references m.entries) _ _ _ _ (opens_on (btree_map_len m) a b idle room) (omega (arith, low, more_steps ns f fs, more_steps ns h fs))

-- a frame has a step left
pub some_step : (ns : List Named) (r : Rest) → 0 < step_count ns r
some_step ns (Copies at zero) = omega arith
some_step ns (Copies at (suc k)) = omega arith
some_step ns (Parts at n) = omega arith

-- ---- what the loop keeps, and each of its steps
abbrev pub with_rest : Frame → Rest → Frame
with_rest f r = record { at = f.at; start = f.start; rest = r }

module _ (C : List ℕ → Option Shape) (ns : List Named) where
  -- frames that were begun before some bytes were taken
  pub far_off : {o start : ℕ} {x : List ℕ} {next : List (List ℕ)} → o < start → Waits C o start x next
  far_off h = record { low = omega arith; only_empty = λ e. absurd (omega arith); needs = λ e. absurd (omega arith) }

  pub far_chain : {o u : ℕ} (fs : List Frame) (y : List ℕ) (s : ℕ) → u < o → Chain C ns o fs y s → Chain C ns u fs y s
  far_chain [] y s h c = tt
  far_chain (f ∷ fs) y s h c = let k = c.0.low in (far_off (omega (arith, k)), (λ e. absurd (omega (arith, k, e))), far_chain fs (name_at ns f.at) f.start h c.2)

  from_root : {root x : List ℕ} (ps : List (List ℕ)) → ps ≡ root ∷ [] → IsIn x (ps ++ []) → Reached C root x
  from_root {root} {x} ps e a = subst (λ y. Reached C root y) (sym (among_one (subst (λ l. IsIn x (l ++ [])) e a))) stays

  pub walk_start : {root bytes : List ℕ} {T : List ℕ → Option Mark} (f : Frame) → ((x : List ℕ) → T x ≡ None) → length bytes < f.start → remaining ns f.rest ≡ root ∷ [] → Walk C ns root [] T [] f bytes []
  walk_start {root} {bytes} f none low e = record {
    begun = subst (λ l. Begun C root [] (l ++ [])) (sym e) (begun_start C);
    reached = λ x a. from_root (remaining ns f.rest) e a;
    empty = λ x h. let n = none x in cc;
    here = λ x h. let n = none x in cc;
    past = λ x k h. let n = none x in cc;
    top = far_off low;
    chain = tt;
    distinct = distinct_none;
    defined = λ x a. elim a [ ];
    marked = λ x a. elim a [ ];
  }

  -- copies of a name that has the empty member alone are passed
  pub walk_skip : {root done rest p : List ℕ} {T : List ℕ → Option Mark} {fs : List Frame} {f : Frame} {L : List (List ℕ)} (k : ℕ) (r : Rest) → Walk C ns root done T fs f rest L → OnlyEmpty C p → remaining ns f.rest ≡ replicate (suc k) p ++ remaining ns r → Walk C ns root done T fs (with_rest f r) rest L
  walk_skip {root} {done} {rest} {p} {T} {fs} {f} {L} k r w h e =
      let same : pending ns (f ∷ fs) ≡ replicate (suc k) p ++ (remaining ns r ++ pending ns fs) = ap (λ l. l ++ pending ns fs) e ∙ append_assoc (replicate (suc k) p) (remaining ns r) (pending ns fs) in
      record {
        begun = begun_skip C (suc k) h (subst (λ l. Begun C root done l) same w.begun);
        reached = λ x a. w.reached x (subst (λ l. IsIn x l) (sym same) (among_right (replicate (suc k) p) a));
        empty = w.empty;
        here = λ x q. on_with f r fs (w.here x q);
        past = w.past;
        top = record {
          low = w.top.low;
          only_empty = λ s a. w.top.only_empty s (subst (λ l. AllOnlyEmpty C l) (sym e) (only_empty_copies C (remaining ns r) (suc k) h a));
          needs = λ s. let n = w.top.needs s in (n.0, n.1, (λ q a. n.2 q (subst (λ l. IsIn q l) (sym e) (among_right (replicate (suc k) p) a))), n.3, n.4, reads_skip C (suc k) h.0 (subst (λ l. Reads C n.3 [] l) e n.5));
        };
        chain = w.chain;
        distinct = w.distinct;
        defined = w.defined;
        marked = w.marked;
      }
    where
      on_with : {x : List ℕ} {o : ℕ} (f : Frame) (r : Rest) (fs : List Frame) → On ns x o (f ∷ fs) → On ns x o (with_rest f r ∷ fs)
      on_with f r fs (inl h) = inl h
      on_with f r fs (inr h) = inr h

      among_right : {x : List ℕ} (xs : List (List ℕ)) {ys : List (List ℕ)} → IsIn x ys → IsIn x (xs ++ ys)
      among_right [] a = a
      among_right (y ∷ xs) a = later (among_right xs a)

  pub undefined_none : {x bs : List ℕ} → C x ≡ None → Member C x bs → ⊥
  undefined_none e (of_primitive p small) = cc
  undefined_none e (of_sequence k p low high ms) = cc
  undefined_none e (of_parts p ms) = cc
  undefined_none e (of_choice p listed m) = cc

  -- the last name is passed: a frame above follows
  pub walk_up : {root done rest : List ℕ} {T : List ℕ → Option Mark} {fs : List Frame} {f h : Frame} {L : List (List ℕ)} → Walk C ns root done T (h ∷ fs) f rest L → remaining ns f.rest ≡ [] → (f.start ≡ length rest → ⊥) → Walk C ns root done T fs h rest L
  walk_up {root} {done} {rest} {T} {fs} {f} {h} {L} w e far =
      let same : pending ns (f ∷ h ∷ fs) ≡ pending ns (h ∷ fs) = ap (λ l. l ++ pending ns (h ∷ fs)) e in
      record {
        begun = subst (λ l. Begun C root done l) same w.begun;
        reached = λ x a. w.reached x (subst (λ l. IsIn x l) (sym same) a);
        empty = w.empty;
        here = λ x q. elim (w.here x q) [ inl k ↦ absurd (far k.1) | inr k ↦ k ];
        past = w.past;
        top = record { low = w.chain.0.low; only_empty = λ s. absurd (far (w.chain.1 s)); needs = λ s. absurd (far (w.chain.1 s)) };
        chain = w.chain.2;
        distinct = w.distinct;
        defined = w.defined;
        marked = w.marked;
      }

  -- and has turned out to be empty
  pub walk_up_empty : {root done rest : List ℕ} {T U : List ℕ → Option Mark} {fs : List Frame} {f h : Frame} {L : List (List ℕ)} → Walk C ns root done T (h ∷ fs) f rest L → remaining ns f.rest ≡ [] → f.start ≡ length rest → Updated T U (name_at ns f.at) Empty → Walk C ns root done U fs h rest L
  walk_up_empty {root} {done} {rest} {T} {U} {fs} {f} {h} {L} w e at u =
      let same : pending ns (f ∷ h ∷ fs) ≡ pending ns (h ∷ fs) = ap (λ l. l ++ pending ns (h ∷ fs)) e in
      let is : OnlyEmpty C (name_at ns f.at) = w.top.only_empty at (λ p a. elim (subst (λ l. IsIn p l) e a) [ ]) in
      record {
        begun = subst (λ l. Begun C root done l) same w.begun;
        reached = λ x a. w.reached x (subst (λ l. IsIn x l) (sym same) a);
        empty = λ x q. elim (name_cases x (name_at ns f.at)) [ inl k ↦ subst (λ y. OnlyEmpty C y) (sym k) is | inr k ↦ w.empty x (sym (u.others x k) ∙ q) ];
        here = λ x q. elim (name_cases x (name_at ns f.at)) [
          | inl k ↦ (let a = u.here in let b = ap U k in cc)
          | inr k ↦ elim (w.here x (sym (u.others x k) ∙ q)) [ inl j ↦ absurd (k (sym j.0)) | inr j ↦ j ]
        ];
        past = λ x n q. elim (name_cases x (name_at ns f.at)) [ inl k ↦ (let a = u.here in let b = ap U k in cc) | inr k ↦ w.past x n (sym (u.others x k) ∙ q) ];
        top = record {
          low = w.chain.0.low;
          only_empty = λ s a. w.chain.0.only_empty s (only_empty_more C is a);
          needs = λ s. let n = w.chain.0.needs s in (n.0, n.1, (λ q a. n.2 q (later a)), n.3, n.4, reads_on C n.5 (reads_member C is.0));
        };
        chain = w.chain.2;
        distinct = w.distinct;
        defined = w.defined;
        marked = λ x a. still_marked u (w.marked x a);
      }
    where
      still_marked : {T U : List ℕ → Option Mark} {p x : List ℕ} {o : ℕ} → Updated T U p Empty → (T x ≡ Some Empty) ⊎ (T x ≡ Some (Open o)) → (U x ≡ Some Empty) ⊎ (U x ≡ Some (Open o))
      still_marked {T} {U} {p} {x} {o} u h =
          let Goal : Type 0 = (U x ≡ Some Empty) ⊎ (U x ≡ Some (Open o)) in
          let go : (x ≡ p) ⊎ (x ≡ p → ⊥) → Goal = elim [
            | inl q ↦ inl (ap U q ∙ u.here)
            | inr q ↦ elim h [ inl b ↦ inl (u.others x q ∙ b) | inr b ↦ inr (u.others x q ∙ b) ]
          ] in
          go (name_cases x p)

  -- the next name is opened: what is kept of the members
  module _ {root done rest p : List ℕ} {T : List ℕ → Option Mark} {fs : List Frame} {f : Frame} {L : List (List ℕ)} (w : Walk C ns root done T fs f rest L) (r : Rest) (e : remaining ns f.rest ≡ p ∷ remaining ns r) where
    next_is : pending ns (f ∷ fs) ≡ p ∷ (remaining ns r ++ pending ns fs)
    next_is = ap (λ l. l ++ pending ns fs) e

    next_reached : Reached C root p
    next_reached = w.reached p (subst (λ l. IsIn p l) (sym next_is) first)

    reached_more : {d : Shape} (g : Frame) → C p ≡ Some d → ((q : List ℕ) → IsIn q (remaining ns g.rest) → IsIn q (references d)) → (x : List ℕ) → IsIn x (pending ns (g ∷ with_rest f r ∷ fs)) → Reached C root x
    reached_more {d} g c mentioned x a =
        let go : IsIn x (remaining ns g.rest) ⊎ IsIn x (remaining ns r ++ pending ns fs) → Reached C root x = elim [
          | inl b ↦ onward d next_reached c (mentioned x b)
          | inr b ↦ w.reached x (subst (λ l. IsIn x l) (sym next_is) (later b))
        ] in
        go (among_append (remaining ns g.rest) (remaining ns r ++ pending ns fs) a)

    on_next : {d : Shape} {n : ℕ} (g : Frame) → C p ≡ Some d → Takes C d rest n (remaining ns g.rest) → Begun C root (done ++ take n rest) (remaining ns g.rest ++ (remaining ns r ++ pending ns fs))
    on_next {d} g c t = begun_on C d c t.opens t.once (subst (λ l. Begun C root done l) next_is w.begun)

    pub part_reached : Reached C root p
    part_reached = next_reached

    -- without a byte
    pub walk_still : {U : List ℕ → Option Mark} {d : Shape} {n : ℕ} (g : Frame) → n ≡ 0 → C p ≡ Some d → Takes C d rest n (remaining ns g.rest) → (T p ≡ Some Empty → ⊥) → (T p ≡ Some (Open (length rest)) → ⊥) → Updated T U p (Open (length rest)) → name_at ns g.at ≡ p → g.start ≡ length rest → Walk C ns root done U (with_rest f r ∷ fs) g rest (p ∷ L)
    walk_still {U} {d} {n} g zero_is c t not_empty not_open u name start =
        record {
          begun = subst (λ l. Begun C root l (remaining ns g.rest ++ (remaining ns r ++ pending ns fs))) (none n zero_is rest) (on_next g c t);
          reached = reached_more g c t.mentioned;
          empty = λ x h. elim (name_cases x p) [ inl q ↦ (let a = u.here in let b = ap U q in cc) | inr q ↦ w.empty x (sym (u.others x q) ∙ h) ];
          here = λ x h. elim (name_cases x p) [ inl q ↦ inl (name ∙ sym q, start) | inr q ↦ inr (on_with f r fs (w.here x (sym (u.others x q) ∙ h))) ];
          past = λ x k h. elim (name_cases x p) [ inl q ↦ (let a = u.here in let b = ap U q in let z : k ≡ length rest = cc in omega (arith, z)) | inr q ↦ w.past x k (sym (u.others x q) ∙ h) ];
          top = record {
            low = omega (arith, start);
            only_empty = λ _ a. subst (λ y. OnlyEmpty C y) (sym name) (t.only_empty zero_is p c a);
            needs = λ _. (d, ap C name ∙ c, t.needs zero_is, remaining ns g.rest, subst (λ i. Opens C d (take i rest) (remaining ns g.rest)) zero_is t.opens, reads_none);
          };
          chain = (subst (λ y. Waits C (length rest) f.start (name_at ns f.at) (y ∷ remaining ns r)) (sym name) (subst (λ l. Waits C (length rest) f.start (name_at ns f.at) l) e w.top), (λ _. start), w.chain);
          distinct = distinct_more (λ a. elim (w.marked p a) [ inl h ↦ not_empty h | inr h ↦ not_open h ]) w.distinct;
          defined = λ x a. also_defined C d c w.defined x a;
          marked = λ x a. also_marked u w.marked x a;
        }
      where
        none : (n : ℕ) → n ≡ 0 → (bs : List ℕ) → done ++ take n bs ≡ done
        none n z bs = ap (λ i. done ++ take i bs) z ∙ append-nil done

        on_with : {x : List ℕ} {o : ℕ} (f : Frame) (r : Rest) (fs : List Frame) → On ns x o (f ∷ fs) → On ns x o (with_rest f r ∷ fs)
        on_with f r fs (inl h) = inl h
        on_with f r fs (inr h) = inr h

        also_marked : {T U : List ℕ → Option Mark} {p : List ℕ} {o : ℕ} {L : List (List ℕ)} → Updated T U p (Open o) → ((x : List ℕ) → IsIn x L → (T x ≡ Some Empty) ⊎ (T x ≡ Some (Open o))) → (x : List ℕ) → IsIn x (p ∷ L) → (U x ≡ Some Empty) ⊎ (U x ≡ Some (Open o))
        also_marked u f x first = inr u.here
        also_marked {T} {U} {p} {o} u f x (later a) =
            let Goal : Type 0 = (U x ≡ Some Empty) ⊎ (U x ≡ Some (Open o)) in
            let go : (T x ≡ Some Empty) ⊎ (T x ≡ Some (Open o)) → (x ≡ p) ⊎ (x ≡ p → ⊥) → Goal = λ h k. elim k [
              | inl q ↦ inr (ap U q ∙ u.here)
              | inr q ↦ elim h [ inl b ↦ inl (u.others x q ∙ b) | inr b ↦ inr (u.others x q ∙ b) ]
            ] in
            go (f x a) (name_cases x p)

    -- with some bytes: no frame has taken none since
    pub walk_on : {d : Shape} {n : ℕ} (g : Frame) → 0 < n → C p ≡ Some d → Takes C d rest n (remaining ns g.rest) → name_at ns g.at ≡ p → g.start ≡ length rest → Walk C ns root (done ++ take n rest) T (with_rest f r ∷ fs) g (drop n rest) []
    walk_on {d} {n} g more c t name start =
        let less : length (drop n rest) < length rest = (let i = t.within in let k = length-drop n rest in omega (arith, i, k)) in
        record {
          begun = on_next g c t;
          reached = reached_more g c t.mentioned;
          empty = w.empty;
          here = λ x h. let k = w.past x (length (drop n rest)) h in absurd (omega (arith, k, less));
          past = λ x k h. let i = w.past x k h in omega (arith, i, less);
          top = far_off (omega (arith, start, less));
          chain = (let k = w.top.low in (far_off (omega (arith, k, less)), (λ q. absurd (omega (arith, k, less, q))), far_chain fs (name_at ns f.at) f.start less w.chain));
          distinct = distinct_none;
          defined = λ x a. elim a [ ];
          marked = λ x a. elim a [ ];
        }

    -- ---- answers
    -- where no member of the next name begins with some bytes, none of the root does behind those that are read
    pub denied : {bs : List ℕ} → (BeginsWith C p bs → ⊥) → BeginsWith C root (done ++ bs) → ⊥
    denied deny = begun_denied C (subst (λ l. Begun C root done l) next_is w.begun) deny

    pub leads_back : T p ≡ Some (Open (length rest)) → IsOnCycle C required_by p × LeadsTo C p p
    leads_back h =
        let l = on_leads (length rest) fs f w.chain (w.here p h) in
        let n = w.top.needs l.0 in (
          (name_at ns f.at, n.0, l.1, n.1, n.2 p (subst (λ l. IsIn p l) (sym e) first)),
          leads_on C n.0 l.2 n.1 n.4 (subst (λ l. Reads C n.3 [] l) e n.5),
        )
      where
        on_leads : {x : List ℕ} (o : ℕ) (fs : List Frame) (f : Frame) → Chain C ns o fs (name_at ns f.at) f.start → On ns x o (f ∷ fs) → (f.start ≡ o) × Reaches C required_by x (name_at ns f.at) × ((x ≡ name_at ns f.at) ⊎ LeadsTo C x (name_at ns f.at))
        on_leads o fs f c (inl h) = (h.1, subst (λ y. Reaches C required_by y (name_at ns f.at)) h.0 stays, inl (sym h.0))
        on_leads o [] f c (inr h) = absurd h
        on_leads o (g ∷ fs) f c (inr h) =
            let l = on_leads o fs g c.2 h in
            let n = c.0.needs l.0 in
            (c.1 l.0, onward n.0 l.1 n.1 (n.2 (name_at ns f.at) first), inr (leads_on C n.0 l.2 n.1 n.4 n.5))

-- ---- names are passed at once
module _ (C : List ℕ → Option Shape) (ns : List Named) where
  -- the next names are passed with bytes that are their only members
  pub walk_free : {root done rest : List ℕ} {T : List ℕ → Option Mark} {fs : List Frame} {f : Frame} {L : List (List ℕ)} (qs : List (List ℕ)) (n : ℕ) (r : Rest) → Walk C ns root done T fs f rest L → AreFirst C qs rest n → remaining ns f.rest ≡ qs ++ remaining ns r → 0 < n → Walk C ns root (done ++ take n rest) T fs (with_rest f r) (drop n rest) []
  walk_free {root} {done} {rest} {T} {fs} {f} {L} qs n r w free e more =
      let same : pending ns (f ∷ fs) ≡ qs ++ (remaining ns r ++ pending ns fs) = ap (λ l. l ++ pending ns fs) e ∙ append_assoc qs (remaining ns r) (pending ns fs) in
      let less : length (drop n rest) < length rest = (let k = length-drop n rest in omega (arith, k, free.0, more)) in
      record {
        begun = begun_first C (take n rest) qs (remaining ns r ++ pending ns fs) free.1 (subst (λ l. Begun C root done l) same w.begun);
        reached = λ x a. w.reached x (subst (λ l. IsIn x l) (sym same) (among_right qs (remaining ns r ++ pending ns fs) a));
        empty = w.empty;
        here = λ x h. let k = w.past x (length (drop n rest)) h in absurd (omega (arith, k, less));
        past = λ x k h. let i = w.past x k h in omega (arith, i, less);
        top = far_off C ns (let k = w.top.low in omega (arith, k, less));
        chain = far_chain C ns fs (name_at ns f.at) f.start less w.chain;
        distinct = distinct_none;
        defined = λ x a. elim a [ ];
        marked = λ x a. elim a [ ];
      }

-- ---- the walk over the bytes, by the places of a plan
module _ (l : Plan) where
  pub going_start : (bytes : List ℕ) (ms : List (Option Mark)) → ms ≡ replicate (length (names_of l)) None → Going l [] ms [] (record { at = 0; start = length bytes + 1; rest = Copies 0 1 }) bytes 0
  going_start bytes ms z =
      let r = root_there l in
      let f : Frame = record { at = 0; start = length bytes + 1; rest = Copies 0 1 } in
      record {
        names = [];
        state = walk_start (definitions_of l) (names_of l) f (λ x. ap (λ k. mark_at k (place l x)) z ∙ none_marked (length (names_of l)) (place l x)) (omega arith) (ap (λ x. x ∷ []) r.1);
        count = refl;
        long = ap (λ k. length k) z ∙ length-replicate (length (names_of l)) None;
        fits = (r.0, r.0, tt);
      }

  module _ {done rest : List ℕ} {ms : List (Option Mark)} {fs : List Frame} {f : Frame} {idle : ℕ} (w : Going l done ms fs f rest idle) (s : Step) (g : StepsOn (names_of l) f.rest s) where
    mark_is : mark_at ms (place l (name_at (names_of l) s.at)) ≡ get_or ms s.at None
    mark_is = mark_here l ms s.at g.within

    pub next_names : pending (names_of l) (f ∷ fs) ≡ name_at (names_of l) s.at ∷ (remaining (names_of l) s.others ++ pending (names_of l) fs)
    next_names = ap (λ ps. ps ++ pending (names_of l) fs) g.parts

    pub going_skip : OnlyEmpty (definitions_of l) (name_at (names_of l) s.at) → Going l done ms fs (with_rest f (past_copies f.rest s)) rest idle
    going_skip h =
        let p = passes (names_of l) f.rest s g in
        record {
          names = w.names;
          state = walk_skip (definitions_of l) (names_of l) p.0 (past_copies f.rest s) w.state h p.1;
          count = w.count;
          long = w.long;
          fits = (w.fits.0, p.3, w.fits.2);
        }

    pub known_empty : get_or ms s.at None ≡ Some Empty → OnlyEmpty (definitions_of l) (name_at (names_of l) s.at)
    known_empty k = w.state.empty (name_at (names_of l) s.at) (mark_is ∙ k)

    pub less_skip : left (map_of l) (names_of l) (length rest) idle (with_rest f (past_copies f.rest s) ∷ fs) < left (map_of l) (names_of l) (length rest) idle (f ∷ fs)
    less_skip = let p = passes (names_of l) f.rest s g in left_moved (map_of l) (names_of l) (length rest) idle f (with_rest f (past_copies f.rest s)) fs p.2

    pub going_reached : Reached (definitions_of l) (root_of l) (name_at (names_of l) s.at)
    going_reached = part_reached (definitions_of l) (names_of l) w.state s.others g.parts

    pub going_back : {r : Reason} → get_or ms s.at None ≡ Some (Open (length rest)) → NoneBegins (definitions_of l) r (name_at (names_of l) s.at) rest
    going_back k more f m = not_required (definitions_of l) m.2 (leads_back (definitions_of l) (names_of l) w.state s.others g.parts (mark_is ∙ k)).0

    pub going_leads : get_or ms s.at None ≡ Some (Open (length rest)) → LeadsTo (definitions_of l) (name_at (names_of l) s.at) (name_at (names_of l) s.at)
    going_leads k = (leads_back (definitions_of l) (names_of l) w.state s.others g.parts (mark_is ∙ k)).1

    -- the name is the next to be read
    pub going_next : Reads (definitions_of l) ((root_of l) ∷ []) done (name_at (names_of l) s.at ∷ (remaining (names_of l) s.others ++ pending (names_of l) fs))
    going_next = subst (λ ps. Reads (definitions_of l) ((root_of l) ∷ []) done ps) next_names w.state.begun.reads

    pub going_denied : (r : Reason) → NoneBegins (definitions_of l) r (name_at (names_of l) s.at) rest → NoneBegins (definitions_of l) r (root_of l) (done ++ rest)
    going_denied r deny more f m = denied (definitions_of l) (names_of l) w.state s.others g.parts (deny more f) (subst (λ b. BeginsWith (definitions_of l) (root_of l) b) (append_assoc done rest more) m)

    pub going_missing : {r : Reason} → shape_at (names_of l) s.at ≡ None → NoneBegins (definitions_of l) r (name_at (names_of l) s.at) rest
    going_missing e more f m = undefined_none (definitions_of l) (names_of l) (defined_at l s.at g.within ∙ e) m.2

    module _ (d : Shape) (c : shape_at (names_of l) s.at ≡ Some d) (n : ℕ) (r : Rest) (o : OpensAs (definitions_of l) (names_of l) d rest (Taken n r)) where
      pub name_defined : (definitions_of l) (name_at (names_of l) s.at) ≡ Some d
      name_defined = defined_at l s.at g.within ∙ c

      still : n ≡ 0 → KnownAs (get_or ms s.at None) (length rest) None → Walk (definitions_of l) (names_of l) (root_of l) done (λ x. mark_at (set ms s.at (Some (Open (length rest)))) (place l x)) (with_rest f s.others ∷ fs) (record { at = s.at; start = length rest; rest = r }) rest (name_at (names_of l) s.at ∷ w.names)
      still z k = walk_still (definitions_of l) (names_of l) w.state s.others g.parts (record { at = s.at; start = length rest; rest = r }) z name_defined o.0 (λ e. k.0 (sym mark_is ∙ e)) (λ e. k.1 (sym mark_is ∙ e)) (marked l ms s.at (Open (length rest)) w.long g.within) refl refl

      pub room : n ≡ 0 → KnownAs (get_or ms s.at None) (length rest) None → suc idle ≤ btree_map_len (map_of l)
      room z k = let t = still z k in let few = names_within (map_of l) (name_at (names_of l) s.at ∷ w.names) t.distinct t.defined in let c = w.count in omega (arith, few, c)

      pub going_new : n ≡ 0 → KnownAs (get_or ms s.at None) (length rest) None → Going l done (set ms s.at (Some (Open (length rest)))) (with_rest f s.others ∷ fs) (record { at = s.at; start = length rest; rest = r }) rest (idle + 1)
      going_new z k = record {
        names = name_at (names_of l) s.at ∷ w.names;
        state = still z k;
        count = ap suc w.count ∙ sym (add-one idle);
        long = length-set ms s.at (Some (Open (length rest))) ∙ w.long;
        fits = (g.within, o.2, (w.fits.0, g.fits, w.fits.2));
      }

      pub going_on : 0 < n → Going l (done ++ take n rest) ms (with_rest f s.others ∷ fs) (record { at = s.at; start = length rest; rest = r }) (drop n rest) 0
      going_on more = record {
        names = [];
        state = walk_on (definitions_of l) (names_of l) w.state s.others g.parts (record { at = s.at; start = length rest; rest = r }) more name_defined o.0 refl refl;
        count = refl;
        long = w.long;
        fits = (g.within, o.2, (w.fits.0, g.fits, w.fits.2));
      }

      fewer : 0 < n → length (drop n rest) < length rest
      fewer more = let t = o.0 in let i = t.within in let d = length-drop n rest in omega (arith, i, d, more)

      -- a name without parts
      pub going_past : 0 < n → remaining (names_of l) r ≡ [] → Going l (done ++ take n rest) ms fs (with_rest f s.others) (drop n rest) 0
      unfolding going_on
      going_past more none =
          let v = going_on more in
          record {
            names = [];
            state = walk_up (definitions_of l) (names_of l) v.state none (λ q. (let k = fewer more in absurd (omega (arith, q, k))));
            count = refl;
            long = w.long;
            fits = v.fits.2;
          }

      small_frame : step_count (names_of l) r ≤ 2 + work references (map_of l).entries
      small_frame = let k = work_within references (map_of l) (name_at (names_of l) s.at) d name_defined in let i = o.1 in omega (arith, k, i)

      pub less_new : n ≡ 0 → KnownAs (get_or ms s.at None) (length rest) None → left (map_of l) (names_of l) (length rest) (idle + 1) (record { at = s.at; start = length rest; rest = r } ∷ with_rest f s.others ∷ fs) < left (map_of l) (names_of l) (length rest) idle (f ∷ fs)
      less_new z k = subst (λ i. left (map_of l) (names_of l) (length rest) i (record { at = s.at; start = length rest; rest = r } ∷ with_rest f s.others ∷ fs) < left (map_of l) (names_of l) (length rest) idle (f ∷ fs)) (sym (add-one idle)) (left_still (map_of l) (names_of l) (length rest) idle f (with_rest f s.others) (record { at = s.at; start = length rest; rest = r }) fs (room z k) g.steps small_frame)

      pub less_on : 0 < n → left (map_of l) (names_of l) (length (drop n rest)) 0 (record { at = s.at; start = length rest; rest = r } ∷ with_rest f s.others ∷ fs) < left (map_of l) (names_of l) (length rest) idle (f ∷ fs)
      less_on more = left_on (map_of l) (names_of l) (length (drop n rest)) (length rest) idle f (with_rest f s.others) (record { at = s.at; start = length rest; rest = r }) fs (fewer more) g.steps small_frame

      pub less_past : 0 < n → left (map_of l) (names_of l) (length (drop n rest)) 0 (with_rest f s.others ∷ fs) < left (map_of l) (names_of l) (length rest) idle (f ∷ fs)
      less_past more = left_past (map_of l) (names_of l) (length (drop n rest)) (length rest) idle f (with_rest f s.others) fs (fewer more) g.steps

  -- names are passed
  module _ {done rest : List ℕ} {ms : List (Option Mark)} {fs : List Frame} {f : Frame} {idle : ℕ} (w : Going l done ms fs f rest idle) (p : Passed) (g : IsFreeFront (definitions_of l) (names_of l) f.rest rest p) where
    pub going_pass : Going l (done ++ take p.taken rest) ms fs (with_rest f p.rest) (drop p.taken rest) 0
    going_pass = record {
      names = [];
      state = walk_free (definitions_of l) (names_of l) g.names p.taken p.rest w.state g.first g.parts g.some;
      count = refl;
      long = w.long;
      fits = (w.fits.0, g.fits, w.fits.2);
    }

    pub fewer_pass : length (drop p.taken rest) < length rest
    fewer_pass = let d = length-drop p.taken rest in let a = g.some in let b = g.first.0 in omega (arith, d, a, b)

    pub less_pass : left (map_of l) (names_of l) (length (drop p.taken rest)) 0 (with_rest f p.rest ∷ fs) < left (map_of l) (names_of l) (length rest) idle (f ∷ fs)
    less_pass = left_past (map_of l) (names_of l) (length (drop p.taken rest)) (length rest) idle f (with_rest f p.rest) fs fewer_pass g.steps

  pub going_up : {done rest : List ℕ} {ms : List (Option Mark)} {fs : List Frame} {f h : Frame} {idle : ℕ} → Going l done ms (h ∷ fs) f rest idle → remaining (names_of l) f.rest ≡ [] → (f.start ≡ length rest → ⊥) → Going l done ms fs h rest idle
  going_up w e far = record { names = w.names; state = walk_up (definitions_of l) (names_of l) w.state e far; count = w.count; long = w.long; fits = w.fits.2 }

  pub going_up_empty : {done rest : List ℕ} {ms : List (Option Mark)} {fs : List Frame} {f h : Frame} {idle : ℕ} → Going l done ms (h ∷ fs) f rest idle → remaining (names_of l) f.rest ≡ [] → f.start ≡ length rest → Going l done (set ms f.at (Some Empty)) fs h rest idle
  going_up_empty {ms = ms} {f = f} w e at = record {
    names = w.names;
    state = walk_up_empty (definitions_of l) (names_of l) w.state e at (marked l ms f.at Empty w.long w.fits.0);
    count = w.count;
    long = length-set ms f.at (Some Empty) ∙ w.long;
    fits = w.fits.2;
  }
