-- The walk for a size: what its loop keeps, and each of its steps.
use Rattle.std.proofs.Common.{◌≡◌, ◌≢◌, ℕ, suc, zero, ◌+◌, ◌*◌, ◌<◌, ◌≤◌, List, [], ◌∷◌, ◌++◌, length, replicate, take, drop, take-append-drop, Some, None, refl, sym, ◌∙◌, ap, subst, arith, inl, inr}
use Rattle.std.specs.Prelude.{AllPairs, Option, String, max, slice_get, sum, ⊤}
use Rattle.borsh_walks.specs.Container.{Shape, primitive, sequence, product, choice, IsIn, IsDefined, first, later, size_references, greatest, size_from_parts, MaxSize, sized, MaxSizes, no_sizes, more_sizes, PartialSize, left_out, taken, PartialSizes, no_partial, more_partial, Reaches, stays, onward, SizeReaches, IsRecursive}
use Rattle.borsh_walks.specs.Definitions.{spot_shape}
use Rattle.borsh_walks.specs.SizeParts.{partial_size, add_part, size_of_parts}
use Rattle.borsh_walks.specs.SizeAnswer.{AreSizeReached}
use Rattle.borsh_walks.specs.Tables.{Visited}
use Rattle.borsh_walks.specs.Places.{place_in}
use Rattle.borsh_walks.specs.declared.sizes.Frame.{Frame}
use Rattle.borsh_walks.specs.declared.sizes.Mark.{Mark}
use Rattle.borsh_walks.specs.declared.sizes.Mark.TheVariants.{Open, Finished}
use Rattle.borsh_walks.specs.declared.stack.Spot.{Spot}
use Rattle.std.proofs.lemmas.List.Sums.{sum_by-append, sum_by_push}
use Rattle.borsh_walks.proofs.Laws.{one_definition, sum-replicate, sizes_among, no_cycle, size_partial, sizes_partial}
use Rattle.borsh_walks.proofs.Names.{distinct_none, distinct_more, distinct_rest, among_get, among_left, among_one, other_one, name_cases}
use Rattle.borsh_walks.proofs.Tables.{Updated, marks_more, marks_again, marks_start}
use Rattle.borsh_walks.proofs.Spots.{moved, names_of, take_more, take_whole, SpotOk, spot_new, spot_moved, spot_kept, all_settled, Chain, chain_leads, chain_kept, path_leads}

abbrev pub shape : Frame → Shape
shape f = spot_shape f.spot

abbrev pub spots_of : List Frame → List Spot
spots_of [] = []
spots_of (f ∷ fs) = f.spot ∷ spots_of fs

abbrev pub path_of : Frame → List Frame → List (List ℕ)
path_of f fs = names_of (spots_of (f ∷ fs))

-- the places of the next parts fit
abbrev pub AllSmall : List Frame → Type 0
AllSmall [] = ⊤
AllSmall (f ∷ fs) = (f.spot.next < 18446744073709551615) × AllSmall fs

-- each has the place of its name
abbrev pub AllPlaced : {A X : Type 0} → List (String A × X) → List Frame → Type 0
AllPlaced es [] = ⊤
AllPlaced es (f ∷ fs) = (place_in es f.spot.name.now ≡ Some f.place) × AllPlaced es fs

-- the frame with one more part, where the parts make n
abbrev pub gathered_more : Frame → ℕ → Frame
gathered_more f n = record f { spot = moved f.spot; gathered = n }

-- ---- sizes one after another
pub total_is : (d : Shape) (ns : List ℕ) → size_from_parts d ns ≡ size_of_parts d (partial_size d ns)
total_is (primitive n) ns = refl
total_is (sequence w lo hi e) ns = refl
total_is (product ps) ns = refl
total_is (choice w vs) ns = refl

greatest-more : (ns : List ℕ) (n : ℕ) → greatest (ns ++ n ∷ []) ≡ max (greatest ns) n
greatest-more [] n = omega arith
greatest-more (m ∷ ns) n = let h = greatest-more ns n in omega arith

pub gathered-one_more : (d : Shape) (ns : List ℕ) (n : ℕ) → partial_size d (ns ++ n ∷ []) ≡ add_part d (partial_size d ns) n
gathered-one_more (primitive k) ns n = sum_by_push (λ x. x) ns n
gathered-one_more (sequence w lo hi e) ns n = sum_by_push (λ x. x) ns n
gathered-one_more (product ps) ns n = sum_by_push (λ x. x) ns n
gathered-one_more (choice w vs) ns n = greatest-more ns n

sum-zeros : (ns : List ℕ) (k : ℕ) → sum (ns ++ replicate k 0) ≡ sum ns
sum-zeros ns k = let a = sum_by-append (λ x. x) ns (replicate k 0) in let z = sum-replicate k 0 in omega (arith, a, z)

greatest-zeros : (ns : List ℕ) (k : ℕ) → greatest (ns ++ replicate k 0) ≡ greatest ns
greatest-zeros [] zero = refl
greatest-zeros [] (suc k) = let h = greatest-zeros [] k in omega arith
greatest-zeros (m ∷ ns) k = let h = greatest-zeros ns k in omega arith

-- a definition that needs a part is at least as large as what its parts make
sum-le-times : (hi s : ℕ) → 0 < hi → s ≤ hi * s
sum-le-times zero s h = absurd (omega arith)
sum-le-times (suc hi) s h = omega arith

pub gathered-le_total : (d : Shape) {p : List ℕ} (ns : List ℕ) → IsIn p (size_references d) → partial_size d ns ≤ size_from_parts d ns
gathered-le_total (primitive k) ns a = elim a [ ]
gathered-le_total (sequence w lo zero e) ns a = elim a [ ]
gathered-le_total (sequence w lo (suc hi) e) ns a = let h = sum-le-times (suc hi) (sum ns) (omega arith) in omega arith
gathered-le_total (product ps) ns a = omega arith
gathered-le_total (choice w vs) ns a = omega arith

pub gathered-zeros : (d : Shape) (ns : List ℕ) (k : ℕ) → partial_size d (ns ++ replicate k 0) ≡ partial_size d ns
gathered-zeros (primitive n) ns k = sum-zeros ns k
gathered-zeros (sequence w lo hi e) ns k = sum-zeros ns k
gathered-zeros (product ps) ns k = sum-zeros ns k
gathered-zeros (choice w vs) ns k = greatest-zeros ns k

pub gathered-none : (d : Shape) → partial_size d [] ≡ 0
gathered-none (primitive n) = refl
gathered-none (sequence w lo hi e) = refl
gathered-none (product ps) = refl
gathered-none (choice w vs) = refl

-- ---- the walk
module _ (C : List ℕ → Option Shape) where
  sizes_snoc : {ps : List (List ℕ)} {ns : List ℕ} {p : List ℕ} {n : ℕ} → MaxSizes C ps ns → MaxSize C p n → MaxSizes C (ps ++ p ∷ []) (ns ++ n ∷ [])
  sizes_snoc no_sizes s = more_sizes s no_sizes
  sizes_snoc (more_sizes t ts) s = more_sizes t (sizes_snoc ts s)

  partial_zeros : (stack ps : List (List ℕ)) → PartialSizes C stack ps (replicate (length ps) 0)
  partial_zeros stack [] = no_partial
  partial_zeros stack (p ∷ ps) = more_partial left_out (partial_zeros stack ps)

  partial_append : {stack ps qs : List (List ℕ)} {ms ns : List ℕ} → PartialSizes C stack ps ms → PartialSizes C stack qs ns → PartialSizes C stack (ps ++ qs) (ms ++ ns)
  partial_append no_partial t = t
  partial_append (more_partial s ss) t = more_partial s (partial_append ss t)

  module _ (T : List ℕ → Option Mark) where
    abbrev pub IsFinished : List ℕ → Type 0
    IsFinished x = (n : ℕ) × (T x ≡ Some (Finished n))

  -- what the settled parts of a frame make
  pub record Made (f : Frame) : Type 0 where
    pub sizes : List ℕ
    pub are : MaxSizes C (take f.spot.next (size_references (shape f))) sizes
    pub made : f.gathered ≡ partial_size (shape f) sizes

  abbrev pub AllMade : List Frame → Type 0
  AllMade [] = ⊤
  AllMade (f ∷ fs) = Made f × AllMade fs

  made_none : {f : Frame} → f.spot.next ≡ 0 → f.gathered ≡ 0 → Made f
  made_none {f} next made = record { sizes = []; are = subst (λ i. MaxSizes C (take i (size_references (shape f))) []) (sym next) no_sizes; made = made ∙ sym (gathered-none (shape f)) }

  needed_finished : {U : List ℕ → Option Mark} (root : List ℕ) → IsFinished U root → ((x : List ℕ) (n : ℕ) (d : Shape) → U x ≡ Some (Finished n) → C x ≡ Some d → (y : List ℕ) → IsIn y (size_references d) → IsFinished U y) → {x : List ℕ} → SizeReaches C root x → IsFinished U x
  needed_finished root r closed stays = r
  needed_finished root r closed (onward {y = y} {z = z} d l p a) = let k = needed_finished root r closed l in closed y k.0 d k.1 p z a

  lead_trans : {x y z : List ℕ} → Reaches C size_references x y → Reaches C size_references y z → Reaches C size_references x z
  lead_trans l stays = l
  lead_trans l (onward d m p a) = onward d (lead_trans l m) p a

  -- the finished parts of a frame do not lead back to the stack
  frame_apart : {f : Frame} (m : Made f) (stack : List (List ℕ)) → C f.spot.name.now ≡ Some (shape f) → ((z : List ℕ) → IsIn z (f.spot.name.now ∷ stack) → Reaches C size_references z f.spot.name.now) → (y : List ℕ) → IsIn y (take f.spot.next (size_references (shape f))) → (z : List ℕ) → Reaches C size_references y z → IsIn z (f.spot.name.now ∷ stack) → ⊥
  frame_apart {f} m stack defined ups y a z l b =
      let s = sizes_among C a m.are in
      let in_needs = subst (λ l. IsIn y l) (take-append-drop f.spot.next (size_references (shape f))) (among_left (take f.spot.next (size_references (shape f))) (drop f.spot.next (size_references (shape f))) a) in
      no_cycle C s.1 (f.spot.name.now, shape f, lead_trans l (ups z b), defined, in_needs)

  -- a partial size of a frame's name, from one of its next part
  frame_partial : {f : Frame} (m : Made f) (limit : ℕ) (stack : List (List ℕ)) (p : List ℕ) (k : ℕ) → C f.spot.name.now ≡ Some (shape f) → ((z : List ℕ) → IsIn z (f.spot.name.now ∷ stack) → Reaches C size_references z f.spot.name.now) → (IsIn f.spot.name.now stack → ⊥) → slice_get (size_references (shape f)) f.spot.next ≡ Some p → PartialSize C (f.spot.name.now ∷ stack) p k → limit ≤ partial_size (shape f) (m.sizes ++ k ∷ []) → (n : ℕ) × PartialSize C stack f.spot.name.now n × (limit ≤ n)
  frame_partial {f} m limit stack p k defined ups far e s low =
      let i = f.spot.next in
      let ps = size_references (shape f) in
      let rest = drop (i + 1) ps in
      let ns = (m.sizes ++ k ∷ []) ++ replicate (length rest) 0 in
      let whole : ps ≡ (take i ps ++ p ∷ []) ++ rest = sym (take-append-drop (i + 1) ps) ∙ ap (λ u. u ++ rest) (take_more ps i e) in
      let front = sizes_partial C (f.spot.name.now ∷ stack) m.are (frame_apart m stack defined ups) in
      let all = partial_append (partial_append front (more_partial s no_partial)) (partial_zeros (f.spot.name.now ∷ stack) rest) in
      let large = gathered-le_total (shape f) ns (among_get ps i e) in
      let same = gathered-zeros (shape f) (m.sizes ++ k ∷ []) (length rest) in
      (size_from_parts (shape f) ns, taken (shape f) far defined (subst (λ u. PartialSizes C (f.spot.name.now ∷ stack) u ns) (sym whole) all), omega (arith, large, same, low))

  part_large : (d : Shape) (ms : List ℕ) (k : ℕ) → k ≤ partial_size d (ms ++ k ∷ [])
  part_large (primitive n) ms k = rw (sum_by_push (λ x. x)) (omega arith)
  part_large (sequence w lo hi e) ms k = rw (sum_by_push (λ x. x)) (omega arith)
  part_large (product ps) ms k = rw (sum_by_push (λ x. x)) (omega arith)
  part_large (choice w vs) ms k = rw greatest-more (omega arith)

  -- a partial size of the end lifts to one of the root
  lifted : (S : List ℕ → Type 0) {root : List ℕ} (y : List ℕ) (limit : ℕ) (fs : List Frame) → Chain C size_references S root (spots_of fs) y → AllMade fs → AllPairs ◌≢◌ (names_of (spots_of fs)) → ((k : ℕ) × PartialSize C (names_of (spots_of fs)) y k × (limit ≤ k)) → (k : ℕ) × PartialSize C [] root k × (limit ≤ k)
  lifted S y limit [] c m apart s = (s.0, subst (λ z. PartialSize C [] z s.0) (sym c) s.1, s.2)
  lifted S y limit (f ∷ fs) c m apart s =
      let large = part_large (shape f) m.0.sizes s.0 in
      let far = distinct_rest apart in
      lifted S f.spot.name.now limit fs c.2 m.1 far.1 (frame_partial m.0 limit (names_of (spots_of fs)) y s.0 c.0.defined (λ z a. (path_leads C size_references S (spots_of fs) c.2 a).1) far.0 c.1 s.1 (omega (arith, large, s.2)))

  -- ---- what the loop keeps: T marks the names, fs is the stack and f its last frame, L the names looked at
  pub record State (root : List ℕ) (T : List ℕ → Option Mark) (fs : List Frame) (f : Frame) (L : List (List ℕ)) : Type 0 where
    pub chain : Chain C size_references (IsFinished T) root (spots_of fs) f.spot.name.now
    pub ok : SpotOk C size_references (IsFinished T) f.spot
    pub made : AllMade (f ∷ fs)
    pub apart : AllPairs ◌≢◌ (path_of f fs)
    pub opened : (x : List ℕ) → IsIn x (path_of f fs) → T x ≡ Some Open
    pub open_is : (x : List ℕ) → T x ≡ Some Open → IsIn x (path_of f fs)
    pub size_is : (x : List ℕ) (n : ℕ) → T x ≡ Some (Finished n) → MaxSize C x n
    pub closed : (x : List ℕ) (n : ℕ) (d : Shape) → T x ≡ Some (Finished n) → C x ≡ Some d → (y : List ℕ) → IsIn y (size_references d) → IsFinished T y
    pub marks : Visited (λ x. SizeReaches C root x × IsDefined C x) T L

  -- the next part is finished
  pub step_add : {root : List ℕ} {T : List ℕ → Option Mark} {fs : List Frame} {f : Frame} {L : List (List ℕ)} (p : List ℕ) (n m : ℕ) → State root T fs f L → slice_get (size_references (shape f)) f.spot.next ≡ Some p → T p ≡ Some (Finished n) → m ≡ add_part (shape f) f.gathered n → State root T fs (gathered_more f m) L
  step_add {root} {T} {fs} {f} {L} p n m s e t made =
      let o = s.made.0 in
      record {
        chain = s.chain;
        ok = spot_moved C size_references s.ok e (n, t);
        made = (
          record {
            sizes = o.sizes ++ n ∷ [];
            are = subst (λ l. MaxSizes C l (o.sizes ++ n ∷ [])) (sym (take_more (size_references (shape f)) f.spot.next e)) (sizes_snoc o.are (s.size_is p n t));
            made = made ∙ ap (λ a. add_part (shape f) a n) o.made ∙ sym (gathered-one_more (shape f) o.sizes n);
          },
          s.made.1,
        );
        apart = s.apart;
        opened = s.opened;
        open_is = s.open_is;
        size_is = s.size_is;
        closed = s.closed;
        marks = s.marks;
      }

  updated_finished : {T U : List ℕ → Option Mark} {p : List ℕ} → Updated T U p Open → (x : List ℕ) (n : ℕ) → U x ≡ Some (Finished n) → T x ≡ Some (Finished n)
  updated_finished {T} {U} {p} u x n h =
      elim (name_cases x p) [ inl q ↦ (let a = u.here in let b = ap U q in cc) | inr q ↦ sym (u.others x q) ∙ h ]

  push_opened : {T U : List ℕ → Option Mark} {p : List ℕ} {path : List (List ℕ)} → Updated T U p Open → T p ≡ None → ((x : List ℕ) → IsIn x path → T x ≡ Some Open) → (x : List ℕ) → IsIn x (p ∷ path) → U x ≡ Some Open
  push_opened u t o x first = u.here
  push_opened {T} u t o x (later a) = u.others x (λ q. let b = ap T q in let c = o x a in cc) ∙ o x a

  push_open_is : {T U : List ℕ → Option Mark} {p : List ℕ} {path : List (List ℕ)} → Updated T U p Open → ((x : List ℕ) → T x ≡ Some Open → IsIn x path) → (x : List ℕ) → U x ≡ Some Open → IsIn x (p ∷ path)
  push_open_is {p = p} {path = path} u o x h = elim (name_cases x p) [ inl q ↦ subst (λ y. IsIn y (p ∷ path)) (sym q) first | inr q ↦ later (o x (sym (u.others x q) ∙ h)) ]

  -- the next part is new
  pub step_push : {root : List ℕ} {T U : List ℕ → Option Mark} {fs : List Frame} {f g : Frame} {L : List (List ℕ)} → State root T fs f L → slice_get (size_references (shape f)) f.spot.next ≡ Some g.spot.name.now → T g.spot.name.now ≡ None → C g.spot.name.now ≡ Some (shape g) → Updated T U g.spot.name.now Open → g.spot.next ≡ 0 → g.gathered ≡ 0 → State root U (f ∷ fs) g (g.spot.name.now ∷ L)
  step_push {root} {T} {U} {fs} {f} {g} {L} s e t c u next made =
      let p = g.spot.name.now in
      let keeps : (x : List ℕ) → IsFinished T x → IsFinished U x = λ x h. (h.0, u.others x (λ q. let a = h.1 in let b = ap T q in cc) ∙ h.1) in
      let needed : SizeReaches C root p = onward (shape f) (chain_leads C size_references (IsFinished T) (spots_of fs) s.chain) s.ok.defined (among_get (size_references (shape f)) f.spot.next e) in
      record {
        chain = (spot_kept C size_references keeps s.ok, e, chain_kept C size_references keeps root f.spot.name.now (spots_of fs) s.chain);
        ok = spot_new C size_references c next;
        made = (made_none next made, s.made);
        apart = distinct_more (λ a. let b = s.opened p a in cc) s.apart;
        opened = λ x a. push_opened u t s.opened x a;
        open_is = λ x h. push_open_is u s.open_is x h;
        size_is = λ x n h. s.size_is x n (updated_finished u x n h);
        closed = λ x n d h q y a. keeps y (s.closed x n d (updated_finished u x n h) q y a);
        marks = marks_more s.marks u t (needed, (shape g, c));
      }

  -- the last name has all its parts
  pub record Whole (root : List ℕ) (T U : List ℕ → Option Mark) (L : List (List ℕ)) : Type 0 where
    pub keeps : (x : List ℕ) → IsFinished T x → IsFinished U x
    pub size_is : (x : List ℕ) (n : ℕ) → U x ≡ Some (Finished n) → MaxSize C x n
    pub closed : (x : List ℕ) (n : ℕ) (d : Shape) → U x ≡ Some (Finished n) → C x ≡ Some d → (y : List ℕ) → IsIn y (size_references d) → IsFinished U y
    pub marks : Visited (λ x. SizeReaches C root x × IsDefined C x) U L

  frame_whole : {f : Frame} (m : Made f) → slice_get (size_references (shape f)) f.spot.next ≡ None → MaxSizes C (size_references (shape f)) m.sizes
  frame_whole {f} m e = subst (λ l. MaxSizes C l m.sizes) (take_whole (size_references (shape f)) f.spot.next e) m.are

  frame_total : {f : Frame} (m : Made f) → size_from_parts (shape f) m.sizes ≡ size_of_parts (shape f) f.gathered
  frame_total {f} m = total_is (shape f) m.sizes ∙ ap (λ g. size_of_parts (shape f) g) (sym m.made)

  frame_size : {f : Frame} (m : Made f) (n : ℕ) → C f.spot.name.now ≡ Some (shape f) → slice_get (size_references (shape f)) f.spot.next ≡ None → n ≡ size_of_parts (shape f) f.gathered → MaxSize C f.spot.name.now n
  frame_size {f} m n defined e q = subst (λ k. MaxSize C f.spot.name.now k) (frame_total m ∙ sym q) (sized (shape f) defined (frame_whole m e))

  step_whole : {root : List ℕ} {T U : List ℕ → Option Mark} {fs : List Frame} {f : Frame} {L : List (List ℕ)} (n : ℕ) → State root T fs f L → slice_get (size_references (shape f)) f.spot.next ≡ None → n ≡ size_of_parts (shape f) f.gathered → Updated T U f.spot.name.now (Finished n) → Whole root T U L
  step_whole {root} {T} {U} {fs} {f} {L} n s e q u =
      let name = f.spot.name.now in
      let open_now : T name ≡ Some Open = s.opened name first in
      let keeps : (x : List ℕ) → IsFinished T x → IsFinished U x = λ x h. (h.0, u.others x (λ q. let a = h.1 in let b = ap T q in cc) ∙ h.1) in
      let size = frame_size s.made.0 n s.ok.defined e q in
      record {
        keeps = keeps;
        size_is = λ x k h. elim (name_cases x name) [ inl r ↦ (let m : n ≡ k = (let a = u.here in let b = ap U r in cc) in subst (λ k. MaxSize C x k) m (subst (λ y. MaxSize C y n) (sym r) size)) | inr r ↦ s.size_is x k (sym (u.others x r) ∙ h) ];
        closed = λ x k d h p y a. elim (name_cases x name) [
          | inl r ↦ (let same : d ≡ shape f = one_definition p (ap C r ∙ s.ok.defined) in keeps y (all_settled C size_references s.ok e y (subst (λ c. IsIn y (size_references c)) same a)))
          | inr r ↦ keeps y (s.closed x k d (sym (u.others x r) ∙ h) p y a)
        ];
        marks = marks_again s.marks u (s.marks.marked name Open open_now);
      }

  -- the name above goes on
  pub step_pop : {root : List ℕ} {T U : List ℕ → Option Mark} {fs : List Frame} {f h : Frame} {L : List (List ℕ)} (n : ℕ) → State root T (h ∷ fs) f L → slice_get (size_references (shape f)) f.spot.next ≡ None → n ≡ size_of_parts (shape f) f.gathered → Updated T U f.spot.name.now (Finished n) → State root U fs h L
  step_pop {root} {T} {U} {fs} {f} {h} {L} n s e q u =
      let w = step_whole n s e q u in
      let far = distinct_rest s.apart in
      record {
        chain = chain_kept C size_references w.keeps root h.spot.name.now (spots_of fs) s.chain.2;
        ok = spot_kept C size_references w.keeps s.chain.0;
        made = s.made.1;
        apart = far.1;
        opened = λ x a. u.others x (λ q. far.0 (subst (λ y. IsIn y (path_of h fs)) q a)) ∙ s.opened x (later a);
        open_is = λ x a. elim (name_cases x f.spot.name.now) [ inl r ↦ (let b = u.here in let c = ap U r in cc) | inr r ↦ other_one r (s.open_is x (sym (u.others x r) ∙ a)) ];
        size_is = w.size_is;
        closed = w.closed;
        marks = w.marks;
      }

  -- the root is finished
  pub step_end : {root : List ℕ} {T U : List ℕ → Option Mark} {f : Frame} {L : List (List ℕ)} (n : ℕ) → State root T [] f L → slice_get (size_references (shape f)) f.spot.next ≡ None → n ≡ size_of_parts (shape f) f.gathered → Updated T U f.spot.name.now (Finished n) → MaxSize C root n × AreSizeReached C root L
  step_end {root} {T} {U} {f} {L} n s e q u =
      let w = step_whole n s e q u in
      let at_root : IsFinished U root = (n, ap U s.chain ∙ u.here) in
      let all : (x : List ℕ) → SizeReaches C root x → IsIn x L = λ x l. let k = needed_finished root at_root w.closed l in w.marks.marked x (Finished k.0) k.1 in
      (subst (λ x. MaxSize C x n) (sym s.chain) (frame_size s.made.0 n s.ok.defined e q), (w.marks.distinct, λ x. ((λ a. (w.marks.looked x a).1.0), all x)))

  -- ---- the answers
  pub fault_gather : {root : List ℕ} {T : List ℕ → Option Mark} {fs : List Frame} {f : Frame} {L : List (List ℕ)} (limit : ℕ) (p : List ℕ) (n : ℕ) → State root T fs f L → slice_get (size_references (shape f)) f.spot.next ≡ Some p → T p ≡ Some (Finished n) → limit ≤ add_part (shape f) f.gathered n → (k : ℕ) × PartialSize C [] root k × (limit ≤ k)
  fault_gather {root} {T} {fs} {f} limit p n s e t low =
      let m = s.made.0 in
      let far = distinct_rest s.apart in
      let size = s.size_is p n t in
      let back : (z : List ℕ) → Reaches C size_references p z → IsIn z (path_of f fs) → ⊥ = λ z l a. no_cycle C size (f.spot.name.now, shape f, lead_trans l (path_leads C size_references (IsFinished T) (spots_of fs) s.chain a).1, s.ok.defined, among_get (size_references (shape f)) f.spot.next e) in
      let same : partial_size (shape f) (m.sizes ++ n ∷ []) ≡ add_part (shape f) f.gathered n = gathered-one_more (shape f) m.sizes n ∙ ap (λ g. add_part (shape f) g n) (sym m.made) in
      lifted (IsFinished T) f.spot.name.now limit fs s.chain s.made.1 far.1 (frame_partial m limit (names_of (spots_of fs)) p n s.ok.defined (λ z a. (path_leads C size_references (IsFinished T) (spots_of fs) s.chain a).1) far.0 e (size_partial C (path_of f fs) size back) (omega (arith, same, low)))

  pub fault_finish : {root : List ℕ} {T : List ℕ → Option Mark} {fs : List Frame} {f : Frame} {L : List (List ℕ)} (limit : ℕ) → State root T fs f L → slice_get (size_references (shape f)) f.spot.next ≡ None → limit ≤ size_of_parts (shape f) f.gathered → (k : ℕ) × PartialSize C [] root k × (limit ≤ k)
  fault_finish {root} {T} {fs} {f} limit s e low =
      let m = s.made.0 in
      let far = distinct_rest s.apart in
      let ups : (z : List ℕ) → IsIn z (path_of f fs) → Reaches C size_references z f.spot.name.now = λ z a. (path_leads C size_references (IsFinished T) (spots_of fs) s.chain a).1 in
      let settled = take_whole (size_references (shape f)) f.spot.next e in
      let product = subst (λ l. PartialSizes C (path_of f fs) l m.sizes) settled (sizes_partial C (path_of f fs) m.are (frame_apart m (names_of (spots_of fs)) s.ok.defined ups)) in
      lifted (IsFinished T) f.spot.name.now limit fs s.chain s.made.1 far.1 (size_from_parts (shape f) m.sizes, taken (shape f) far.0 s.ok.defined product, omega (arith, frame_total m, low))

  pub part_needed : {root : List ℕ} {T : List ℕ → Option Mark} {fs : List Frame} {f : Frame} {L : List (List ℕ)} (p : List ℕ) → State root T fs f L → slice_get (size_references (shape f)) f.spot.next ≡ Some p → SizeReaches C root p
  part_needed {T = T} {fs = fs} {f = f} p s e = onward (shape f) (chain_leads C size_references (IsFinished T) (spots_of fs) s.chain) s.ok.defined (among_get (size_references (shape f)) f.spot.next e)

  pub fault_cycle : {root : List ℕ} {T : List ℕ → Option Mark} {fs : List Frame} {f : Frame} {L : List (List ℕ)} (p : List ℕ) → State root T fs f L → slice_get (size_references (shape f)) f.spot.next ≡ Some p → T p ≡ Some Open → IsRecursive C root
  fault_cycle {T = T} {fs = fs} {f = f} p s e t =
      let r = path_leads C size_references (IsFinished T) (spots_of fs) s.chain (s.open_is p t) in
      (p, r.0, (f.spot.name.now, shape f, r.1, s.ok.defined, among_get (size_references (shape f)) f.spot.next e))

  -- the walk begins at the root
  pub step_start : {T U : List ℕ → Option Mark} {f : Frame} → ((x : List ℕ) → T x ≡ None) → Updated T U f.spot.name.now Open → C f.spot.name.now ≡ Some (shape f) → f.spot.next ≡ 0 → f.gathered ≡ 0 → State f.spot.name.now U [] f (f.spot.name.now ∷ [])
  step_start {T} {U} {f} empty u c next made =
      let no_finished : (x : List ℕ) (n : ℕ) → U x ≡ Some (Finished n) → ⊥ = λ x n h. let a = updated_finished u x n h in let b = empty x in cc in
      record {
        chain = refl;
        ok = spot_new C size_references c next;
        made = (made_none next made, tt);
        apart = distinct_more {xs = []} (λ a. elim a [ ]) distinct_none;
        opened = λ x a. ap U (among_one a) ∙ u.here;
        open_is = λ x h. push_open_is {T = T} u (λ x h. let b = empty x in cc) x h;
        size_is = λ x n h. absurd (no_finished x n h);
        closed = λ x n d h. absurd (no_finished x n h);
        marks = marks_more (marks_start empty) u (empty f.spot.name.now) (stays, (shape f, c));
      }
