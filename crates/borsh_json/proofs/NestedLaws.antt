-- Where in a value the writer is.
use Rattle.std.proofs.Common.{◌≡◌, ℕ, suc, ◌+◌, ◌<◌, ◌≤◌, List, [], ◌∷◌, ◌++◌, length, Option, Some, refl, sym, ◌∙◌, ap, subst, arith, append_assoc, append-nil, length-append}
use Rattle.borsh_walks.specs.Container.{IsIn, first, later, Member, Members}
use Rattle.borsh_walks.proofs.Laws.{zero_member}
use Rattle.borsh_values.proofs.MemberLaws.{members_head}
use Rattle.borsh_json.specs.{declared.position.Place.{Place}, Forms.{Form, shapes, HasNoBytes}, Frames.{first_steps, last_steps, steps_at, steps_through}, InOrder.{Step, place as place_step}, Inside.{IsInside, LeadTo, outermost, inside}, Only.{IsOpened, AreOnly, none_only, empty_only}, Writes.{Rest, names_of_rest, Progress, one_more, Level, opened, steps_to, AreCalled, Nested, unread, entered, passed, Mark, AreEach, AreLevels, no_levels, level, entry_level}}
use Rattle.borsh_json.proofs.OnlyLaws.{value_only, only_joined}

-- the name is the only one, or comes later
only_name : (F : List ℕ → Option Form) (root y mid : List ℕ) (ps qs : List (List ℕ)) → root ∷ [] ≡ ps ++ y ∷ qs → AreOnly F ps mid → IsInside F root 0 [] mid y
only_name F root y mid [] qs e none_only = let r : root ≡ y = cc in subst (λ y. IsInside F root 0 [] [] y) r outermost
only_name F root y mid (p ∷ []) qs e ms = cc
only_name F root y mid (p ∷ q ∷ ps) qs e ms = cc

module _ (F : List ℕ → Option Form) (root : List ℕ) where
  -- the parts that are left of the innermost value are read, and so is it
  read_whole : {x y : List ℕ} {g h : Progress} {xs ys : List (List ℕ)} {ls : List Level} {done bs : List ℕ} → Nested F root (opened x g xs ∷ opened y h ys ∷ ls) done → AreOnly F xs bs → Nested F root (opened y h ys ∷ ls) (done ++ bs)
  read_whole {xs = xs} {ls = ls} {bs = bs} (entered {y = y} {before = before} {g = g} {xs = ys} f own called n o a) ms = subst (λ b. Nested F root (opened y (one_more g (length before)) ys ∷ ls) b) (sym (append_assoc before own bs)) (passed n (value_only F o ms))
  read_whole {y = y} {h = h} {ys = ys} {ls = ls} {bs = bs} (passed {before = before} {own = own} n m) ms = subst (λ b. Nested F root (opened y h ys ∷ ls) b) (sym (append_assoc before own bs)) (read_whole n (only_joined F m ms))

  leave : {x y : List ℕ} {g h : Progress} {ys : List (List ℕ)} {ls : List Level} {done : List ℕ} → Nested F root (opened x g [] ∷ opened y h ys ∷ ls) done → Nested F root (opened y h ys ∷ ls) done
  leave {y = y} {h = h} {ys = ys} {ls = ls} {done = done} n = subst (λ b. Nested F root (opened y h ys ∷ ls) b) (append-nil done) (read_whole n none_only)

  -- a value was read whole, whose parts have no bytes
  pub read_leaf : {x y done bs : List ℕ} {g : Progress} {xs zeros : List (List ℕ)} {ls : List Level} (own : List ℕ) (names : List (List ℕ)) (f : Form) → Nested F root (opened y g (x ∷ xs) ∷ ls) done → IsOpened F x f own zeros → ((y : List ℕ) → IsIn y zeros → HasNoBytes F y) → Members (shapes F) (zeros ++ names) bs → Nested F root (opened y (one_more g (length done)) xs ∷ ls) (done ++ own)
  read_leaf {x} {y} {done} {bs} {g} {xs} {zeros} {ls} own names f n o z ms = subst (λ b. Nested F root (opened y (one_more g (length done)) xs ∷ ls) (done ++ b)) (append-nil own) (passed n (value_only F o (no_bytes zeros bs z ms)))
    where
      no_bytes : (zs : List (List ℕ)) (bs : List ℕ) → ((y : List ℕ) → IsIn y zs → HasNoBytes F y) → Members (shapes F) (zs ++ names) bs → AreOnly F zs []
      no_bytes [] bs z ms = none_only
      no_bytes (y ∷ zs) bs z ms =
          let h = members_head (shapes F) ms in
          empty_only (subst (λ b. Member (shapes F) y b) (zero_member (shapes F) h.2 (z y first)) h.2, z y first) (no_bytes zs h.1 (λ p i. z p (later i)) h.3)

  -- some of the names that are left are read, and the next one is inside of as many values as are open around; the steps lead to it
  inside_after : {x : List ℕ} {g : Progress} {xs : List (List ℕ)} {ls : List Level} {done : List ℕ} (mid y : List ℕ) (ps qs : List (List ℕ)) (k : ℕ) → xs ≡ ps ++ y ∷ qs → k ≡ suc (g.1 + length ps) → Nested F root (opened x g xs ∷ ls) done → AreOnly F ps mid → IsInside F root (length ls) (steps_to ls ++ first_steps g.0 k) (done ++ mid) y
  inside_after mid y ps qs k e l unread ms = only_name F root y mid ps qs e ms
  inside_after mid y ps qs k e l (entered {x = x} {before = before} {g = g} {xs = xs} {ls = ls} f own called n o a) ms =
      let outer = steps_to ls ++ first_steps g.0 (suc g.1) in
      let i = subst (λ b. IsInside F root (length ls) outer b x) (append-nil before) (inside_after [] x [] xs (suc g.1) refl (omega arith) n none_only) in
      let many : length ps < length (ps ++ y ∷ qs) = (let s = length-append ps (y ∷ qs) in omega (arith, s)) in
      let t = a (length ps) (subst (λ (l : List (List ℕ)). length ps < length l) (sym e) many) in
      let u = subst (λ k. LeadTo f own (length ps) (first_steps called k)) (let s : suc (length ps) ≡ k = omega (arith, l) in s) t in
      subst (λ b. IsInside F root (suc (length ls)) (outer ++ first_steps called k) b y) (sym (append_assoc before own mid)) (inside f own qs (first_steps called k) i (subst (λ l. IsOpened F x f own l) e o) ms u)
  inside_after {ls = ls} mid y ps qs k e l (passed {x = x} {before = before} {own = own} {g = g} n m) ms =
      subst (λ b. IsInside F root (length ls) (steps_to ls ++ first_steps g.0 k) b y) (sym (append_assoc before own mid)) (inside_after (own ++ mid) y (x ∷ ps) qs k (ap (λ l. x ∷ l) e) (omega (arith, l)) n (only_joined F m ms))

  pub inside_of : {x y : List ℕ} {g : Progress} {xs : List (List ℕ)} {ls : List Level} {done : List ℕ} → Nested F root (opened y g (x ∷ xs) ∷ ls) done → IsInside F root (length ls) (steps_to ls ++ first_steps g.0 (suc g.1)) done x
  inside_of {x} {y} {g} {xs} {ls} {done} n = subst (λ b. IsInside F root (length ls) (steps_to ls ++ first_steps g.0 (suc g.1)) b x) (append-nil done) (inside_after [] x [] xs (suc g.1) refl (omega arith) n none_only)

  -- of a value some parts are read, and others are left
  pub record IsPartly (x : List ℕ) (g : Progress) (xs : List (List ℕ)) (path : List Step) (done : List ℕ) : Type 0 where
    pub depth : ℕ
    pub before : List ℕ
    pub form : Form
    pub own : List ℕ
    pub read : List (List ℕ)
    pub mid : List ℕ
    pub here : IsInside F root depth path before x
    pub opened : IsOpened F x form own (read ++ xs)
    pub called : AreCalled form own g.0 (read ++ xs)
    pub begun : g.1 ≡ length read
    pub members : AreOnly F read mid
    pub is : done ≡ before ++ (own ++ mid)

  partly : {x : List ℕ} {g : Progress} {xs : List (List ℕ)} {ls : List Level} {done : List ℕ} → 2 ≤ length xs → Nested F root (opened x g xs ∷ ls) done → IsPartly x g xs (steps_to ls) done
  partly l unread = absurd (omega (arith, l))
  partly l (entered {before = before} {ls = ls} f own called n o a) = record { depth = length ls; before = before; form = f; own = own; read = []; mid = []; here = inside_of n; opened = o; called = a; begun = refl; members = none_only; is = ap (λ b. before ++ b) (sym (append-nil own)) }
  partly {x = x} {xs = xs} l (passed {x = z} {own = own} {g = g} n m) =
      let p = partly (omega (arith, l)) n in
      let e = append_assoc p.read (z ∷ []) xs in
      record {
        depth = p.depth;
        before = p.before;
        form = p.form;
        own = p.own;
        read = p.read ++ z ∷ [];
        mid = p.mid ++ own;
        here = p.here;
        opened = subst (λ l. IsOpened F x p.form p.own l) (sym e) p.opened;
        called = subst (λ l. AreCalled p.form p.own g.0 l) (sym e) p.called;
        begun = (let b = p.begun in let s = length-append p.read (z ∷ []) in omega (arith, b, s));
        members = only_joined F p.members m;
        is = ap (λ b. b ++ own) p.is ∙ append_assoc p.before (p.own ++ p.mid) own ∙ ap (λ b. p.before ++ b) (append_assoc p.own p.mid own);
      }

  -- the last part that is read, and what is read before it
  pub record IsLastPart (x : List ℕ) (g : Progress) (xs : List (List ℕ)) (path : List Step) (done : List ℕ) (i : ℕ) : Type 0 where
    pub part : List ℕ
    pub until : List ℕ
    pub bytes : List ℕ
    pub progress : Progress
    pub partly : IsPartly x progress (part ∷ xs) path until
    pub member : AreOnly F (part ∷ []) bytes
    pub is : done ≡ until ++ bytes
    pub begins : i ≡ length until
    pub same : g.0 ≡ progress.0
    pub next : g.1 ≡ suc progress.1

  pub last_part : {x z : List ℕ} {zs : List (List ℕ)} {ls : List Level} {done : List ℕ} (i : ℕ) (g : Progress) → g.2 ≡ Some i → Nested F root (opened x g (z ∷ zs) ∷ ls) done → IsLastPart x g (z ∷ zs) (steps_to ls) done i
  last_part i g e unread = cc
  last_part i g e (entered f own called n o a) = cc
  last_part i g e (passed {x = z} {before = before} {own = own} {g = h} n m) = record { part = z; until = before; bytes = own; progress = h; partly = partly (omega arith) n; member = m; is = refl; begins = (let q : Some (length before) ≡ Some i = e in cc); same = refl; next = refl }

  -- all places whose parts are read are left
  pub settled : {r : Rest} {rs : List Rest} {m : Mark} {ms : List Mark} {ls : List Level} {done : List ℕ} → Nested F root ls done → AreLevels (r ∷ rs) (m ∷ ms) ls → (outer : List Level) × AreLevels rs ms outer × Nested F root (opened m.0 m.1 (names_of_rest r) ∷ outer) done
  settled n (level {ls = ls} r m e a) = (ls, a, n)
  settled n (entry_level {ls = ls} x i r m e a) = (ls, a, leave n)

  pub left : {x : List ℕ} {g : Progress} {r : Rest} {rs : List Rest} {m : Mark} {ms : List Mark} {ls : List Level} {done : List ℕ} → Nested F root (opened x g [] ∷ ls) done → AreLevels (r ∷ rs) (m ∷ ms) ls → (outer : List Level) × AreLevels rs ms outer × Nested F root (opened m.0 m.1 (names_of_rest r) ∷ outer) done
  left n (level r m e a) = settled (leave n) (level r m e a)
  left n (entry_level x i r m e a) = settled (leave n) (entry_level x i r m e a)

-- as many places are around, or more
pub as_deep : {rs : List Rest} {ms : List Mark} {ls : List Level} → AreLevels rs ms ls → length rs ≤ length ls
as_deep no_levels = omega arith
as_deep (level r m e a) = let l = as_deep a in omega (arith, l)
as_deep (entry_level x i r m e a) = let l = as_deep a in omega (arith, l)

-- ---- the steps of levels are those of the places
abbrev steps_of_marks : List Mark → List Step
steps_of_marks [] = []
steps_of_marks (m ∷ ms) = steps_of_marks ms ++ (first_steps m.1.0 m.1.1 ++ last_steps m.1.0)

of_levels : {rs : List Rest} {ms : List Mark} {ls : List Level} → AreLevels rs ms ls → steps_to ls ≡ steps_of_marks ms
of_levels no_levels = refl
of_levels (level {ms = ms} r m e a) = ap (λ l. l ++ first_steps m.1.0 m.1.1) (of_levels a) ∙ ap (λ l. steps_of_marks ms ++ l) (sym (append-nil (first_steps m.1.0 m.1.1)) ∙ ap (λ l. first_steps m.1.0 m.1.1 ++ l) (sym e))
of_levels (entry_level {ms = ms} x i r m e a) =
    ap (λ l. (l ++ first_steps m.1.0 m.1.1) ++ place_step 1 ∷ []) (of_levels a) ∙ append_assoc (steps_of_marks ms) (first_steps m.1.0 m.1.1) (place_step 1 ∷ []) ∙ ap (λ l. steps_of_marks ms ++ (first_steps m.1.0 m.1.1 ++ l)) (sym e)

outermost_steps : (ms : List Mark) (m : Mark) → steps_of_marks (ms ++ m ∷ []) ≡ (first_steps m.1.0 m.1.1 ++ last_steps m.1.0) ++ steps_of_marks ms
outermost_steps [] m = sym (append-nil (first_steps m.1.0 m.1.1 ++ last_steps m.1.0))
outermost_steps (k ∷ ms) m =
    let s = first_steps k.1.0 k.1.1 ++ last_steps k.1.0 in
    let t = first_steps m.1.0 m.1.1 ++ last_steps m.1.0 in
    ap (λ l. l ++ s) (outermost_steps ms m) ∙ append_assoc t (steps_of_marks ms) s

of_places : (P : Place → Mark → Type 0) → ((p : Place) (m : Mark) → P p m → (p.parts ≡ m.1.0) × (p.begun ≡ m.1.1)) → (ps : List Place) (ms : List Mark) → AreEach P ps ms → steps_of_marks ms ≡ steps_through ps
of_places P f [] ms e = ap steps_of_marks e
of_places P f (p ∷ ps) ms (m, outer, h, e, is) =
    let g = f p m h in
    let same : first_steps m.1.0 m.1.1 ++ last_steps m.1.0 ≡ steps_at p = ap (λ k. first_steps k m.1.1 ++ last_steps k) (sym g.0) ∙ ap (λ n. first_steps p.parts n ++ last_steps p.parts) (sym g.1) in
    ap steps_of_marks is ∙ outermost_steps outer m ∙ ap (λ l. l ++ steps_of_marks outer) same ∙ ap (λ l. steps_at p ++ l) (of_places P f ps outer e)

pub same_steps : (P : Place → Mark → Type 0) → ((p : Place) (m : Mark) → P p m → (p.parts ≡ m.1.0) × (p.begun ≡ m.1.1)) → (ps : List Place) {rs : List Rest} (ms : List Mark) {ls : List Level} → AreEach P ps ms → AreLevels rs ms ls → steps_to ls ≡ steps_through ps
same_steps P f ps ms e a = of_levels a ∙ of_places P f ps ms e
