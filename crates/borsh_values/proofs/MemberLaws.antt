-- Members of names: what they are, what their definitions open, and what follows them.
use Rattle.std.proofs.Common.{◌≡◌, ℕ, suc, zero, ◌+◌, ◌/◌, ◌%◌, ◌^◌, ◌<◌, ◌≤◌, List, [], ◌∷◌, ◌++◌, length, replicate, Some, refl, sym, ◌∙◌, ap, subst, arith, append_assoc, inl, inr, pow-suc, ◌⊎◌, ◌*◌, take, drop, None, take-append-drop, length-take-le, length-append, length-drop, append-nil}
use Rattle.std.specs.Prelude.{Option, All, ℤ, pos}
use Rattle.std.proofs.lemmas.List.{append_cancel_left, nil_from_length}
use Rattle.std.proofs.lemmas.Bool.{cases_lt}
use Rattle.borsh_walks.specs.Container.{Shape, primitive, sequence, product, choice, IsIn, first, later, IsListedVariant, first_variant, later_variant, little_endian, tag, Member, of_primitive, of_sequence, of_parts, of_choice, Members, no_members, more_members, onward, Reached, Reaches, IsOnCycle}
use Rattle.borsh_values.specs.Unambiguous.{DistinctTags, no_tags, more_tags, IsUnambiguous, UnambiguousShape}
use Rattle.borsh_walks.proofs.Laws.{length-tag, one_definition, variant-listed, among-replicate, lead_out, zero_member}
use Rattle.borsh_values.specs.Cursor.{required_by, OnlyEmpty, AllOnlyEmpty, OpensOnce, Begun}
use Rattle.borsh_walks.proofs.Names.{among_one}
use Rattle.std.proofs.Math.Nat.{suc-mul}
use Rattle.std.proofs.lemmas.List.Elements.{All-nil, All-append, All-take, All-drop, All-same}
use Rattle.borsh_values.specs.Nodes.{packed_size, OpensElements, Opens, Reads, reads_none, reads_more}
use Rattle.borsh_values.specs.Membership.{LeadsTo, BeginsWith}
use Rattle.borsh_values.specs.Free.{AreOnly}

-- ---- a container whose reached definitions are unambiguous is prefix-free
-- ---- lists
-- all_prefix_free of one list that are as long are one
pub same_front : (xs ys r s : List ℕ) → xs ++ r ≡ ys ++ s → length xs ≡ length ys → (xs ≡ ys) × (r ≡ s)
same_front [] [] r s e h = (refl, e)
same_front [] (y ∷ ys) r s e h = absurd (omega arith)
same_front (x ∷ xs) [] r s e h = absurd (omega arith)
same_front (x ∷ xs) (y ∷ ys) r s e h =
    let a : x ≡ y = cc in
    let b : xs ++ r ≡ ys ++ s = cc in
    let k : length xs ≡ length ys = omega (arith, h) in
    let t = same_front xs ys r s b k in
    (ap (λ l. x ∷ l) t.0 ∙ ap (λ z. z ∷ ys) a, t.1)

pub same_tags : (w : ℕ) (j k : ℤ) (xs ys r s : List ℕ) → (tag w j ++ xs) ++ r ≡ (tag w k ++ ys) ++ s → (tag w j ≡ tag w k) × (xs ++ r ≡ ys ++ s)
same_tags w j k xs ys r s e = same_front (tag w j) (tag w k) (xs ++ r) (ys ++ s) (sym (append_assoc (tag w j) xs r) ∙ e ∙ append_assoc (tag w k) ys s) (length-tag w j ∙ sym (length-tag w k))

-- ---- counts: those of one range that are tag_byte alike are one
pub close : (w a b : ℕ) → little_endian w a ≡ little_endian w b → a ≤ b → b < a + 256 ^ w → a ≡ b
close zero a b e low high = omega arith
close (suc w) a b e low high =
    let r : a % 256 ≡ b % 256 = cc in
    let t : little_endian w (a / 256) ≡ little_endian w (b / 256) = cc in
    let p = pow-suc 256 w in
    let q = close w (a / 256) (b / 256) t (omega arith) (omega (arith, p, r)) in
    omega (arith, q, r)

pub one_count : (w lo hi j k : ℕ) → hi < lo + 256 ^ w → lo ≤ j → j ≤ hi → lo ≤ k → k ≤ hi → tag w (pos j) ≡ tag w (pos k) → j ≡ k
one_count w lo hi j k c lj hj lk hk e = elim (cases_lt j k) [
  | inl h ↦ close w j k e (omega arith) (omega arith)
  | inr h ↦ sym (close w k j (sym e) h (omega arith))
]

-- ---- variants: those that are tag_byte alike are one
pub one_variant : (w : ℕ) {j k : ℤ} {p q : List ℕ} {vs : List (ℤ × List ℕ)} → DistinctTags w vs → IsListedVariant j p vs → IsListedVariant k q vs → tag w j ≡ tag w k → (j ≡ k) × (p ≡ q)
one_variant w no_tags a b e = elim a [ ]
one_variant w (more_tags f t) first_variant first_variant e = (refl, refl)
one_variant w {k = k} {q = q} (more_tags f t) first_variant (later_variant b) e = absurd (f k q b e)
one_variant w {j = j} {p = p} (more_tags f t) (later_variant a) first_variant e = absurd (f j p a (sym e))
one_variant w (more_tags f t) (later_variant a) (later_variant b) e = one_variant w t a b e

module _ (C : List ℕ → Option Shape) where
  -- what a member is, by its name's definition
  abbrev pub MemberAs : Shape → List ℕ → Type 0
  MemberAs (primitive n) bs = (length bs ≡ n) × All (λ b. b < 256) bs
  MemberAs (sequence w lo hi e) bs = (k : ℕ) × (cs : List ℕ) × (lo ≤ k) × (k ≤ hi) × Members C (replicate k e) cs × (bs ≡ tag w (pos k) ++ cs)
  MemberAs (product ps) bs = Members C ps bs
  MemberAs (choice w vs) bs = (k : ℤ) × (p : List ℕ) × (cs : List ℕ) × IsListedVariant k p vs × Member C p cs × (bs ≡ tag w k ++ cs)

  pub member_as : {x bs : List ℕ} (d : Shape) → C x ≡ Some d → Member C x bs → MemberAs d bs
  member_as {bs = bs} d p (of_primitive q small) = subst (λ s. MemberAs s bs) (one_definition q p) (refl, small)
  member_as d p (of_sequence {bs = cs} {w = w} k q low high ms) = subst (λ s. MemberAs s (tag w (pos k) ++ cs)) (one_definition q p) (k, cs, low, high, ms, refl)
  member_as {bs = bs} d p (of_parts q ms) = subst (λ s. MemberAs s bs) (one_definition q p) ms
  member_as d p (of_choice {bs = cs} {p = v} {w = w} {k = k} q listed m) = subst (λ s. MemberAs s (tag w k ++ cs)) (one_definition q p) (k, v, cs, listed, m, refl)

  module _ (root : List ℕ) (unambiguous : IsUnambiguous C root) where
    mutual
      -- no member of a reached name is a proper beginning of another one
      pub prefix_free : {x xs ys : List ℕ} (r s : List ℕ) → Reached C root x → Member C x xs → Member C x ys → xs ++ r ≡ ys ++ s → xs ≡ ys
      prefix_free {ys = ys} r s l (of_primitive {bs = bs} p small) m e =
          let b = member_as (primitive (length bs)) p m in
          (same_front bs ys r s e (sym b.0)).0
      prefix_free {x} {ys = ys} r s l (of_sequence {bs = bs} {w = w} {lo = lo} {hi = hi} {e = el} k p low high ms) m e =
          let b = member_as (sequence w lo hi el) p m in
          let t = same_tags w (pos k) (pos b.0) bs b.1 r s (e ∙ ap (λ z. z ++ s) b.5) in
          let q : k ≡ b.0 = one_count w lo hi k b.0 (unambiguous x (sequence w lo hi el) l p) low high b.2 b.3 t.0 in
          let n : Members C (replicate k el) b.1 = subst (λ i. Members C (replicate i el) b.1) (sym q) b.4 in
          let f = all_prefix_free r s (λ y a. onward (sequence w lo hi el) l p (subst (λ z. IsIn y (z ∷ [])) (sym (among-replicate k a)) first)) ms n t.1 in
          ap (λ i. tag w (pos i) ++ bs) q ∙ ap (λ z. tag w (pos b.0) ++ z) f ∙ sym b.5
      prefix_free {ys = ys} r s l (of_parts {ps = ps} p ms) m e = all_prefix_free r s (λ y a. onward (product ps) l p a) ms (member_as (product ps) p m) e
      prefix_free {x} {ys = ys} r s l (of_choice {bs = bs} {p = v} {w = w} {k = k} {vs = vs} p listed a) m e =
          let b = member_as (choice w vs) p m in
          let t = same_tags w k b.0 bs b.2 r s (e ∙ ap (λ z. z ++ s) b.5) in
          let q = one_variant w (unambiguous x (choice w vs) l p) listed b.3 t.0 in
          let n : Member C v b.2 = subst (λ z. Member C z b.2) (sym q.1) b.4 in
          let f = prefix_free r s (onward (choice w vs) l p (variant-listed listed)) a n t.1 in
          ap (λ z. z ++ bs) t.0 ∙ ap (λ z. tag w b.0 ++ z) f ∙ sym b.5

      pub all_prefix_free : {ps : List (List ℕ)} {xs ys : List ℕ} (r s : List ℕ) → ((y : List ℕ) → IsIn y ps → Reached C root y) → Members C ps xs → Members C ps ys → xs ++ r ≡ ys ++ s → xs ≡ ys
      all_prefix_free r s l no_members no_members e = refl
      all_prefix_free r s l (more_members {p = p} {bs = us} {cs = bs} m ms) (more_members {bs = cs} {cs = ds} n ns) e =
          let t : us ++ (bs ++ r) ≡ cs ++ (ds ++ s) = sym (append_assoc us bs r) ∙ e ∙ append_assoc cs ds s in
          let f : us ≡ cs = prefix_free (bs ++ r) (ds ++ s) (l p first) m n t in
          let u : bs ++ r ≡ ds ++ s = append_cancel_left us (bs ++ r) (ds ++ s) (t ∙ ap (λ z. z ++ (ds ++ s)) (sym f)) in
          let g : bs ≡ ds = all_prefix_free r s (λ y a. l y (later a)) ms ns u in
          ap (λ z. z ++ bs) f ∙ ap (λ z. cs ++ z) g

-- ---- a name that requires itself has no member
module _ (C : List ℕ → Option Shape) where
  first_step : {x : List ℕ} (c : Shape) → C x ≡ Some c → IsOnCycle C required_by x → (v : List ℕ) × IsIn v (required_by c) × IsOnCycle C required_by v
  first_step {x} c p loop =
      let Goal : Type 0 = (v : List ℕ) × IsIn v (required_by c) × IsOnCycle C required_by v in
      let go : (x ≡ loop.0) ⊎ ((v : List ℕ) × (d : Shape) × (C x ≡ Some d) × IsIn v (required_by d) × Reaches C required_by v loop.0) → Goal =
      elim [
        | inl e ↦ (x, subst (λ s. IsIn x (required_by s)) (one_definition loop.3 (ap C (sym e) ∙ p)) loop.4, loop)
        | inr r ↦ (r.0, subst (λ s. IsIn r.0 (required_by s)) (one_definition r.2 p) r.3, (x, r.1, onward loop.1 r.4 loop.3 loop.4, r.2, r.3))
      ] in
      go (lead_out C loop.2)

  in_copies : {v e : List ℕ} (k lo : ℕ) → suc lo ≤ k → IsIn v (e ∷ []) → IsIn v (replicate k e)
  in_copies zero lo h a = absurd (omega arith)
  in_copies (suc k) lo h first = first
  in_copies (suc k) lo h (later a) = elim a [ ]

  mutual
    pub not_required : {x bs : List ℕ} → Member C x bs → IsOnCycle C required_by x → ⊥
    not_required (of_primitive {bs = bs} p small) loop = let s = first_step _ p loop in elim s.1 [ ]
    not_required (of_sequence {w = zero} {lo = zero} k p low high ms) loop = let s = first_step _ p loop in elim s.1 [ ]
    not_required (of_sequence {w = zero} {lo = suc lo} {hi = hi} {e = e} k p low high ms) loop = let s = first_step (sequence zero (suc lo) hi e) p loop in none_required ms (in_copies k lo low s.1) s.2
    not_required (of_sequence {w = suc w} k p low high ms) loop = let s = first_step _ p loop in elim s.1 [ ]
    not_required (of_parts {ps = ps} p ms) loop = let s = first_step (product ps) p loop in none_required ms s.1 s.2
    not_required (of_choice {w = zero} {vs = []} p listed m) loop = elim listed [ ]
    not_required (of_choice {w = zero} {vs = v ∷ []} p first_variant m) loop = let s = first_step _ p loop in not_required m (subst (λ z. IsOnCycle C required_by z) (among_one s.1) s.2)
    not_required (of_choice {w = zero} {vs = v ∷ []} p (later_variant listed) m) loop = elim listed [ ]
    not_required (of_choice {w = zero} {vs = v ∷ u ∷ vs} p listed m) loop = let s = first_step _ p loop in elim s.1 [ ]
    not_required (of_choice {w = suc w} p listed m) loop = let s = first_step _ p loop in elim s.1 [ ]

    pub none_required : {v bs : List ℕ} {ps : List (List ℕ)} → Members C ps bs → IsIn v ps → IsOnCycle C required_by v → ⊥
    none_required no_members a loop = elim a [ ]
    none_required (more_members m ms) first loop = not_required m loop
    none_required (more_members m ms) (later a) loop = none_required ms a loop

  -- ---- names with the empty member alone
  pub members_head : {p : List ℕ} {ps : List (List ℕ)} {bs : List ℕ} → Members C (p ∷ ps) bs → (xs : List ℕ) × (ys : List ℕ) × Member C p xs × Members C ps ys × (bs ≡ xs ++ ys)
  members_head (more_members {bs = xs} {cs = ys} m ms) = (xs, ys, m, ms, refl)

  pub pass_one : {p : List ℕ} {ps : List (List ℕ)} {bs : List ℕ} → OnlyEmpty C p → Members C (p ∷ ps) bs → Members C ps bs
  pass_one {ps = ps} {bs = bs} h ms =
      let s = members_head ms in
      let e : s.0 ≡ [] = zero_member C s.2 h.1 in
      subst (λ l. Members C ps l) (sym (s.4 ∙ ap (λ l. l ++ s.1) e)) s.3

  pub pass : {p : List ℕ} {ps : List (List ℕ)} {bs : List ℕ} (k : ℕ) → OnlyEmpty C p → Members C (replicate k p ++ ps) bs → Members C ps bs
  pass zero h ms = ms
  pass (suc k) h ms = pass k h (pass_one h ms)

  pub unpass : {p : List ℕ} {ps : List (List ℕ)} {bs : List ℕ} (k : ℕ) → OnlyEmpty C p → Members C ps bs → Members C (replicate k p ++ ps) bs
  unpass zero h ms = ms
  unpass (suc k) h ms = more_members h.0 (unpass k h ms)

  pub only_empty_more : {p : List ℕ} {ps : List (List ℕ)} → OnlyEmpty C p → AllOnlyEmpty C ps → (q : List ℕ) → IsIn q (p ∷ ps) → OnlyEmpty C q
  only_empty_more h hs q first = h
  only_empty_more h hs q (later a) = hs q a

  pub only_empty_copies : {p : List ℕ} (ps : List (List ℕ)) (k : ℕ) → OnlyEmpty C p → AllOnlyEmpty C ps → AllOnlyEmpty C (replicate k p ++ ps)
  only_empty_copies ps zero h hs = hs
  only_empty_copies ps (suc k) h hs = only_empty_more h (only_empty_copies ps k h hs)

  pub only_empty_members : {ps : List (List ℕ)} → AllOnlyEmpty C ps → Members C ps []
  only_empty_members {ps = []} h = no_members
  only_empty_members {ps = p ∷ ps} h = more_members (h p first).0 (only_empty_members (λ q a. h q (later a)))

  pub whole : {x bs : List ℕ} → Member C x bs → Members C (x ∷ []) bs
  whole {x} {bs} m = subst (λ l. Members C (x ∷ []) l) (end bs) (more_members m no_members)
    where
      end : (bs : List ℕ) → bs ++ [] ≡ bs
      end [] = refl
      end (b ∷ bs) = ap (λ l. b ∷ l) (end bs)

  pub unwhole : {x bs : List ℕ} → Members C (x ∷ []) bs → Member C x bs
  unwhole {x} (more_members {bs = bs} m no_members) = subst (λ l. Member C x l) (sym (end bs)) m
    where
      end : (bs : List ℕ) → bs ++ [] ≡ bs
      end [] = refl
      end (b ∷ bs) = ap (λ l. b ∷ l) (end bs)

  -- members one after another
  pub joined : {ps qs : List (List ℕ)} {xs ys : List ℕ} → Members C ps xs → Members C qs ys → Members C (ps ++ qs) (xs ++ ys)
  joined no_members ns = ns
  joined {qs = qs} {ys = ys} (more_members {p = p} {bs = us} {cs = vs} {ps = ps} m ms) ns = subst (λ l. Members C (p ∷ (ps ++ qs)) l) (sym (append_assoc us vs ys)) (more_members m (joined ms ns))

  pub parted : (ps : List (List ℕ)) {qs : List (List ℕ)} {bs : List ℕ} → Members C (ps ++ qs) bs → (xs : List ℕ) × (ys : List ℕ) × Members C ps xs × Members C qs ys × (bs ≡ xs ++ ys)
  parted [] {bs = bs} ms = ([], bs, no_members, ms, refl)
  parted (p ∷ ps) (more_members {bs = us} {cs = vs} m ms) = let r = parted ps ms in (us ++ r.0, r.1, more_members m r.2, r.3, ap (λ l. us ++ l) r.4 ∙ sym (append_assoc us r.0 r.1))

-- ---- elements that are listed with their sequence
pub packed_is : (n : ℕ) (d : Option Shape) → packed_size d ≡ suc n → d ≡ Some (primitive (suc n))
packed_is n None e = absurd (omega (arith, e))
packed_is n (Some (primitive m)) e = ap (λ k. Some (primitive k)) e
packed_is n (Some (sequence w lo hi x)) e = absurd (omega (arith, e))
packed_is n (Some (product ps)) e = absurd (omega (arith, e))
packed_is n (Some (choice w vs)) e = absurd (omega (arith, e))

pub no_more : {C : List ℕ → Option Shape} {bs : List ℕ} → Members C [] bs → bs ≡ []
no_more no_members = refl

module _ (C : List ℕ → Option Shape) where
  -- as many bytes as k primitives have are k members
  pub copies_of : {e : List ℕ} (n k : ℕ) (cs : List ℕ) → C e ≡ Some (primitive (suc n)) → length cs ≡ k * suc n → All (λ b. b < 256) cs → Members C (replicate k e) cs
  copies_of n zero cs c l small = subst (λ b. Members C [] b) (sym (nil_from_length cs (omega (arith, l)))) no_members
  copies_of {e} n (suc k) cs c l small =
      let p = suc-mul k (suc n) in
      let low : suc n ≤ length cs = omega (arith, l, p) in
      let one : Member C e (take (suc n) cs) = of_primitive (c ∙ ap (λ i. Some (primitive i)) (sym (length-take-le (suc n) cs low))) (All-take (λ b. b < 256) (suc n) cs small) in
      let d = length-drop (suc n) cs in
      let rest : length (drop (suc n) cs) ≡ k * suc n = omega (arith, l, p, d) in
      subst (λ b. Members C (e ∷ replicate k e) b) (take-append-drop (suc n) cs) (more_members one (copies_of n k (drop (suc n) cs) c rest (All-drop (λ b. b < 256) (suc n) cs small)))

  pub copies_are : {e : List ℕ} (n k : ℕ) (cs : List ℕ) → C e ≡ Some (primitive (suc n)) → Members C (replicate k e) cs → (length cs ≡ k * suc n) × All (λ b. b < 256) cs
  copies_are n zero cs c ms =
      let z : cs ≡ [] = no_more ms in
      (ap (λ l. length l) z ∙ omega arith, All-same (λ b. b < 256) cs [] z (All-nil (λ b. b < 256)))
  copies_are {e} n (suc k) cs c ms =
      let s = members_head C ms in
      let a = member_as C (primitive (suc n)) c s.2 in
      let r = copies_are n k s.1 c s.3 in
      let p = suc-mul k (suc n) in
      let l : length cs ≡ length s.0 + length s.1 = ap (λ l. length l) s.4 ∙ length-append s.0 s.1 in
      let x = a.0 in
      let y = r.0 in
      (omega (arith, l, p, x, y), All-same (λ b. b < 256) cs (s.0 ++ s.1) s.4 (All-append (λ b. b < 256) s.0 s.1 a.1 r.1))

-- ---- laws of nodes
-- ---- what a definition opens, once
one_elements : (m : ℕ) (e : List ℕ) (j k : ℕ) (cs ds r s : List ℕ) {ms ns : List (List ℕ)} → j ≡ k → OpensElements m e j cs ms → OpensElements m e k ds ns → cs ++ r ≡ ds ++ s → (cs ≡ ds) × (r ≡ s) × (ms ≡ ns)
one_elements zero e j k cs ds r s h o p q = (o.0 ∙ sym p.0, ap (λ l. l ++ r) (sym o.0) ∙ q ∙ ap (λ l. l ++ s) p.0, o.1 ∙ ap (λ i. replicate i e) h ∙ sym p.1)
one_elements (suc n) e j k cs ds r s h o p q = let t = same_front cs ds r s q (o.0 ∙ ap (λ i. i * suc n) h ∙ sym p.0) in (t.0, t.1, o.2 ∙ sym p.2)

pub opens_one : (C : List ℕ → Option Shape) (d : Shape) {a b : List ℕ} {ms ns : List (List ℕ)} (r s : List ℕ) → UnambiguousShape d → Opens C d a ms → Opens C d b ns → a ++ r ≡ b ++ s → (a ≡ b) × (r ≡ s) × (ms ≡ ns)
opens_one C (primitive n) {a} {b} r s u o p e = let t = same_front a b r s e (o.0 ∙ sym p.0) in (t.0, t.1, o.2 ∙ sym p.2)
opens_one C (sequence w lo hi el) {a} {b} r s u o p e =
    let t = same_tags w (pos o.0) (pos p.0) o.1 p.1 r s (ap (λ l. l ++ r) (sym o.4) ∙ e ∙ ap (λ l. l ++ s) p.4) in
    let k : o.0 ≡ p.0 = one_count w lo hi o.0 p.0 u o.2 o.3 p.2 p.3 t.0 in
    let q = one_elements (packed_size (C el)) el o.0 p.0 o.1 p.1 r s k o.5 p.5 t.1 in
    (o.4 ∙ ap (λ l. l ++ o.1) t.0 ∙ ap (λ l. tag w (pos p.0) ++ l) q.0 ∙ sym p.4, q.1, q.2)
opens_one C (product ps) {a} {b} r s u o p e = (o.0 ∙ sym p.0, ap (λ z. z ++ r) (sym o.0) ∙ e ∙ ap (λ z. z ++ s) p.0, o.1 ∙ sym p.1)
opens_one C (choice w vs) {a} {b} r s u o p e =
    let l : length a ≡ length b = ap (λ z. length z) o.3 ∙ length-tag w o.0 ∙ sym (ap (λ z. length z) p.3 ∙ length-tag w p.0) in
    let t = same_front a b r s e l in
    let k = one_variant w u o.2 p.2 (sym o.3 ∙ t.0 ∙ p.3) in
    (t.0, t.1, o.4 ∙ ap (λ z. z ∷ []) k.1 ∙ sym p.4)

module _ (C : List ℕ → Option Shape) where
  primitive_member : {x : List ℕ} (n : ℕ) (own bs : List ℕ) (ns : List (List ℕ)) → C x ≡ Some (primitive n) → Opens C (primitive n) own ns → Members C ns bs → Member C x (own ++ bs)
  primitive_member {x} n own bs ns c o ms =
      let m : Member C x own = of_primitive (c ∙ ap (λ k. Some (primitive k)) (sym o.0)) o.1 in
      subst (λ l. Member C x (own ++ l)) (sym (nothing (subst (λ l. Members C l bs) o.2 ms))) (subst (λ l. Member C x l) (sym (end own)) m)
    where
      nothing : {bs : List ℕ} → Members C [] bs → bs ≡ []
      nothing no_members = refl

      end : (bs : List ℕ) → bs ++ [] ≡ bs
      end [] = refl
      end (b ∷ bs) = ap (λ l. b ∷ l) (end bs)

  elements_members : (e : List ℕ) (m k : ℕ) (cs bs : List ℕ) (ns : List (List ℕ)) → packed_size (C e) ≡ m → OpensElements m e k cs ns → Members C ns bs → Members C (replicate k e) (cs ++ bs)
  elements_members e zero k cs bs ns p o ms = subst (λ l. Members C (replicate k e) (l ++ bs)) (sym o.0) (subst (λ l. Members C l bs) o.1 ms)
  elements_members e (suc n) k cs bs ns p o ms =
      let z : bs ≡ [] = no_more (subst (λ l. Members C l bs) o.2 ms) in
      subst (λ l. Members C (replicate k e) (cs ++ l)) (sym z) (subst (λ l. Members C (replicate k e) l) (sym (append-nil cs)) (copies_of C n k cs (packed_is n (C e) p) o.0 o.1))

  -- a value of the definition, from its own bytes and its parts
  pub opens_member : {x : List ℕ} (d : Shape) (own bs : List ℕ) (ns : List (List ℕ)) → C x ≡ Some d → Opens C d own ns → Members C ns bs → Member C x (own ++ bs)
  opens_member (primitive n) own bs ns c o ms = primitive_member n own bs ns c o ms
  opens_member {x} (sequence w lo hi e) own bs ns c o ms =
      let m = of_sequence o.0 c o.2 o.3 (elements_members e (packed_size (C e)) o.0 o.1 bs ns refl o.5 ms) in
      subst (λ l. Member C x l) (sym (ap (λ l. l ++ bs) o.4 ∙ append_assoc (tag w (pos o.0)) o.1 bs)) m
  opens_member {x} (product ps) own bs ns c o ms = subst (λ l. Member C x (l ++ bs)) (sym o.0) (of_parts c (subst (λ l. Members C l bs) o.1 ms))
  opens_member {x} (choice w vs) own bs ns c o ms = subst (λ l. Member C x (l ++ bs)) (sym o.3) (of_choice c o.2 (unwhole C (subst (λ l. Members C l bs) o.4 ms)))

-- ---- names that are read one after another
module _ (C : List ℕ → Option Shape) where
  -- one after another
  pub reads_on : {ps qs rs : List (List ℕ)} {bs cs : List ℕ} → Reads C ps bs qs → Reads C qs cs rs → Reads C ps (bs ++ cs) rs
  reads_on reads_none s = s
  reads_on {rs = rs} {cs = cs} (reads_more {x = x} {bs = bs} {ps = ps} d own ns c o r) s = subst (λ l. Reads C (x ∷ ps) l rs) (sym (append_assoc own bs cs)) (reads_more d own ns c o (reads_on r s))

  pub reads_one : {x own : List ℕ} {ps : List (List ℕ)} (d : Shape) (ns : List (List ℕ)) → C x ≡ Some d → Opens C d own ns → Reads C (x ∷ ps) own (ns ++ ps)
  reads_one {x} {own} {ps} d ns c o = subst (λ l. Reads C (x ∷ ps) l (ns ++ ps)) (append-nil own) (reads_more d own ns c o reads_none)

  -- with others behind
  pub reads_before : {ps qs : List (List ℕ)} {bs : List ℕ} (rs : List (List ℕ)) → Reads C ps bs qs → Reads C (ps ++ rs) bs (qs ++ rs)
  reads_before rs reads_none = reads_none
  reads_before {qs = qs} rs (reads_more {bs = bs} {ps = ps} d own ns c o r) = reads_more d own ns c o (subst (λ l. Reads C l bs (qs ++ rs)) (append_assoc ns ps rs) (reads_before rs r))

  -- ---- a member is read
  elements_read : (m k : ℕ) (e bs : List ℕ) {qs : List (List ℕ)} → packed_size (C e) ≡ m → Members C (replicate k e) bs → Reads C (replicate k e ++ qs) bs qs → (own : List ℕ) × (ns : List (List ℕ)) × (cs : List ℕ) × OpensElements m e k own ns × Reads C (ns ++ qs) cs qs × (bs ≡ own ++ cs)
  elements_read zero k e bs p ms r = ([], replicate k e, bs, (refl, refl), r, refl)
  elements_read (suc n) k e bs p ms r = let a = copies_are C n k bs (packed_is n (C e) p) ms in (bs, [], [], (a.0, a.1, refl), reads_none, sym (append-nil bs))

  mutual
    pub reads_member : {x bs : List ℕ} {qs : List (List ℕ)} → Member C x bs → Reads C (x ∷ qs) bs qs
    reads_member (of_primitive {bs = bs} c small) = reads_one (primitive (length bs)) [] c (refl, small, refl)
    reads_member {x = x} {qs = qs} (of_sequence {bs = bs} {w = w} {lo = lo} {hi = hi} {e = e} k c low high ms) =
        let a = elements_read (packed_size (C e)) k e bs {qs = qs} refl ms (reads_members ms) in
        subst (λ l. Reads C (x ∷ qs) l qs) (append_assoc (tag w (pos k)) a.0 a.2 ∙ ap (λ l. tag w (pos k) ++ l) (sym a.5)) (reads_more (sequence w lo hi e) (tag w (pos k) ++ a.0) a.1 c (k, a.0, low, high, refl, a.3) a.4)
    reads_member (of_parts {ps = ps} c ms) = reads_more (product ps) [] ps c (refl, refl) (reads_members ms)
    reads_member (of_choice {p = p} {w = w} {k = k} {vs = vs} c listed m) = reads_more (choice w vs) (tag w k) (p ∷ []) c (k, p, listed, refl, refl) (reads_member m)

    pub reads_members : {ps qs : List (List ℕ)} {bs : List ℕ} → Members C ps bs → Reads C (ps ++ qs) bs qs
    reads_members no_members = reads_none
    reads_members (more_members m ms) = reads_on (reads_member m) (reads_members ms)

  -- copies of a name with the empty member are passed
  pub reads_skip : {qs ps : List (List ℕ)} {p bs : List ℕ} (k : ℕ) → Member C p [] → Reads C qs bs (replicate k p ++ ps) → Reads C qs bs ps
  reads_skip zero m r = r
  reads_skip {qs} {ps} {p} {bs} (suc k) m r = reads_skip k m (subst (λ l. Reads C qs l (replicate k p ++ ps)) (append-nil bs) (reads_on r (reads_member m)))

  -- ---- names that lead on before any byte
  pub leads_on : {x y z : List ℕ} {others qs : List (List ℕ)} (d : Shape) → (x ≡ y) ⊎ LeadsTo C x y → C y ≡ Some d → Opens C d [] qs → Reads C qs [] (z ∷ others) → LeadsTo C x z
  leads_on {x} {y} {z} {others} {qs} d l c o r = elim l [
    | inl e ↦ (d, qs, others, ap C e ∙ c, o, r)
    | inr a ↦ (a.0, a.1, others ++ a.2, a.3, a.4, reads_on a.5 (reads_more d [] qs c o (reads_before a.2 r)))
  ]

-- ---- values at the front of bytes that go on
cancel_right : (us bs cs : List ℕ) → us ++ cs ≡ bs ++ cs → us ≡ bs
cancel_right us bs cs e =
    let l : length us ≡ length bs = (let h = ap (λ l. length l) e in let i = length-append us cs in let j = length-append bs cs in omega (arith, h, i, j)) in
    (same_front us bs cs cs e l).0

module _ (C : List ℕ → Option Shape) where
  -- ---- what a member of a name opens
  elements_open : (e : List ℕ) (m k : ℕ) (bs : List ℕ) → packed_size (C e) ≡ m → Members C (replicate k e) bs → (own : List ℕ) × (ns : List (List ℕ)) × (cs : List ℕ) × OpensElements m e k own ns × Members C ns cs × (bs ≡ own ++ cs)
  elements_open e zero k bs p ms = ([], replicate k e, bs, (refl, refl), ms, refl)
  elements_open e (suc n) k bs p ms = let a = copies_are C n k bs (packed_is n (C e) p) ms in (bs, [], [], (a.0, a.1, refl), no_members, sym (append-nil bs))

  pub member_opens : (d : Shape) {x bs : List ℕ} → C x ≡ Some d → Member C x bs → (own : List ℕ) × (ns : List (List ℕ)) × (cs : List ℕ) × Opens C d own ns × Members C ns cs × (bs ≡ own ++ cs)
  member_opens (primitive n) {bs = bs} c m = let b = member_as C (primitive n) c m in (bs, [], [], (b.0, b.1, refl), no_members, sym (append-nil bs))
  member_opens (sequence w lo hi e) {bs = bs} c m =
      let b = member_as C (sequence w lo hi e) c m in
      let a = elements_open e (packed_size (C e)) b.0 b.1 refl b.4 in
      (tag w (pos b.0) ++ a.0, a.1, a.2, (b.0, a.0, b.2, b.3, refl, a.3), a.4, b.5 ∙ ap (λ l. tag w (pos b.0) ++ l) a.5 ∙ sym (append_assoc (tag w (pos b.0)) a.0 a.2))
  member_opens (product ps) {bs = bs} c m = ([], ps, bs, (refl, refl), member_as C (product ps) c m, refl)
  member_opens (choice w vs) {bs = bs} c m = let b = member_as C (choice w vs) c m in (tag w b.0, b.1 ∷ [], b.2, (b.0, b.1, b.3, refl, refl), whole C b.4, b.5)

  -- ---- what is opened once
  pub opens_once : (d : Shape) (own : List ℕ) (ns : List (List ℕ)) → UnambiguousShape d → Opens C d own ns → OpensOnce C d own ns
  opens_once d own ns u o = λ b ms r s p e. opens_one C d r s u p o e

  pub once_variant : (w : ℕ) (vs : List (ℤ × List ℕ)) (k : ℤ) (p : List ℕ) → ((j : ℤ) (q : List ℕ) → IsListedVariant j q vs → tag w j ≡ tag w k → q ≡ p) → OpensOnce C (choice w vs) (tag w k) (p ∷ [])
  once_variant w vs k p f = λ b ms r s o e.
      let t = same_front b (tag w k) r s e (ap (λ l. length l) o.3 ∙ length-tag w o.0 ∙ sym (length-tag w k)) in
      (t.0, t.1, o.4 ∙ ap (λ z. z ∷ []) (f o.0 o.1 o.2 (sym o.3 ∙ t.0)))

  -- ---- what was read of a member
  module _ {root : List ℕ} where
    pub begun_start : Begun C root [] (root ∷ [])
    begun_start = record {
      forth = λ xs ys zs m e. (xs, whole C m, sym e);
      back = λ us ms. unwhole C ms;
      reads = reads_none;
    }

    -- copies of a name with the empty member alone are passed
    pub begun_skip : {done p : List ℕ} {ps : List (List ℕ)} (k : ℕ) → OnlyEmpty C p → Begun C root done (replicate k p ++ ps) → Begun C root done ps
    begun_skip k h f = record {
      forth = λ xs ys zs m e. let r = f.forth xs ys zs m e in (r.0, pass C k h r.1, r.2);
      back = λ us ms. f.back us (unpass C k h ms);
      reads = reads_skip C k h.0 f.reads;
    }

    -- a name is opened
    pub begun_on : {done p own : List ℕ} {ps ns : List (List ℕ)} (d : Shape) → C p ≡ Some d → Opens C d own ns → OpensOnce C d own ns → Begun C root done (p ∷ ps) → Begun C root (done ++ own) (ns ++ ps)
    begun_on {done} {p} {own} {ps} {ns} d c o unique f = record {
      forth = λ xs ys zs m e.
          let r = f.forth xs ys (own ++ zs) m (e ∙ append_assoc done own zs) in
          let s = members_head C r.1 in
          let t = member_opens d c s.2 in
          let joins : t.0 ++ (t.2 ++ (s.1 ++ ys)) ≡ own ++ zs = sym (append_assoc t.0 t.2 (s.1 ++ ys)) ∙ ap (λ l. l ++ (s.1 ++ ys)) (sym t.5) ∙ sym (append_assoc s.0 s.1 ys) ∙ ap (λ l. l ++ ys) (sym s.4) ∙ sym r.2 in
          let q = unique t.0 t.1 (t.2 ++ (s.1 ++ ys)) zs t.3 joins in
          (t.2 ++ s.1, joined C (subst (λ l. Members C l t.2) q.2 t.4) s.3, sym q.1 ∙ sym (append_assoc t.2 s.1 ys));
      back = λ us ms.
          let s = parted C ns ms in
          let m = more_members (opens_member C d own s.0 ns c o s.2) s.3 in
          let e : (done ++ own) ++ us ≡ done ++ ((own ++ s.0) ++ s.1) = append_assoc done own us ∙ ap (λ l. done ++ l) (ap (λ l. own ++ l) s.4 ∙ sym (append_assoc own s.0 s.1)) in
          subst (λ l. Member C root l) (sym e) (f.back ((own ++ s.0) ++ s.1) m);
      reads = reads_on C f.reads (reads_one C d ns c o);
    }

    -- names are passed with bytes that are their only members
    pub begun_first : {done : List ℕ} (own : List ℕ) (qs ps : List (List ℕ)) → AreOnly C qs own → Begun C root done (qs ++ ps) → Begun C root (done ++ own) ps
    begun_first {done} own qs ps f w = record {
      forth = λ xs ys zs m e.
          let r = w.forth xs ys (own ++ zs) m (e ∙ append_assoc done own zs) in
          let s = parted C qs r.1 in
          let joins : s.0 ++ (s.1 ++ ys) ≡ own ++ zs = sym (append_assoc s.0 s.1 ys) ∙ ap (λ l. l ++ ys) (sym s.4) ∙ sym r.2 in
          let t = same_front s.0 own (s.1 ++ ys) zs joins (ap (λ l. length l) (f.only s.0 (s.1 ++ ys) zs s.2 joins)) in
          (s.1, s.3, sym t.1);
      back = λ us ms. subst (λ z. Member C root z) (sym (append_assoc done own us)) (w.back (own ++ us) (joined C f.members ms));
      reads = reads_on C w.reads (reads_members C f.members);
    }

    -- nothing is left to read: these bytes are a member, and no other front is
    pub begun_end : {done : List ℕ} → Begun C root done [] → Member C root done × ((xs ys zs : List ℕ) → Member C root xs → xs ++ ys ≡ done ++ zs → xs ≡ done)
    begun_end {done} f = (
      subst (λ l. Member C root l) (append-nil done) (f.back [] no_members),
      λ xs ys zs m e.
          let r = f.forth xs ys zs m e in
          let same : zs ≡ ys = r.2 ∙ ap (λ l. l ++ ys) (no_more r.1) in
          cancel_right xs done ys (e ∙ ap (λ l. done ++ l) same),
    )

    -- where no member of the next name begins at the rest, none of the root begins at all bytes
    pub begun_denied : {done p rest : List ℕ} {ps : List (List ℕ)} → Begun C root done (p ∷ ps) → (BeginsWith C p rest → ⊥) → BeginsWith C root (done ++ rest) → ⊥
    begun_denied f deny m =
        let r = f.forth m.0 m.1 _ m.2 (sym m.3) in
        let s = members_head C r.1 in
        deny (s.0, s.1 ++ m.1, s.2, r.2 ∙ ap (λ l. l ++ m.1) s.4 ∙ append_assoc s.0 s.1 m.1)
