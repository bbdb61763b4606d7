-- Names whose members are all bytes of one length, and bytes that are passed at once.
use Rattle.std.proofs.Common.{◌≡◌, ℕ, suc, zero, ◌+◌, ◌*◌, ◌<◌, ◌≤◌, Bool, true, false, cond, eqb, List, [], ◌∷◌, length, map, take, drop, replicate, Some, None, refl, sym, ◌∙◌, ap, subst, arith, length-append, length-drop, take-append-drop, length-take-le, ◌-◌, ◌++◌, add-one, append_assoc, append-nil, take-add}
use Rattle.std.specs.Prelude.{Option, All, IfSome, MatchOption, slice_get, sum, ℤ}
use Rattle.std.proofs.lemmas.Bool.{eqb-true}
use Rattle.std.proofs.Math.Nat.{suc-mul}
use Rattle.std.proofs.lemmas.List.Elements.{All-take, All-drop}
use Rattle.std.proofs.lemmas.List.{nil_from_length}
use Rattle.std.proofs.lemmas.List.Sums.{sum_by-cons}
use Rattle.borsh_walks.specs.Container.{Shape, primitive, sequence, product, choice, of_primitive, of_sequence, of_parts, Members, no_members, more_members, variant_names}
use Rattle.borsh_plan.specs.declared.{plan.Plan.Plan, named.Named.Named}
use Rattle.borsh_plan.specs.Plan.{SizeAt, definitions_of, names_of}
use Rattle.borsh_plan.specs.Names.{name_at, parts_in}
use Rattle.borsh_values.specs.declared.{frames.Rest.TheVariants.Copies, tags.Found.TheVariants.One, runs.Passed.Passed, runs.Run.Run}
use Rattle.borsh_plan.specs.Sizes.{fitting, are_known, together, known_by, known_within}
use Rattle.borsh_plan.proofs.SizesLaws.{first_known, fits}
use Rattle.borsh_values.proofs.MemberLaws.{member_as, same_front, members_head, whole, unwhole, joined, parted, no_more, opens_member, member_opens, opens_once}
use Rattle.borsh_values.specs.Free.{FreeSize, FreeSizes, AreOnly, AreFirst, IsTagLength, IsRun, IsFreeFront, Passes}
use Rattle.borsh_values.specs.Nodes.{Opens}
use Rattle.borsh_values.specs.Cursor.{OpensOnce, Takes, step_count}
use Rattle.borsh_values.specs.Tags.{FoundAs}
use Rattle.borsh_values.proofs.TakesLaws.{found_choice}

-- ---- names whose members are all bytes of one length
module _ (C : List ℕ → Option Shape) where
  pub free_none : FreeSizes C [] 0
  free_none bs = ((λ m. ap (λ l. length l) (no_more m)), λ l small. subst (λ b. Members C [] b) (sym (nil_from_length bs l)) no_members)

  pub free_more : {p : List ℕ} {ps : List (List ℕ)} (m n : ℕ) → FreeSize C p m → FreeSizes C ps n → FreeSizes C (p ∷ ps) (m + n)
  free_more {p} {ps} m n f g bs = (
    (λ a. let s = members_head C a in
        let x = (f s.0).0 s.2 in
        let y = (g s.1).0 s.3 in
        ap (λ l. length l) s.4 ∙ length-append s.0 s.1 ∙ omega (arith, x, y)),
    λ l small.
        let low : m ≤ length bs = omega (arith, l) in
        let a = (f (take m bs)).1 (length-take-le m bs low) (All-take (λ b. b < 256) m bs small) in
        let d = length-drop m bs in
        let b = (g (drop m bs)).1 (omega (arith, d, l)) (All-drop (λ b. b < 256) m bs small) in
        subst (λ z. Members C (p ∷ ps) z) (take-append-drop m bs) (more_members a b),
  )

  -- each k times n bytes are k members, and no others are
  pub free_copies : {e : List ℕ} (k n : ℕ) → FreeSize C e n → FreeSizes C (replicate k e) (k * n)
  free_copies {e} zero n f = subst (λ i. FreeSizes C [] i) {x = 0} {y = 0 * n} (omega arith) free_none
  free_copies {e} (suc k) n f = let p = suc-mul k n in subst (λ i. FreeSizes C (e ∷ replicate k e) i) {x = n + k * n} {y = suc k * n} (omega (arith, p)) (free_more n (k * n) f (free_copies k n f))

  pub free_primitive : {x : List ℕ} (n : ℕ) → C x ≡ Some (primitive n) → FreeSize C x n
  free_primitive {x} n c bs = ((λ m. (member_as C (primitive n) c m).0), λ l small. of_primitive (c ∙ ap (λ k. Some (primitive k)) (sym l)) small)

  pub free_product : {x : List ℕ} (ps : List (List ℕ)) (n : ℕ) → C x ≡ Some (product ps) → FreeSizes C ps n → FreeSize C x n
  free_product ps n c f bs = ((λ m. (f bs).0 (member_as C (product ps) c m)), λ l small. of_parts c ((f bs).1 l small))

  pub free_array : {x e : List ℕ} (w k n : ℕ) → w ≡ 0 → C x ≡ Some (sequence w k k e) → FreeSize C e n → FreeSize C x (k * n)
  free_array {x} {e} zero k n z c f bs = (
    (λ m. let b = member_as C (sequence zero k k e) c m in
        let q : b.0 ≡ k = (let i = b.2 in let j = b.3 in omega (arith, i, j)) in
        let t : bs ≡ b.1 = b.5 in
        ap (λ l. length l) t ∙ (free_copies k n f b.1).0 (subst (λ i. Members C (replicate i e) b.1) q b.4)),
    λ l small. of_sequence k c (omega arith) (omega arith) ((free_copies k n f bs).1 l small),
  )
  free_array (suc w) k n z c f bs = absurd (omega arith)

  pub free_one : {x : List ℕ} (n : ℕ) → FreeSize C x n → FreeSizes C (x ∷ []) n
  free_one n f bs = ((λ m. (f bs).0 (unwhole C m)), λ l small. whole C ((f bs).1 l small))

  -- ---- of a definition
  pub free_named : {x : List ℕ} (n size : ℕ) (s : Shape) → C x ≡ Some s → s ≡ primitive n → size ≡ n → FreeSize C x size
  free_named {x} n size s c e z = subst (λ i. FreeSize C x i) (sym z) (free_primitive n (c ∙ ap (λ s. Some s) e))

  pub free_parts : {x : List ℕ} (ps : List (List ℕ)) (n : ℕ) (o : Option Shape) (s : Shape) → C x ≡ Some s → s ≡ product ps → o ≡ Some s → FreeSizes C (parts_in o) n → FreeSize C x n
  free_parts ps n o s c e h f = free_product ps n (c ∙ ap (λ s. Some s) e) (subst (λ q. FreeSizes C (parts_in q) n) (h ∙ ap (λ s. Some s) e) f)

pub some_factor : (a b : ℕ) → 0 < a * b → 0 < b
some_factor a zero h = absurd (omega (arith, h))
some_factor a (suc b) h = omega arith

-- ---- names of a known size are free
module _ (C : List ℕ → Option Shape) (P : List ℕ → ℕ) (sound : (x : List ℕ) → 0 < P x → FreeSize C x (P x)) where
  all_free : (ps : List (List ℕ)) → are_known (map P ps) ≡ true → FreeSizes C ps (sum (map P ps))
  all_free [] h = free_none C
  all_free (p ∷ ps) h = let k = first_known (P p) (map P ps) h in subst (λ n. FreeSizes C (p ∷ ps) n) (sym (sum_by-cons (λ n. n) (P p) (map P ps))) (free_more C (P p) (sum (map P ps)) (sound p k.0) (all_free ps k.1))

  together_or : (ps : List (List ℕ)) (b : Bool) → are_known (map P ps) ≡ b → 0 < cond b (fitting (sum (map P ps))) 0 → FreeSizes C ps (cond b (fitting (sum (map P ps))) 0)
  together_or ps true e h = subst (λ n. FreeSizes C ps n) (sym (fits (sum (map P ps)) h)) (all_free ps e)
  together_or ps false e h = absurd (omega arith)

  together_free : (ps : List (List ℕ)) → 0 < together (map P ps) → FreeSizes C ps (together (map P ps))
  together_free ps h = together_or ps (are_known (map P ps)) refl h

  array_or : {x : List ℕ} (e : List ℕ) (lo hi : ℕ) (b : Bool) → eqb lo hi ≡ b → C x ≡ Some (sequence zero lo hi e) → 0 < cond b (fitting (lo * P e)) 0 → FreeSize C x (cond b (fitting (lo * P e)) 0)
  array_or {x} e lo hi true q c h =
      let k = fits (lo * P e) h in
      let same : hi ≡ lo = sym (eqb-true lo hi q) in
      subst (λ n. FreeSize C x n) (sym k) (free_array C zero lo (P e) refl (c ∙ ap (λ i. Some (sequence zero lo i e)) same) (sound e (some_factor lo (P e) (subst (λ n. 0 < n) k h))))
  array_or e lo hi false q c h = absurd (omega arith)

  by_free : {x : List ℕ} (o : Option Shape) → C x ≡ o → 0 < known_by P o → FreeSize C x (known_by P o)
  by_free None c h = absurd (omega arith)
  by_free (Some (primitive n)) c h = free_primitive C n c
  by_free (Some (sequence zero lo hi e)) c h = array_or e lo hi (eqb lo hi) refl c h
  by_free (Some (sequence (suc w) lo hi e)) c h = absurd (omega arith)
  by_free (Some (product ps)) c h = free_product C ps (together (map P ps)) c (together_free ps h)
  by_free (Some (choice w vs)) c h = absurd (omega arith)

within_free : (C : List ℕ → Option Shape) (k : ℕ) (x : List ℕ) → 0 < known_within k C x → FreeSize C x (known_within k C x)
unfolding known_within
within_free C zero x h = absurd (omega arith)
within_free C (suc k) x h = by_free C (λ y. known_within k C y) (within_free C k) (C x) refl h

-- the size that is known of the name at a place
pub size_free : (l : Plan) (at n : ℕ) → SizeAt l at n → at < length (names_of l) → 0 < n → FreeSize (definitions_of l) (name_at (names_of l) at) n
size_free l at n size low some =
    let x = name_at (names_of l) at in
    let e = size low in
    subst (λ n. FreeSize (definitions_of l) x n) (sym e) (within_free (definitions_of l) 8 x (subst (λ n. 0 < n) e some))

-- ---- members that are the only ones where bytes begin so
module _ (C : List ℕ → Option Shape) where
  only_none : AreOnly C [] []
  only_none = record { members = no_members; only = λ xs ys zs ms e. no_more ms }

  pub only_free : {ps : List (List ℕ)} (own : List ℕ) (n : ℕ) → FreeSizes C ps n → length own ≡ n → All (λ b. b < 256) own → AreOnly C ps own
  only_free own n f l small = record {
    members = (f own).1 l small;
    only = λ xs ys zs ms e. (same_front xs own ys zs e ((f xs).0 ms ∙ sym l)).0;
  }

  only_more : {ps qs : List (List ℕ)} {a b : List ℕ} → AreOnly C ps a → AreOnly C qs b → AreOnly C (ps ++ qs) (a ++ b)
  only_more {ps} {qs} {a} {b} f g = record {
    members = joined C f.members g.members;
    only = λ xs ys zs ms e.
        let s = parted C ps ms in
        let joins : s.0 ++ (s.1 ++ ys) ≡ a ++ (b ++ zs) = sym (append_assoc s.0 s.1 ys) ∙ ap (λ l. l ++ ys) (sym s.4) ∙ e ∙ append_assoc a b zs in
        let h : s.0 ≡ a = f.only s.0 (s.1 ++ ys) (b ++ zs) s.2 joins in
        let t = same_front s.0 a (s.1 ++ ys) (b ++ zs) joins (ap (λ l. length l) h) in
        s.4 ∙ ap (λ l. l ++ s.1) h ∙ ap (λ l. a ++ l) (g.only s.1 ys zs s.3 t.1);
  }

  -- a definition is opened, and its parts are the only ones
  only_open : {x : List ℕ} {a b : List ℕ} (d : Shape) (ns : List (List ℕ)) → C x ≡ Some d → Opens C d a ns → OpensOnce C d a ns → AreOnly C ns b → AreOnly C (x ∷ []) (a ++ b)
  only_open {x} {a} {b} d ns c o once f = record {
    members = whole C (opens_member C d a b ns c o f.members);
    only = λ xs ys zs ms e.
        let t = member_opens C d c (unwhole C ms) in
        let joins : t.0 ++ (t.2 ++ ys) ≡ a ++ (b ++ zs) = sym (append_assoc t.0 t.2 ys) ∙ ap (λ l. l ++ ys) (sym t.5) ∙ e ∙ append_assoc a b zs in
        let q = once t.0 t.1 (t.2 ++ ys) (b ++ zs) t.3 joins in
        t.5 ∙ ap (λ l. l ++ t.2) q.0 ∙ ap (λ l. a ++ l) (f.only t.2 ys zs (subst (λ l. Members C l t.2) q.2 t.4) q.1);
  }

  -- ---- the first bytes
  pub first_none : (x bytes : List ℕ) → AreFirst C (replicate 0 x) bytes 0
  first_none x bytes = (omega arith, only_none)

  pub first_no_parts : (bytes : List ℕ) → AreFirst C [] bytes 0
  first_no_parts bytes = (omega arith, only_none)

  pub first_free : {ps : List (List ℕ)} (bytes : List ℕ) (n : ℕ) → FreeSizes C ps n → n ≤ length bytes → All (λ b. b < 256) bytes → AreFirst C ps bytes n
  first_free bytes n f low small = (low, only_free (take n bytes) n f (length-take-le n bytes low) (All-take (λ b. b < 256) n bytes small))

  pub first_taken : {x : List ℕ} (d : Shape) (bytes : List ℕ) (n : ℕ) → C x ≡ Some d → Takes C d bytes n [] → AreFirst C (x ∷ []) bytes n
  first_taken {x} d bytes n c t = (t.within, subst (λ l. AreOnly C (x ∷ []) l) (append-nil (take n bytes)) (only_open d [] c t.opens t.once only_none))

  pub first_product : {x : List ℕ} (ps : List (List ℕ)) (bytes : List ℕ) (n : ℕ) → C x ≡ Some (product ps) → AreFirst C ps bytes n → AreFirst C (x ∷ []) bytes n
  first_product ps bytes n c h = (h.0, only_open (product ps) ps c (refl, refl) (opens_once C (product ps) [] ps tt (refl, refl)) h.1)

  pub first_more : {ps qs : List (List ℕ)} (bytes : List ℕ) (m n : ℕ) → AreFirst C ps bytes m → AreFirst C qs (drop m bytes) n → AreFirst C (ps ++ qs) bytes (m + n)
  first_more {ps} {qs} bytes m n f g = let d = length-drop m bytes in (omega (arith, d, f.0, g.0), subst (λ l. AreOnly C (ps ++ qs) l) (sym (take-add m n bytes)) (only_more f.1 g.1))

  -- a value behind copies of its name
  pub first_copy : (x bytes : List ℕ) (k m n : ℕ) → AreFirst C (replicate k x) bytes m → AreFirst C (x ∷ []) (drop m bytes) n → AreFirst C (replicate (k + 1) x) bytes (m + n)
  first_copy x bytes k m n f g = subst (λ l. AreFirst C l bytes (m + n)) (copies_end k ∙ ap (λ i. replicate i x) (sym (add-one k))) (first_more bytes m n f g)
    where
      copies_end : (k : ℕ) → replicate k x ++ x ∷ [] ≡ replicate (suc k) x
      copies_end zero = refl
      copies_end (suc k) = ap (λ l. x ∷ l) (copies_end k)

  -- an enum whose tag is a byte, and whose variant is of a known size
  pub tag_length : {x : List ℕ} (t i n : ℕ) (p : List ℕ) (vs : List (ℤ × List ℕ)) → C x ≡ Some (choice 1 vs) → FoundAs vs (t ∷ []) (One i) → slice_get (variant_names vs) i ≡ Some p → FreeSize C p n → IsTagLength C x t (n + 1)
  tag_length {x} t i n p vs c found at f = λ bs small low.
      let o = found_choice C 1 1 i p (t ∷ bs) vs refl (omega arith) found at in
      let within : n ≤ length bs = omega arith in
      subst (λ k. AreOnly C (x ∷ []) (take k (t ∷ bs))) {x = suc n} {y = n + 1} (sym (add-one n)) (only_open (choice 1 vs) (p ∷ []) c o.opens o.once (first_free bs n (free_one C n f) within small).1)

-- ---- copies of a name
pub copies_split : (x : List ℕ) (k j : ℕ) → j ≤ k → replicate k x ≡ replicate j x ++ replicate (k - j) x
copies_split x k zero h = ap (λ i. replicate i x) {x = k} {y = k - 0} (omega arith)
copies_split x zero (suc j) h = absurd (omega arith)
copies_split x (suc k) (suc j) h = ap (λ l. x ∷ l) (copies_split x k j (omega arith) ∙ ap (λ i. replicate j x ++ replicate i x) {x = k - j} {y = suc k - suc j} (omega arith))

pub fewer_copies : (ns : List Named) (at k j : ℕ) → j ≤ k → step_count ns (Copies at j) ≤ step_count ns (Copies at k)
fewer_copies ns at zero zero h = omega arith
fewer_copies ns at zero (suc j) h = absurd (omega arith)
fewer_copies ns at (suc k) zero h = omega arith
fewer_copies ns at (suc k) (suc j) h = omega arith

-- a run is passed
pub run_passes : (C : List ℕ → Option Shape) (ns : List Named) (at count : ℕ) (left : List ℕ) (r : Run) → at < length ns → IsRun C (name_at ns at) left count r → (o : Option Passed) → MatchOption o (r.taken ≡ 0) (λ p. Passes at count r p) → IfSome o (λ p. IsFreeFront C ns (Copies at count) left p)
run_passes C ns at count left r low g None h = tt
run_passes C ns at count left r low g (Some p) h = subst (λ p. IsFreeFront C ns (Copies at count) left p) (sym h.1) (record {
  names = replicate r.values (name_at ns at);
  first = g.1;
  parts = copies_split (name_at ns at) count r.values g.0;
  some = h.0;
  fits = low;
  steps = fewer_copies ns at count (count - r.values) (omega arith);
})

-- the first byte, and those behind it
pub head_is : (xs : List ℕ) (t : ℕ) → slice_get xs 0 ≡ Some t → xs ≡ t ∷ drop 1 xs
head_is [] t e = cc
head_is (x ∷ xs) t e = let h : x ≡ t = cc in ap (λ y. y ∷ xs) h

-- a value whose length its first byte tells
pub first_by_tag : (C : List ℕ → Option Shape) (x bytes : List ℕ) (t n : ℕ) → IsTagLength C x t n → slice_get bytes 0 ≡ Some t → n ≤ length bytes → All (λ b. b < 256) bytes → AreFirst C (x ∷ []) bytes n
first_by_tag C x bytes t n f e low small =
    let h = head_is bytes t e in
    let l = ap (λ l. length l) h in
    (low, subst (λ b. AreOnly C (x ∷ []) (take n b)) (sym h) (f (drop 1 bytes) (All-drop (λ b. b < 256) 1 bytes small) (omega (arith, l, low))))

pub no_first : (xs : List (List ℕ)) → slice_get xs 0 ≡ None → [] ≡ xs
no_first [] e = refl
no_first (x ∷ xs) e = cc
