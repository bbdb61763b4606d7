-- Members by the height of their derivation.
use Rattle.std.proofs.Common.{◌≡◌, ℕ, suc, zero, ◌-◌, ◌/◌, ◌%◌, ◌<◌, ◌≤◌, List, [], ◌∷◌, ◌++◌, map, length, replicate, Some, refl, sym, ◌∙◌, ap, subst, arith, append_assoc}
use Rattle.std.specs.Prelude.{Option, All, ℤ, pos, negsuc, max}
use Rattle.std.proofs.lemmas.List.Elements.{All-append, All-nil}
use Rattle.borsh_walks.specs.Container.{Shape, primitive, sequence, product, choice, IsListedVariant, little_endian, tag, Member, of_primitive, of_sequence, of_parts, of_choice, Members, no_members, more_members}
use Rattle.borsh_walks.proofs.Laws.{one_definition}

-- the bytes are, one after another, what P says of the names
pub data AllOf (P : List ℕ → List ℕ → Type 0) : List (List ℕ) → List ℕ → Type 0 where
  all_none : AllOf P [] []
  all_more : {p us vs : List ℕ} {ps : List (List ℕ)} → P p us → AllOf P ps vs → AllOf P (p ∷ ps) (us ++ vs)

-- a value of a definition, where P says what those of its parts are
abbrev pub ValueOf : (List ℕ → List ℕ → Type 0) → Shape → List ℕ → Type 0
ValueOf P (primitive n) bs = (length bs ≡ n) × All (λ b. b < 256) bs
ValueOf P (sequence w lo hi e) bs = (k : ℕ) × (cs : List ℕ) × (lo ≤ k) × (k ≤ hi) × AllOf P (replicate k e) cs × (bs ≡ tag w (pos k) ++ cs)
ValueOf P (product ps) bs = AllOf P ps bs
ValueOf P (choice w vs) bs = (k : ℤ) × (p : List ℕ) × (cs : List ℕ) × IsListedVariant k p vs × P p cs × (bs ≡ tag w k ++ cs)

module _ (P Q : List ℕ → List ℕ → Type 0) (f : (x bs : List ℕ) → P x bs → Q x bs) where
  pub all_map : {ps : List (List ℕ)} {bs : List ℕ} → AllOf P ps bs → AllOf Q ps bs
  all_map all_none = all_none
  all_map (all_more {p = p} {us = us} m ms) = all_more (f p us m) (all_map ms)

  pub value_map : (d : Shape) (bs : List ℕ) → ValueOf P d bs → ValueOf Q d bs
  value_map (primitive n) bs v = v
  value_map (sequence w lo hi e) bs v = (v.0, v.1, v.2, v.3, all_map v.4, v.5)
  value_map (product ps) bs v = all_map v
  value_map (choice w vs) bs v = (v.0, v.1, v.2, v.3, f v.1 v.2 v.4, v.5)

pub all_joined : {P : List ℕ → List ℕ → Type 0} {ps qs : List (List ℕ)} {us vs : List ℕ} → AllOf P ps us → AllOf P qs vs → AllOf P (ps ++ qs) (us ++ vs)
all_joined all_none b = b
all_joined {P} {qs = qs} {vs = vs} (all_more {p = p} {us = xs} {vs = ys} {ps = ps} m ms) b =
    subst (λ z. AllOf P (p ∷ (ps ++ qs)) z) (sym (append_assoc xs ys vs)) (all_more m (all_joined ms b))

-- ---- bytes
one_small : (b : ℕ) → b < 256 → All (λ b. b < 256) (b ∷ [])
one_small b h zero d l = h
one_small b h (suc k) d l = absurd (omega arith)

low_small : (w n : ℕ) → All (λ b. b < 256) (little_endian w n)
low_small zero n = All-nil (λ b. b < 256)
low_small (suc w) n = All-append (λ b. b < 256) (n % 256 ∷ []) (little_endian w (n / 256)) (one_small (n % 256) (omega arith)) (low_small w (n / 256))

other_small : (bs : List ℕ) → All (λ b. b < 256) (map (λ b. 255 - b) bs)
other_small [] = All-nil (λ b. b < 256)
other_small (b ∷ bs) = All-append (λ b. b < 256) ((255 - b) ∷ []) (map (λ b. 255 - b) bs) (one_small (255 - b) (omega arith)) (other_small bs)

pub tag_small : (w : ℕ) (k : ℤ) → All (λ b. b < 256) (tag w k)
tag_small w (pos n) = low_small w n
tag_small w (negsuc n) = other_small (little_endian w n)

module _ (C : List ℕ → Option Shape) where
  mutual
    pub member_small : {x bs : List ℕ} → Member C x bs → All (λ b. b < 256) bs
    member_small (of_primitive p small) = small
    member_small (of_sequence {bs = bs} {w = w} k p low high ms) = All-append (λ b. b < 256) (tag w (pos k)) bs (tag_small w (pos k)) (members_small ms)
    member_small (of_parts p ms) = members_small ms
    member_small (of_choice {bs = bs} {w = w} {k = k} p listed m) = All-append (λ b. b < 256) (tag w k) bs (tag_small w k) (member_small m)

    pub members_small : {ps : List (List ℕ)} {bs : List ℕ} → Members C ps bs → All (λ b. b < 256) bs
    members_small no_members = All-nil (λ b. b < 256)
    members_small (more_members {bs = us} {cs = vs} m ms) = All-append (λ b. b < 256) us vs (member_small m) (members_small ms)

  -- ---- the bytes are a member of the name by a derivation of at most that height
  abbrev pub Within : ℕ → List ℕ → List ℕ → Type 0
  Within zero x bs = ⊥
  Within (suc n) x bs = (d : Shape) × (C x ≡ Some d) × ValueOf (Within n) d bs

  pub within_le : (m n : ℕ) → m ≤ n → (x bs : List ℕ) → Within m x bs → Within n x bs
  within_le zero n h x bs v = absurd v
  within_le (suc m) zero h x bs v = absurd (omega arith)
  within_le (suc m) (suc n) h x bs v = (v.0, v.1, value_map (Within m) (Within n) (within_le m n (omega arith)) v.0 bs v.2)

  mutual
    pub find_height : {x bs : List ℕ} → Member C x bs → (n : ℕ) × Within n x bs
    find_height (of_primitive {bs = bs} p small) = (suc zero, (primitive (length bs), p, (refl, small)))
    find_height (of_sequence {bs = bs} {w = w} {lo = lo} {hi = hi} {e = e} k p low high ms) = let t = find_heights ms in (suc t.0, (sequence w lo hi e, p, (k, bs, low, high, t.1, refl)))
    find_height (of_parts {ps = ps} p ms) = let t = find_heights ms in (suc t.0, (product ps, p, t.1))
    find_height (of_choice {bs = bs} {p = q} {w = w} {k = k} {vs = vs} p listed m) = let t = find_height m in (suc t.0, (choice w vs, p, (k, q, bs, listed, t.1, refl)))

    pub find_heights : {ps : List (List ℕ)} {bs : List ℕ} → Members C ps bs → (n : ℕ) × AllOf (Within n) ps bs
    find_heights no_members = (zero, all_none)
    find_heights (more_members {p = p} {bs = us} m ms) =
        let a = find_height m in
        let b = find_heights ms in
        let h : ℕ = max a.0 b.0 in
        (h, all_more (within_le a.0 h (omega arith) p us a.1) (all_map (Within b.0) (Within h) (within_le b.0 h (omega arith)) b.1))

  pub members_all : {ps : List (List ℕ)} {bs : List ℕ} → AllOf (Member C) ps bs → Members C ps bs
  members_all all_none = no_members
  members_all (all_more m ms) = more_members m (members_all ms)

  pub all_members : {ps : List (List ℕ)} {bs : List ℕ} → Members C ps bs → AllOf (Member C) ps bs
  all_members no_members = all_none
  all_members (more_members m ms) = all_more m (all_members ms)

  pub member_value : {x : List ℕ} (d : Shape) (bs : List ℕ) → C x ≡ Some d → ValueOf (Member C) d bs → Member C x bs
  member_value (primitive n) bs p v = of_primitive (p ∙ ap (λ k. Some (primitive k)) (sym v.0)) v.1
  member_value {x} (sequence w lo hi e) bs p v = subst (λ z. Member C x z) (sym v.5) (of_sequence v.0 p v.2 v.3 (members_all v.4))
  member_value (product ps) bs p v = of_parts p (members_all v)
  member_value {x} (choice w vs) bs p v = subst (λ z. Member C x z) (sym v.5) (of_choice p v.3 v.4)

  pub within_member : (n : ℕ) (x bs : List ℕ) → Within n x bs → Member C x bs
  within_member zero x bs v = absurd v
  within_member (suc n) x bs v = member_value v.0 bs v.1 (value_map (Within n) (Member C) (within_member n) v.0 bs v.2)

  -- the value of a struct or tuple is those of its parts
  pub within_parts : (n : ℕ) (x bs : List ℕ) (ps : List (List ℕ)) → C x ≡ Some (product ps) → Within n x bs → AllOf (Within n) ps bs
  within_parts zero x bs ps p v = absurd v
  within_parts (suc n) x bs ps p v =
      let all : ValueOf (Within n) (product ps) bs = subst (λ d. ValueOf (Within n) d bs) (one_definition v.1 p) v.2 in
      all_map (Within n) (Within (suc n)) (within_le n (suc n) (omega arith)) all
