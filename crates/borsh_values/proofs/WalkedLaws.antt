-- Steps of a walk over the parts of a value.
use Rattle.std.proofs.Common.{◌≡◌, ℕ, suc, zero, ◌≤◌, ◌<◌, ◌^◌, inl, inr, List, [], ◌∷◌, ◌++◌, drop, take, length, length-append, Some, None, refl, sym, ◌∙◌, ap, subst, arith, append_assoc, append-nil}
use Rattle.std.specs.Prelude.{Option, ℤ, pos, slice_get}
use Rattle.std.proofs.Math.Seq.{take-append_seam, drop-append_seam}
use Rattle.borsh_walks.specs.Container.{Shape, sequence, product, choice, tag, Member, Members, IsZeroSize}
use Rattle.borsh_values.specs.declared.frames.Opened.TheVariants.{Undecided, Refused, Taken}
use Rattle.borsh_values.specs.declared.frames.Opened.{Opened}
use Rattle.borsh_walks.proofs.Laws.{length-tag, zero_member}
use Rattle.borsh_values.specs.Nodes.{packed_size, Opens, OpensElements, IsCountOf, IsVariantOf, Reads, reads_none}
use Rattle.borsh_values.specs.Tags.{number_of, IsVariantIndex}
use Rattle.borsh_values.specs.Cursor.{OpensOnce}
use Rattle.borsh_values.specs.Walks.{IsReadTo, IsCounted, CountsIfTaken}
use Rattle.borsh_values.proofs.TagLaws.{listed_at, value_low}
use Rattle.borsh_values.proofs.MemberLaws.{member_opens, no_more, member_as, reads_on, reads_one, reads_skip, members_head, pass_one, whole, joined}

-- the first bytes behind which others are
first_of : (w : ℕ) (xs ys own : List ℕ) → own ≡ xs ++ ys → length xs ≡ w → (take w own ≡ xs) × (drop w own ≡ ys)
first_of w xs ys own e l = (
  ap (λ b. take w b) e ∙ ap (λ i. take i (xs ++ ys)) (sym l) ∙ take-append_seam xs ys,
  ap (λ b. drop w b) e ∙ ap (λ i. drop i (xs ++ ys)) (sym l) ∙ drop-append_seam xs ys,
)

pub counts_if : (d : Shape) → IsCounted d → (o : Opened) → CountsIfTaken d o
counts_if d c Undecided = tt
counts_if d c (Refused r) = tt
counts_if d c (Taken n r) = c

module _ (C : List ℕ → Option Shape) where
  -- at the beginning
  pub read_start : {root bytes : List ℕ} → Member C root bytes → IsReadTo C root [] (root ∷ []) bytes
  read_start m = (reads_none, whole C m)

  -- a name of zero size is passed
  pub read_zero : {root done left x : List ℕ} {ps : List (List ℕ)} → IsZeroSize C x → IsReadTo C root done (x ∷ ps) left → IsReadTo C root done ps left
  read_zero {x = x} z r =
      let s = members_head C r.1 in
      let m : Member C x [] = subst (λ b. Member C x b) (zero_member C s.2 z) s.2 in
      (reads_skip C 1 m r.0, pass_one C (m, z) r.1)

  -- the parts of a struct or tuple come next, and there are no bytes before them
  pub read_product : {root done left x : List ℕ} {ns ps : List (List ℕ)} → C x ≡ Some (product ns) → IsReadTo C root done (x ∷ ps) left → IsReadTo C root done (ns ++ ps) left
  read_product {root = root} {done = done} {ns = ns} {ps = ps} c r =
      let s = members_head C r.1 in (
        subst (λ b. Reads C (root ∷ []) b (ns ++ ps)) (append-nil done) (reads_on C r.0 (reads_one C (product ns) ns c (refl, refl))),
        subst (λ b. Members C (ns ++ ps) b) (sym s.4) (joined C (member_as C (product ns) c s.2) s.3),
      )

  -- at the end
  pub read_end : {root done left : List ℕ} → IsReadTo C root done [] left → left ≡ []
  read_end r = no_more r.1

  -- own bytes that are opened once are taken, and the parts come next
  pub read_on : {root done old new x own : List ℕ} {ps parts : List (List ℕ)} (d : Shape) (ns : List (List ℕ)) → C x ≡ Some d → OpensOnce C d own parts → old ≡ own ++ new → Opens C d own ns → IsReadTo C root done (x ∷ ps) old → IsReadTo C root (done ++ own) (ns ++ ps) new
  read_on {new = new} {own = own} {ps = ps} d ns c once e o r =
      let s = members_head C r.1 in
      let t = member_opens C d c s.2 in
      let joins : t.0 ++ (t.2 ++ s.1) ≡ own ++ new = sym (append_assoc t.0 t.2 s.1) ∙ ap (λ b. b ++ s.1) (sym t.5) ∙ sym s.4 ∙ e in
      let q = once t.0 t.1 (t.2 ++ s.1) new t.3 joins in
      let same = q.2 ∙ sym (once own ns new new o refl).2 in
      let ms : Members C (t.1 ++ ps) new = subst (λ b. Members C (t.1 ++ ps) b) q.1 (joined C t.4 s.3) in
      (reads_on C r.0 (reads_one C d ns c o), subst (λ l. Members C (l ++ ps) new) same ms)

  -- a node of an enum: the variant that `variant_of` finds has its tag, and its value comes next
  pub read_variant : (w : ℕ) (vs : List (ℤ × List ℕ)) (own : List ℕ) (parts : List (List ℕ)) (found : Option ℕ) → Opens C (choice w vs) own parts → IsVariantOf (choice w vs) own found → (i : ℕ) × (k : ℤ) × (p : List ℕ) × (found ≡ Some i) × (slice_get vs i ≡ Some (k, p)) × (own ≡ tag w k) × Opens C (choice w vs) own (p ∷ [])
  read_variant w vs own parts found o v =
      let f = first_of w (tag w o.0) [] own (o.3 ∙ sym (append-nil (tag w o.0))) (length-tag w o.0) in
      let all : take w own ≡ own = f.0 ∙ sym o.3 in
      let long : length own ≡ w = ap (λ b. length b) o.3 ∙ length-tag w o.0 in
      go found (subst (λ t. IsVariantIndex vs t found) all v) long
    where
      go : (found : Option ℕ) → IsVariantIndex vs own found → length own ≡ w → (i : ℕ) × (k : ℤ) × (p : List ℕ) × (found ≡ Some i) × (slice_get vs i ≡ Some (k, p)) × (own ≡ tag w k) × Opens C (choice w vs) own (p ∷ [])
      go None v long = absurd (v o.0 o.1 o.2 (ap (λ i. tag i o.0) long ∙ sym o.3))
      go (Some i) v long =
          let t : own ≡ tag w v.0 = sym v.3 ∙ ap (λ i. tag i v.0) long in
          (i, v.0, v.1, refl, v.2, t, (v.0, v.1, listed_at vs i v.0 v.1 v.2, t, refl))

  -- a node of a sequence: `count_of` finds the count that is written, and `elements_of` the elements behind it
  pub read_count : (w lo hi : ℕ) (e own : List ℕ) (parts : List (List ℕ)) (found : Option ℕ) → IsCounted (sequence w lo hi e) → Opens C (sequence w lo hi e) own parts → IsCountOf (sequence w lo hi e) own found → (k : ℕ) × (found ≡ Some k) × (lo ≤ k) × (k ≤ hi) × (own ≡ tag w (pos k) ++ drop w own) × OpensElements (packed_size (C e)) e k (drop w own) parts
  read_count zero lo hi e own parts found c o v =
      let k : lo ≡ o.0 = elim c [ inl h ↦ (let a = h.1 in let b = o.2 in let d = o.3 in omega (arith, a, b, d)) | inr h ↦ (let a = h.1 in let b = o.2 in let d = o.3 in omega (arith, a, b, d)) ] in
      (o.0, v ∙ ap (λ i. Some i) k, o.2, o.3, refl, subst (λ b. OpensElements (packed_size (C e)) e o.0 b parts) (sym o.4) o.5)
  read_count (suc w) lo hi e own parts found c o v =
      let f = first_of (suc w) (tag (suc w) (pos o.0)) o.1 own o.4 (length-tag (suc w) (pos o.0)) in
      let fits : (suc w ≤ 8) × (o.0 < 256 ^ suc w) = elim c [ inl h ↦ (let z = h.0 in absurd (omega (arith, z))) | inr h ↦ (h.0, (let a = h.1 in let b = o.3 in omega (arith, a, b))) ] in
      let long : suc w ≤ length own = (let a = ap (λ b. length b) o.4 in let b = length-append (tag (suc w) (pos o.0)) o.1 in let d = length-tag (suc w) (pos o.0) in omega (arith, a, b, d)) in
      (o.0, go found v long fits.0 (ap (λ b. number_of b) f.0 ∙ value_low (suc w) o.0 fits.1), o.2, o.3, o.4 ∙ ap (λ b. tag (suc w) (pos o.0) ++ b) (sym f.1), subst (λ b. OpensElements (packed_size (C e)) e o.0 b parts) (sym f.1) o.5)
    where
      go : (found : Option ℕ) → IsCountOf (sequence (suc w) lo hi e) own found → suc w ≤ length own → suc w ≤ 8 → number_of (take (suc w) own) ≡ o.0 → found ≡ Some o.0
      go None v long fits k = absurd (v long fits)
      go (Some n) v long fits k = ap (λ i. Some i) (v.0 ∙ k)
