-- What an opened definition takes.
use Rattle.std.proofs.Common.{◌≡◌, ℕ, suc, zero, ◌+◌, ◌-◌, ◌*◌, ◌<◌, ◌≤◌, ◌^◌, List, [], ◌∷◌, ◌++◌, length, take, drop, replicate, Some, refl, sym, ◌∙◌, ap, subst, arith, append_assoc, length-append, length-drop, append-nil, take-add, ◌⊎◌, inl, inr}
use Rattle.std.specs.Prelude.{Option, None, All, ℤ, pos, slice_get}
use Rattle.borsh_walks.specs.Container.{Shape, primitive, sequence, product, choice, IsIn, first, later, IsListedVariant, little_endian, tag, variant_names, references, Member, of_primitive, of_sequence, of_parts, of_choice, Members, IsZeroSize, zeroed}
use Rattle.borsh_values.specs.declared.frames.Opened.TheVariants.{Undecided, Refused, Taken}
use Rattle.borsh_values.specs.declared.{tags.Found.TheVariants.Nothing, tags.Found.TheVariants.One, frames.Rest.TheVariants.Copies, frames.Rest.TheVariants.Parts, frames.Opened.Opened, faults.Reason.TheVariants.TooShort, faults.Reason.TheVariants.Count, faults.Reason.TheVariants.Tag}
use Rattle.borsh_plan.specs.Names.{name_at, shape_at, parts_in, IsPlaceOf}
use Rattle.borsh_plan.specs.declared.named.Named.{Named}
use Rattle.std.proofs.Math.Nat.{suc-mul}
use Rattle.std.proofs.lemmas.List.Elements.{All-take, All-drop}
use Rattle.borsh_walks.proofs.Names.{among_one}
use Rattle.borsh_walks.proofs.Laws.{length-tag, tag-zero, among-replicate, variant-listed}
use Rattle.borsh_values.specs.Unambiguous.{DistinctTags}
use Rattle.borsh_values.specs.Nodes.{packed_size, OpensElements, Opens}
use Rattle.borsh_values.specs.Membership.{BeginsWith, Refuses, few_for_elements, few_for_primitive, other_count, other_tag}
use Rattle.borsh_values.specs.Cursor.{remaining, required_by, OnlyEmpty, AllOnlyEmpty, OpensOnce, HasOneTag, NoneBegins, Takes, TakesElements, OpensAs}
use Rattle.borsh_values.specs.Tags.{FoundAs}
use Rattle.borsh_values.proofs.TagLaws.{listed_at, only_name}
use Rattle.borsh_values.proofs.MemberLaws.{packed_is, copies_are, same_front, one_count, member_as, only_empty_members, opens_once, once_variant}

take_drop : (n : ℕ) (xs : List ℕ) → take n xs ++ drop n xs ≡ xs
take_drop zero xs = refl
take_drop (suc n) [] = refl
take_drop (suc n) (x ∷ xs) = ap (λ l. x ∷ l) (take_drop n xs)

length_take : (n : ℕ) (xs : List ℕ) → n ≤ length xs → length (take n xs) ≡ n
length_take zero xs h = refl
length_take (suc n) [] h = absurd (omega arith)
length_take (suc n) (x ∷ xs) h = ap suc (length_take n xs (omega arith))

pub take_front : (w : ℕ) (xs ys : List ℕ) → w ≤ length xs → take w (xs ++ ys) ≡ take w xs
take_front zero xs ys h = refl
take_front (suc w) [] ys h = absurd (omega arith)
take_front (suc w) (x ∷ xs) ys h = ap (λ l. x ∷ l) (take_front w xs ys (omega arith))

-- too few bytes may have more behind them
pub too_short : (C : List ℕ → Option Shape) {x bytes : List ℕ} → (BeginsWith C x bytes → ⊥) → NoneBegins C TooShort x bytes
too_short C {x} {bytes} none more f m = none (subst (λ b. BeginsWith C x b) (ap (λ l. bytes ++ l) (f refl) ∙ append-nil bytes) m)

module _ (C : List ℕ → Option Shape) where
  -- zero sizes
  all_zero : (ps : List (List ℕ)) → AllOnlyEmpty C ps → (p : List ℕ) → IsIn p ps → IsZeroSize C p
  all_zero ps h p a = (h p a).1

  sequence_zero : {x : List ℕ} (w lo hi k : ℕ) (e : List ℕ) → w ≡ 0 → hi < lo + 256 ^ w → lo ≤ k → k ≤ hi → C x ≡ Some (sequence w lo hi e) → AllOnlyEmpty C (replicate k e) → IsZeroSize C x
  sequence_zero zero zero zero k e z u low high c h = zeroed (sequence zero zero zero e) [] c refl (λ p a. elim a [ ])
  sequence_zero zero zero (suc hi) k e z u low high c h = absurd (omega arith)
  sequence_zero zero (suc lo) hi zero e z u low high c h = absurd (omega arith)
  sequence_zero zero (suc lo) hi (suc k) e z u low high c h = zeroed (sequence zero (suc lo) hi e) (e ∷ []) c refl (λ p a. subst (λ y. IsZeroSize C y) (sym (among_one a)) (h e first).1)
  sequence_zero (suc w) lo hi k e z u low high c h = absurd (omega arith)

  choice_zero : {x : List ℕ} (w : ℕ) (k : ℤ) (p : List ℕ) (vs : List (ℤ × List ℕ)) → w ≡ 0 → vs ≡ (k, p) ∷ [] → C x ≡ Some (choice w vs) → IsZeroSize C p → IsZeroSize C x
  choice_zero zero k p vs z e c h = zeroed (choice zero ((k, p) ∷ [])) (p ∷ []) (c ∙ ap (λ l. Some (choice zero l)) e) refl (λ q a. subst (λ y. IsZeroSize C y) (sym (among_one a)) h)
  choice_zero (suc w) k p vs z e c h = absurd (omega arith)

  parts_only_empty : {x : List ℕ} {qs : List (List ℕ)} → C x ≡ Some (product qs) → AllOnlyEmpty C qs → OnlyEmpty C x
  parts_only_empty {qs = qs} c a = (of_parts c (only_empty_members C a), zeroed (product qs) qs c refl (all_zero qs a))

  primitive_only_empty : {x : List ℕ} {n : ℕ} → n ≡ 0 → All (λ b. b < 256) [] → C x ≡ Some (primitive n) → OnlyEmpty C x
  primitive_only_empty {n = n} z small c = (of_primitive (c ∙ ap (λ k. Some (primitive k)) z) small, zeroed (primitive 0) [] (c ∙ ap (λ k. Some (primitive k)) z) refl (λ p a. elim a [ ]))

pub takes_parts : (C : List ℕ → Option Shape) (qs : List (List ℕ)) (bytes : List ℕ) → Takes C (product qs) bytes 0 qs
takes_parts C qs bytes = record {
  within = omega arith;
  only_empty = λ _ x c a. parts_only_empty C c a;
  opens = (refl, refl);
  once = opens_once C (product qs) [] qs tt (refl, refl);
  alone = tt;
  mentioned = λ p a. a;
  needs = λ _ p a. a;
}

pub takes_primitive : (C : List ℕ → Option Shape) (n : ℕ) (bytes : List ℕ) → n ≤ length bytes → All (λ b. b < 256) (take n bytes) → All (λ b. b < 256) [] → Takes C (primitive n) bytes n []
takes_primitive C n bytes low small none = record {
  within = low;
  only_empty = λ z x c a. primitive_only_empty C z none c;
  opens = (length_take n bytes low, small, refl);
  once = opens_once C (primitive n) (take n bytes) [] tt (length_take n bytes low, small, refl);
  alone = tt;
  mentioned = λ p a. elim a [ ];
  needs = λ _ p a. elim a [ ];
}

-- bytes whose front is the tag k are the tag j and more: the tags are the same, and what follows
same_tag : (w : ℕ) (k j : ℤ) (bytes cs ys : List ℕ) → tag w k ≡ take w bytes → bytes ≡ (tag w j ++ cs) ++ ys → (tag w k ≡ tag w j) × (drop w bytes ≡ cs ++ ys)
same_tag w k j bytes cs ys t e = same_front (tag w k) (tag w j) (drop w bytes) (cs ++ ys) (ap (λ l. l ++ drop w bytes) t ∙ take_drop w bytes ∙ e ∙ append_assoc (tag w j) cs ys) (length-tag w k ∙ sym (length-tag w j))

module _ (C : List ℕ → Option Shape) where
  -- sequences
  module _ (w lo hi k : ℕ) (e : List ℕ) (unambiguous : hi < lo + 256 ^ w) (low : lo ≤ k) (high : k ≤ hi) where
    sequence_only_empty : {x : List ℕ} → w ≡ 0 → C x ≡ Some (sequence w lo hi e) → AllOnlyEmpty C (replicate k e) → OnlyEmpty C x
    sequence_only_empty {x} z c a = (
      subst (λ l. Member C x l) (ap (λ i. tag i (pos k) ++ []) z ∙ ap (λ l. l ++ []) (tag-zero (pos k))) (of_sequence k c low high (only_empty_members C a)),
      sequence_zero C w lo hi k e z unambiguous low high c a,
    )

  -- enums
  module _ (w : ℕ) (k : ℤ) (p : List ℕ) (vs : List (ℤ × List ℕ)) (listed : IsListedVariant k p vs) (one : (j : ℤ) (q : List ℕ) → IsListedVariant j q vs → tag w j ≡ tag w k → q ≡ p) where
    choice_only_empty : {x : List ℕ} → (w ≡ 0 → vs ≡ (k, p) ∷ []) → w ≡ 0 → C x ≡ Some (choice w vs) → OnlyEmpty C p → OnlyEmpty C x
    choice_only_empty {x} single z c h = (
      subst (λ l. Member C x l) (ap (λ i. tag i k ++ []) z ∙ ap (λ l. l ++ []) (tag-zero k)) (of_choice c listed h.0),
      choice_zero C w k p vs z (single z) c h.1,
    )

  short_primitive : {x : List ℕ} {n : ℕ} {bytes : List ℕ} → length bytes < n → C x ≡ Some (primitive n) → BeginsWith C x bytes → ⊥
  short_primitive {n = n} h c m =
      let b = member_as C (primitive n) c m.2 in
      let l = ap (λ l. length l) m.3 in
      let z = b.0 in
      absurd (omega (arith, h, l, z, length-append m.0 m.1))

  pub short_sequence : {x : List ℕ} {w lo hi : ℕ} {e : List ℕ} {bytes : List ℕ} → length bytes < w → C x ≡ Some (sequence w lo hi e) → BeginsWith C x bytes → ⊥
  short_sequence {w = w} {lo = lo} {hi = hi} {e = e} h c m =
      let b = member_as C (sequence w lo hi e) c m.2 in
      let l = ap (λ l. length l) (m.3 ∙ ap (λ l. l ++ m.1) b.5) in
      let t = length-tag w (pos b.0) in
      let n : length ((tag w (pos b.0) ++ b.1) ++ m.1) ≡ w + length b.1 + length m.1 = simp (length-append, length-tag) in
      absurd (omega (arith, l, n))

  pub short_choice : {x : List ℕ} {w : ℕ} {vs : List (ℤ × List ℕ)} {bytes : List ℕ} → length bytes < w → C x ≡ Some (choice w vs) → BeginsWith C x bytes → ⊥
  short_choice {w = w} {vs = vs} h c m =
      let b = member_as C (choice w vs) c m.2 in
      let l = ap (λ l. length l) (m.3 ∙ ap (λ l. l ++ m.1) b.5) in
      let n : length ((tag w b.0 ++ b.2) ++ m.1) ≡ w + length b.2 + length m.1 = simp (length-append, length-tag) in
      absurd (omega (arith, l, n))

  -- the number that is tag_byte is not a count
  pub no_count : {x : List ℕ} {w lo hi : ℕ} {e : List ℕ} {bytes : List ℕ} (n : ℕ) → hi < 256 ^ w → n < 256 ^ w → tag w (pos n) ≡ take w bytes → (n < lo) ⊎ (hi < n) → C x ≡ Some (sequence w lo hi e) → BeginsWith C x bytes → ⊥
  no_count {w = w} {lo = lo} {hi = hi} {e = e} {bytes = bytes} n high small t off c m =
      let b = member_as C (sequence w lo hi e) c m.2 in
      let q = same_tag w (pos n) (pos b.0) bytes b.1 m.1 t (m.3 ∙ ap (λ l. l ++ m.1) b.5) in
      let o : n ≡ b.0 = one_count w 0 (256 ^ w - 1) n b.0 (omega arith) (omega arith) (omega arith) (omega arith) (omega (arith, b.3)) q.0 in
      elim off [ inl h ↦ omega (arith, o, h, b.2) | inr h ↦ omega (arith, o, h, b.3) ]

  pub no_variant : {x : List ℕ} {w : ℕ} {vs : List (ℤ × List ℕ)} {bytes : List ℕ} → w ≤ length bytes → ((j : ℤ) (q : List ℕ) → IsListedVariant j q vs → tag w j ≡ take w bytes → ⊥) → C x ≡ Some (choice w vs) → BeginsWith C x bytes → ⊥
  no_variant {w = w} {vs = vs} {bytes = bytes} low off c m =
      let b = member_as C (choice w vs) c m.2 in
      let e : take w bytes ++ drop w bytes ≡ tag w b.0 ++ (b.2 ++ m.1) = take_drop w bytes ∙ m.3 ∙ ap (λ l. l ++ m.1) b.5 ∙ append_assoc (tag w b.0) b.2 m.1 in
      let q = same_front (take w bytes) (tag w b.0) (drop w bytes) (b.2 ++ m.1) e (length_take w bytes low ∙ sym (length-tag w b.0)) in
      off b.0 b.1 b.3 (sym q.0)

sequence_needs : (w lo hi k : ℕ) (e : List ℕ) → hi < lo + 256 ^ w → lo ≤ k → k ≤ hi → w ≡ 0 → (p : List ℕ) → IsIn p (replicate k e) → IsIn p (required_by (sequence w lo hi e))
sequence_needs zero zero hi k e unambiguous low high z p a = let n : k ≡ 0 = omega arith in elim (subst (λ i. IsIn p (replicate i e)) n a) [ ]
sequence_needs zero (suc lo) hi k e unambiguous low high z p a = subst (λ y. IsIn p (y ∷ [])) (sym (among-replicate k a)) first
sequence_needs (suc w) lo hi k e unambiguous low high z p a = absurd (omega arith)

pub takes_sequence : (C : List ℕ → Option Shape) (w lo hi k : ℕ) (e bytes : List ℕ) → packed_size (C e) ≡ 0 → hi < lo + 256 ^ w → lo ≤ k → k ≤ hi → w ≤ length bytes → tag w (pos k) ≡ take w bytes → Takes C (sequence w lo hi e) bytes w (replicate k e)
takes_sequence C w lo hi k e bytes packed unambiguous low high within t =
    let opened : Opens C (sequence w lo hi e) (take w bytes) (replicate k e) = (k, [], low, high, sym t ∙ sym (append-nil (tag w (pos k))), subst (λ i. OpensElements i e k [] (replicate k e)) (sym packed) (refl, refl)) in record {
      within = within;
      only_empty = λ z x c a. sequence_only_empty C w lo hi k e unambiguous low high z c a;
      opens = opened;
      once = opens_once C (sequence w lo hi e) (take w bytes) (replicate k e) unambiguous opened;
      alone = tt;
      mentioned = λ p a. subst (λ y. IsIn p (y ∷ [])) (sym (among-replicate k a)) first;
      needs = sequence_needs w lo hi k e unambiguous low high;
    }

no_copies : (w k n : ℕ) → w + k * suc n ≡ 0 → k ≡ 0
no_copies w zero n z = refl
no_copies w (suc k) n z = let p = suc-mul k (suc n) in absurd (omega (arith, z, p))

-- sequences whose elements are listed with them
module _ (C : List ℕ → Option Shape) (w lo hi k n : ℕ) (e : List ℕ) (packed : packed_size (C e) ≡ suc n) (unambiguous : hi < lo + 256 ^ w) (low : lo ≤ k) (high : k ≤ hi) where
  module _ (bytes : List ℕ) (within : w + k * suc n ≤ length bytes) (small : All (λ b. b < 256) bytes) (t : tag w (pos k) ≡ take w bytes) where
    fits : k * suc n ≤ length (drop w bytes)
    fits = let d = length-drop w bytes in omega (arith, within, d)

    elements_small : All (λ b. b < 256) (take (k * suc n) (drop w bytes))
    elements_small = All-take (λ b. b < 256) (k * suc n) (drop w bytes) (All-drop (λ b. b < 256) w bytes small)

    packed_only_empty : {x : List ℕ} → w + k * suc n ≡ 0 → C x ≡ Some (sequence w lo hi e) → OnlyEmpty C x
    packed_only_empty {x} z c = sequence_only_empty C w lo hi k e unambiguous low high (omega (arith, z)) c (subst (λ i. AllOnlyEmpty C (replicate i e)) (sym (no_copies w k n z)) (λ p a. elim a [ ]))

    packed_opened : Opens C (sequence w lo hi e) (take (w + k * suc n) bytes) []
    packed_opened = (
      k,
      take (k * suc n) (drop w bytes),
      low,
      high,
      take-add w (k * suc n) bytes ∙ ap (λ l. l ++ take (k * suc n) (drop w bytes)) (sym t),
      subst (λ i. OpensElements i e k (take (k * suc n) (drop w bytes)) []) (sym packed) (length_take (k * suc n) (drop w bytes) fits, elements_small, refl),
    )

    takes_packed : Takes C (sequence w lo hi e) bytes (w + k * suc n) []
    takes_packed = record {
      within = within;
      only_empty = λ z x c a. packed_only_empty z c;
      opens = packed_opened;
      once = opens_once C (sequence w lo hi e) (take (w + k * suc n) bytes) [] unambiguous packed_opened;
      alone = tt;
      mentioned = λ p a. elim a [ ];
      needs = λ _ p a. elim a [ ];
    }

  no_packed : {x : List ℕ} {bytes : List ℕ} → length bytes < w + k * suc n → tag w (pos k) ≡ take w bytes → C x ≡ Some (sequence w lo hi e) → BeginsWith C x bytes → ⊥
  no_packed {x} {bytes} short t c m =
      let b = member_as C (sequence w lo hi e) c m.2 in
      let q = same_tag w (pos k) (pos b.0) bytes b.1 m.1 t (m.3 ∙ ap (λ l. l ++ m.1) b.5) in
      let o : k ≡ b.0 = one_count w lo hi k b.0 unambiguous low high b.2 b.3 q.0 in
      let l = (copies_are C n k b.1 (packed_is n (C e) packed) (subst (λ i. Members C (replicate i e) b.1) (sym o) b.4)).0 in
      let a = ap (λ l. length l) (m.3 ∙ ap (λ l. l ++ m.1) b.5) in
      let s : length ((tag w (pos b.0) ++ b.1) ++ m.1) ≡ w + length b.1 + length m.1 = simp (length-append, length-tag) in
      absurd (omega (arith, a, s, l, short))

-- what was taken of k elements
elements_opened : (C : List ℕ → Option Shape) (ns : List Named) (w lo hi k at : ℕ) (bytes : List ℕ) → hi < lo + 256 ^ w → lo ≤ k → k ≤ hi → w ≤ length bytes → tag w (pos k) ≡ take w bytes → All (λ b. b < 256) bytes → (m : ℕ) → packed_size (C (name_at ns at)) ≡ m → (a : Opened) → TakesElements ns m at k w (length bytes) a → OpensAs C ns (sequence w lo hi (name_at ns at)) bytes a
elements_opened C ns w lo hi k at bytes u low high within t small zero p Undecided h = absurd h
elements_opened C ns w lo hi k at bytes u low high within t small (suc n) p Undecided h = absurd h
elements_opened C ns w lo hi k at bytes u low high within t small zero p (Refused r) h = let f = h.1 in absurd (omega (arith, f, within))
elements_opened C ns w lo hi k at bytes u low high within t small (suc n) p (Refused r) h = (
  (λ x c. subst (λ i. NoneBegins C i x bytes) (sym h.0) (too_short C (λ m. no_packed C w lo hi k n (name_at ns at) p u low high h.1 t c m))),
  subst (λ i. Refuses C i (sequence w lo hi (name_at ns at)) bytes) (sym h.0) (few_for_elements k t low high (subst (λ i. length bytes < w + k * i) (sym p) h.1)),
)
elements_opened C ns w lo hi k at bytes u low high within t small zero p (Taken n r) h =
    let e = name_at ns at in
    let a = takes_sequence C w lo hi k e bytes p u low high within t in
    (subst (λ i. Takes C (sequence w lo hi e) bytes i (remaining ns r)) (sym h.0) (subst (λ qs. Takes C (sequence w lo hi e) bytes w qs) (sym h.1) a), h.2, h.3)
elements_opened C ns w lo hi k at bytes u low high within t small (suc i) p (Taken n r) h =
    let e = name_at ns at in
    let f : w + k * suc i ≤ length bytes = (let a = h.0 in let b = h.1 in omega (arith, a, b)) in
    let a = takes_packed C w lo hi k i e p u low high bytes f small t in
    (subst (λ i. Takes C (sequence w lo hi e) bytes i (remaining ns r)) (sym h.0) (subst (λ qs. Takes C (sequence w lo hi e) bytes (w + k * suc i) qs) (sym h.2) a), h.3, h.4)

pub opened_at : (C : List ℕ → Option Shape) (ns : List Named) (w lo hi k size at : ℕ) (bytes : List ℕ) → size ≡ w → hi < lo + 256 ^ w → lo ≤ k → k ≤ hi → w ≤ length bytes → tag w (pos k) ≡ take w bytes → All (λ b. b < 256) bytes → (a : Opened) → TakesElements ns (packed_size (C (name_at ns at))) at k size (length bytes) a → OpensAs C ns (sequence w lo hi (name_at ns at)) bytes a
opened_at C ns w lo hi k size at bytes z u low high within t small a h = elements_opened C ns w lo hi k at bytes u low high within t small (packed_size (C (name_at ns at))) refl a (subst (λ i. TakesElements ns (packed_size (C (name_at ns at))) at k i (length bytes) a) z h)

in_variants : {k : ℤ} {p q : List ℕ} {vs : List (ℤ × List ℕ)} → IsListedVariant k p vs → IsIn q (p ∷ []) → IsIn q (variant_names vs)
in_variants listed first = variant-listed listed
in_variants listed (later a) = elim a [ ]

pub takes_choice : (C : List ℕ → Option Shape) (w : ℕ) (k : ℤ) (p bytes : List ℕ) (vs : List (ℤ × List ℕ)) → IsListedVariant k p vs → ((j : ℤ) (q : List ℕ) → IsListedVariant j q vs → tag w j ≡ tag w k → q ≡ p) → (w ≡ 0 → (q : List ℕ) → IsIn q (p ∷ []) → IsIn q (required_by (choice w vs))) → (w ≡ 0 → vs ≡ (k, p) ∷ []) → w ≤ length bytes → tag w k ≡ take w bytes → HasOneTag (choice w vs) (take w bytes) → Takes C (choice w vs) bytes w (p ∷ [])
takes_choice C w k p bytes vs listed one needs single within t alone = record {
  within = within;
  only_empty = λ z x c a. choice_only_empty C w k p vs listed one single z c (a p first);
  opens = (k, p, listed, sym t, refl);
  once = subst (λ b. OpensOnce C (choice w vs) b (p ∷ [])) t (once_variant C w vs k p one);
  alone = alone;
  mentioned = λ q a. in_variants listed a;
  needs = needs;
}

no_width : (w k : ℕ) (bytes : List ℕ) → w ≡ 0 → tag w (pos k) ≡ take w bytes
no_width zero k bytes z = refl
no_width (suc w) k bytes z = absurd (omega arith)

one_of_none : (w lo hi : ℕ) → w ≡ 0 → lo ≡ hi → hi < lo + 256 ^ w
one_of_none zero lo hi z h = omega (arith, h)
one_of_none (suc w) lo hi z h = absurd (omega arith)

-- a sequence of one length, which isn't encoded
pub array_opened : (C : List ℕ → Option Shape) (ns : List Named) (w lo hi at : ℕ) (bytes : List ℕ) → w ≡ 0 → lo ≡ hi → All (λ b. b < 256) bytes → (a : Opened) → TakesElements ns (packed_size (C (name_at ns at))) at lo 0 (length bytes) a → OpensAs C ns (sequence w lo hi (name_at ns at)) bytes a
array_opened C ns w lo hi at bytes z h small a t = opened_at C ns w lo hi lo 0 at bytes (sym z) (one_of_none w lo hi z h) (omega arith) (omega (arith, h)) (omega (arith, z)) (no_width w lo bytes z) small a t

written_at : (w size k : ℕ) (bytes : List ℕ) → size ≡ w → size ≤ length bytes → little_endian (length (take size bytes)) k ≡ take size bytes → tag w (pos k) ≡ take w bytes
written_at w size k bytes z within t = ap (λ i. little_endian i k) (sym z) ∙ ap (λ i. little_endian i k) (sym (length_take size bytes within)) ∙ t ∙ ap (λ i. take i bytes) z

-- a sequence whose count was read
pub list_opened : (C : List ℕ → Option Shape) (ns : List Named) (w lo hi k size at : ℕ) (bytes : List ℕ) → hi < 256 ^ w → size ≡ w → lo ≤ k → k ≤ hi → size ≤ length bytes → little_endian (length (take size bytes)) k ≡ take size bytes → All (λ b. b < 256) bytes → (a : Opened) → TakesElements ns (packed_size (C (name_at ns at))) at k size (length bytes) a → OpensAs C ns (sequence w lo hi (name_at ns at)) bytes a
list_opened C ns w lo hi k size at bytes fits z low high within t small a h = opened_at C ns w lo hi k size at bytes z (omega arith) low high (omega (arith, z)) (written_at w size k bytes z within t) small a h

pub small_at : (w size k : ℕ) (bytes : List ℕ) → size ≡ w → size ≤ length bytes → k < 256 ^ length (take size bytes) → k < 256 ^ w
small_at w size k bytes z within h = subst (λ i. k < 256 ^ i) (length_take size bytes within ∙ z) h

pub count_off : (w lo hi k size : ℕ) (e bytes : List ℕ) → hi < 256 ^ w → size ≡ w → size ≤ length bytes → little_endian (length (take size bytes)) k ≡ take size bytes → k < 256 ^ length (take size bytes) → (k < lo) ⊎ (hi < k) → (C : List ℕ → Option Shape) (x : List ℕ) → C x ≡ Some (sequence w lo hi e) → (more : List ℕ) → BeginsWith C x (bytes ++ more) → ⊥
count_off w lo hi k size e bytes fits z within t small off C x c more m = no_count C k fits (small_at w size k bytes z within small) (written_at w size k bytes z within t ∙ sym (take_front w bytes more (omega (arith, z, within)))) off c m

pub count_refused : (C : List ℕ → Option Shape) (w lo hi n size : ℕ) (e bytes : List ℕ) → hi < 256 ^ w → size ≡ w → size ≤ length bytes → little_endian (length (take size bytes)) n ≡ take size bytes → n < 256 ^ length (take size bytes) → (n < lo) ⊎ (hi < n) → Refuses C Count (sequence w lo hi e) bytes
count_refused C w lo hi n size e bytes fits z within t small off = other_count (omega (arith, z, within)) λ k low high h.
    let s = small_at w size n bytes z within small in
    let o : n ≡ k = one_count w 0 (256 ^ w - 1) n k (omega arith) (omega arith) (omega (arith, s)) (omega arith) (omega (arith, high, fits)) (written_at w size n bytes z within t ∙ sym h) in
    elim off [ inl a ↦ omega (arith, o, a, low) | inr a ↦ omega (arith, o, a, high) ]

single_needs : (w : ℕ) (k : ℤ) (p : List ℕ) (vs : List (ℤ × List ℕ)) → vs ≡ (k, p) ∷ [] → w ≡ 0 → (q : List ℕ) → IsIn q (p ∷ []) → IsIn q (required_by (choice w vs))
single_needs zero k p vs e z q a = subst (λ l. IsIn q (required_by (choice zero l))) (sym e) a
single_needs (suc w) k p vs e z q a = absurd (omega arith)

no_front : (w : ℕ) (bytes : List ℕ) → w ≡ 0 → take w bytes ≡ []
no_front zero bytes z = refl
no_front (suc w) bytes z = absurd (omega arith)

names_at : (vs : List (ℤ × List ℕ)) (i : ℕ) (k : ℤ) (q : List ℕ) → slice_get vs i ≡ Some (k, q) → slice_get (variant_names vs) i ≡ Some q
names_at [] i k q e = cc
names_at (v ∷ vs) zero k q e = let h : v ≡ (k, q) = cc in ap (λ v. Some v.1) h
names_at (v ∷ vs) (suc i) k q e = names_at vs i k q e

pub found_there : (vs : List (ℤ × List ℕ)) (t : List ℕ) (i : ℕ) → FoundAs vs t (One i) → slice_get (variant_names vs) i ≡ None → ⊥
found_there vs t i f none = let n = names_at vs i f.0 f.1 f.2 in cc

-- a variant that is found by no byte is the only one
single : (vs : List (ℤ × List ℕ)) (t : List ℕ) (i : ℕ) (f : FoundAs vs t (One i)) → t ≡ [] → vs ≡ (f.0, f.1) ∷ []
single vs t i f z = go vs i f.2 (λ m j q e. f.4 m j q e (ap (λ b. tag (length b) j) z ∙ tag-zero j ∙ sym z))
  where
    go : {k : ℤ} {p : List ℕ} (vs : List (ℤ × List ℕ)) (i : ℕ) → slice_get vs i ≡ Some (k, p) → ((m : ℕ) (j : ℤ) (q : List ℕ) → slice_get vs m ≡ Some (j, q) → m ≡ i) → vs ≡ (k, p) ∷ []
    go [] i e f = cc
    go {k} {p} (v ∷ []) zero e f = let h : v ≡ (k, p) = cc in ap (λ v. v ∷ []) h
    go (v ∷ []) (suc i) e f = cc
    go (v ∷ u ∷ vs) i e f = let a = f 0 v.0 v.1 refl in let b = f 1 u.0 u.1 refl in absurd (omega (arith, a, b))

-- the only variant with a tag
abbrev OneVariant : List (ℤ × List ℕ) → List ℕ → ℤ → List ℕ → Type 0
OneVariant vs t k p = IsListedVariant k p vs × (tag (length t) k ≡ t) × ((j : ℤ) (q : List ℕ) → IsListedVariant j q vs → tag (length t) j ≡ t → q ≡ p) × (t ≡ [] → vs ≡ (k, p) ∷ [])

-- what was found by the front of the bytes
pub found_choice : (C : List ℕ → Option Shape) (w size i : ℕ) (p bytes : List ℕ) (vs : List (ℤ × List ℕ)) → size ≡ w → size ≤ length bytes → FoundAs vs (take size bytes) (One i) → slice_get (variant_names vs) i ≡ Some p → Takes C (choice w vs) bytes size (p ∷ [])
found_choice C w size i p bytes vs z within g at =
    let same : g.1 ≡ p = (let n = names_at vs i g.0 g.1 g.2 in cc) in
    let f : OneVariant vs (take size bytes) g.0 p = subst (λ q. OneVariant vs (take size bytes) g.0 q) same (listed_at vs i g.0 g.1 g.2, g.3, only_name vs (take size bytes) i g, single vs (take size bytes) i g) in
    let k0 = g.0 in
    let l : length (take size bytes) ≡ w = length_take size bytes within ∙ z in
    let t : take size bytes ≡ take w bytes = ap (λ i. take i bytes) z in
    let k : tag w k0 ≡ take w bytes = ap (λ i. tag i k0) (sym l) ∙ f.1 ∙ t in
    subst (λ i. Takes C (choice w vs) bytes i (p ∷ [])) (sym z) (takes_choice C w k0 p bytes vs f.0
    (λ j q a b. f.2 j q a (ap (λ i. tag i j) l ∙ b ∙ k ∙ sym t))
    (λ zero_is q a. single_needs w k0 p vs (f.3 (t ∙ no_front w bytes zero_is)) zero_is q a)
    (λ zero_is. f.3 (t ∙ no_front w bytes zero_is))
    (omega arith) k
    (λ m n j k p q a b c d. g.4 m j p a (ap (λ i. tag i j) l ∙ c ∙ sym t) ∙ sym (g.4 n k q b (ap (λ i. tag i k) l ∙ d ∙ sym t))))

pub found_none_choice : (w size : ℕ) (bytes : List ℕ) (vs : List (ℤ × List ℕ)) → size ≡ w → size ≤ length bytes → FoundAs vs (take size bytes) Nothing → (C : List ℕ → Option Shape) (x : List ℕ) → C x ≡ Some (choice w vs) → (more : List ℕ) → BeginsWith C x (bytes ++ more) → ⊥
found_none_choice w size bytes vs z within f C x c more m =
    let l : length (take size bytes) ≡ w = length_take size bytes within ∙ z in
    let t : take size bytes ≡ take w bytes = ap (λ i. take i bytes) z in
    let long = length-append bytes more in
    no_variant C (omega (arith, long, z, within)) (λ j q a b. f j q a (ap (λ i. tag i j) l ∙ b ∙ take_front w bytes more (omega (arith, z, within)) ∙ sym t)) c m

pub tag_refused : (C : List ℕ → Option Shape) (w size : ℕ) (bytes : List ℕ) (vs : List (ℤ × List ℕ)) → size ≡ w → size ≤ length bytes → FoundAs vs (take size bytes) Nothing → Refuses C Tag (choice w vs) bytes
tag_refused C w size bytes vs z within f =
    let l : length (take size bytes) ≡ w = length_take size bytes within ∙ z in
    other_tag (omega (arith, z, within)) (λ k p a b. f k p a (ap (λ i. tag i k) l ∙ b ∙ sym (ap (λ i. take i bytes) z)))

pub several_ambiguous : (w size : ℕ) (bytes : List ℕ) (vs : List (ℤ × List ℕ)) → size ≡ w → size ≤ length bytes → (DistinctTags (length (take size bytes)) vs → ⊥) → DistinctTags w vs → ⊥
several_ambiguous w size bytes vs z within f t = f (subst (λ i. DistinctTags i vs) (sym (length_take size bytes within ∙ z)) t)

-- ---- what is opened at a place
module _ (C : List ℕ → Option Shape) (ns : List Named) (at : ℕ) (low : at < length ns) where
  pub opens_primitive : (n size : ℕ) (s : Shape) (bytes : List ℕ) → s ≡ primitive n → size ≡ n → size ≤ length bytes → All (λ b. b < 256) bytes → OpensAs C ns s bytes (Taken size (Copies at 0))
  opens_primitive n size s bytes e z long small = (
    subst (λ s. Takes C s bytes size []) (sym e) (subst (λ i. Takes C (primitive i) bytes size []) z (takes_primitive C size bytes long (All-take (λ b. b < 256) size bytes small) (λ k d h. absurd (omega arith)))),
    omega arith,
    low,
  )

  pub refuses_primitive : (n size : ℕ) (s : Shape) (bytes : List ℕ) → s ≡ primitive n → size ≡ n → length bytes < size → OpensAs C ns s bytes (Refused TooShort)
  refuses_primitive n size s bytes e z short =
      let few : length bytes < n = omega (arith, z, short) in
      subst (λ s. OpensAs C ns s bytes (Refused TooShort)) (sym e) ((λ x c. too_short C (λ m. short_primitive C few c m)), few_for_primitive {n = n} few)

  pub opens_product : (ps : List (List ℕ)) (s : Shape) (bytes : List ℕ) → s ≡ product ps → shape_at ns at ≡ Some s → OpensAs C ns s bytes (Taken 0 (Parts at 0))
  opens_product ps s bytes e h =
      let q : shape_at ns at ≡ Some (product ps) = h ∙ ap (λ s. Some s) e in
      let t : Takes C (product ps) bytes 0 (parts_in (shape_at ns at)) = subst (λ o. Takes C (product ps) bytes 0 (parts_in o)) (sym q) (takes_parts C ps bytes) in
      let l : length (parts_in (shape_at ns at)) ≡ length (references s) = ap (λ o. length (parts_in o)) h in
      (subst (λ s. Takes C s bytes 0 (parts_in (shape_at ns at))) (sym e) t, omega (arith, l), low)

  pub opens_sequence : (w lo hi part : ℕ) (el : List ℕ) (s : Shape) (bytes : List ℕ) (o : Opened) → s ≡ sequence w lo hi el → shape_at ns at ≡ Some s → IsPlaceOf ns at 0 (Some part) → OpensAs C ns (sequence w lo hi (name_at ns part)) bytes o → OpensAs C ns s bytes o
  opens_sequence w lo hi part el s bytes o e h p k =
      let a : Some el ≡ Some (name_at ns part) = ap (λ s. slice_get (parts_in s) 0) (ap (λ s. Some s) (sym e) ∙ sym h) ∙ p.1 in
      let n : el ≡ name_at ns part = cc in
      subst (λ d. OpensAs C ns d bytes o) (sym e) (subst (λ x. OpensAs C ns (sequence w lo hi x) bytes o) (sym n) k)

  pub no_element : (w lo hi : ℕ) (el : List ℕ) (s : Shape) → s ≡ sequence w lo hi el → shape_at ns at ≡ Some s → IsPlaceOf ns at 0 None → ⊥
  no_element w lo hi el s e h p =
      let a : Some el ≡ None = ap (λ s. slice_get (parts_in s) 0) (ap (λ s. Some s) (sym e) ∙ sym h) ∙ p in
      cc
