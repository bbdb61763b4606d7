-- Values that are read part by part; and two of them, which compare as they do where other bytes follow, if the first is read in one way only.
use Rattle.std.proofs.{Common.{◌≡◌, ◌⊎◌, inl, inr, ℕ, suc, zero, ◌<◌, ◌≤◌, ◌^◌, List, [], ◌∷◌, ◌++◌, length, map, replicate, Bool, true, false, Option, Some, None, refl, sym, ◌∙◌, ap, subst, arith, append_assoc, append-nil}, lemmas.Slice.Eq.{bytes_eq-Decides}}
use Rattle.std.specs.{Prelude.{⊤, ℤ, pos, codes, if◌then◌else◌}, Str.{bytes_eq}, declared.cmp.Ordering.{Ordering}, declared.cmp.Ordering.TheVariants.{Less, Equal, Greater}}
use Rattle.borsh_walks.specs.Container.{Shape, IsListedVariant, first_variant, later_variant, tag, Members}
use Rattle.borsh_walks.specs.Container as shape
use Rattle.borsh_values.specs.{Nodes.{packed_size, OpensElements, Opens}, Tags.{number_of}, Walks.{IsCounted}}
use Rattle.borsh_values.proofs.{MemberLaws.{copies_of, member_as, members_head, no_more, one_count, same_front}, TagLaws.{value_low}}
use Rattle.borsh_json.specs.{Forms.{Form, primitive, sequence, tuple, choice, named, unnamed, no_fields, shape_of_form, shapes, HasNoBytes, IsList, IsOption}, Only.{AreOnly, none_only, empty_only, opened_only}, Ordered.{Order, single, numbers, text, array, list, parts, other, OrdersBytes, HasOrder, Compared, a_value, a_copy, elements, IsCount, IsNode, IsCopy, variant_of, Fronts, FrontsOf, IsAtLeast, all_equal, first_above, first_equal}}
use Rattle.borsh_json.proofs.{FormKinds.{shaped}, FoundLaws.{full_primitive}, NameLaws.{packed_primitive}, OrderLaws.{moved}, OrderNumbers.{long_tag, one_low}}

-- a value of the definition begins with these own bytes and has these parts; the elements of a list are parts, also primitives
abbrev pub Front : Shape → List ℕ → List (List ℕ) → Type 0
Front s own ps = Opens (λ _. None) s own ps

-- the own bytes tell the parts
abbrev pub Tell : Shape → List ℕ → List (List ℕ) → Type 0
Tell (shape.primitive n) own ps = ⊤
Tell (shape.sequence w lo hi e) own ps = IsCounted (shape.sequence w lo hi e)
Tell (shape.product qs) own ps = ⊤
Tell (shape.choice w vs) own ps = (k : ℤ) (p : List ℕ) → IsListedVariant k p vs → tag w k ≡ own → ps ≡ p ∷ []

-- ---- fronts
counted_one : (w lo hi k j : ℕ) (e : List ℕ) → IsCounted (shape.sequence w lo hi e) → lo ≤ k → k ≤ hi → lo ≤ j → j ≤ hi → tag w (pos j) ≡ tag w (pos k) → j ≡ k
counted_one w lo hi k j e c a b d f q = elim c [
  | inl z ↦ (let r = z.1 in omega (arith, r, a, b, d, f))
  | inr z ↦ (let m = z.1 in one_count w lo hi j k (omega (arith, m)) d f a b q)
]

-- a variant that is found
abbrev IsThere : List ℕ → List (ℤ × List ℕ) → List ℕ → Type 0
IsThere own vs p = (k : ℤ) × IsListedVariant k p vs × (tag (length own) k ≡ own)

variant_next : (own : List ℕ) (v : ℤ × List ℕ) (vs : List (ℤ × List ℕ)) (p : List ℕ) (b : Bool) → bytes_eq (tag (length own) v.0) own ≡ b → (variant_of own vs ≡ Some p → IsThere own vs p) → (if b then Some v.1 else variant_of own vs) ≡ Some p → IsThere own (v ∷ vs) p
variant_next own v vs p true q f e =
    let s : v.1 ≡ p = cc in
    (v.0, subst (λ p. IsListedVariant v.0 p (v ∷ vs)) s first_variant, (bytes_eq-Decides (tag (length own) v.0) own).0 q)
variant_next own v vs p false q f e = let t = f e in (t.0, later_variant t.1, t.2)

variant_there : (own : List ℕ) (vs : List (ℤ × List ℕ)) (p : List ℕ) → variant_of own vs ≡ Some p → IsThere own vs p
variant_there own [] p e = cc
variant_there own (v ∷ vs) p e = variant_next own v vs p (bytes_eq (tag (length own) v.0) own) refl (λ e. variant_there own vs p e) e

-- the count that a node says
count_said : (w lo hi k j : ℕ) (e l : List ℕ) → IsCounted (shape.sequence w lo hi e) → lo ≤ k → k ≤ hi → l ≡ tag w (pos k) → IsCount w lo l j → k ≡ j
count_said zero lo hi k j e l c a b q n = elim c [
  | inl z ↦ (let r = z.1 in omega (arith, r, a, b, n))
  | inr z ↦ (let m = z.1 in let one : 256 ^ 0 ≡ 1 = refl in omega (arith, m, one, a, b, n))
]
count_said (suc w) lo hi k j e l c a b q n = elim c [
  | inl z ↦ (let r = z.0 in omega (arith, r))
  | inr z ↦ (let m = z.1 in sym (value_low (suc w) k (omega (arith, m, b))) ∙ ap (λ l. number_of l) (sym q) ∙ sym n.1)
]

-- own bytes that tell their parts are those of a node
module _ (A B : List ℕ) where
  node_same : (s : Shape) (own l : List ℕ) (ps qs : List (List ℕ)) → Front s own ps → Tell s own ps → IsNode s l qs → own ++ A ≡ l ++ B → (own ≡ l) × (ps ≡ qs)
  node_same (shape.primitive n) own l ps qs f t n0 e = ((same_front own l A B e (f.0 ∙ sym n0.0)).0, f.2 ∙ sym n0.1)
  node_same (shape.sequence w lo hi x) own l ps qs f t n e =
      let is : own ≡ tag w (pos f.0) = f.4 ∙ ap (λ c. tag w (pos f.0) ++ c) f.5.0 ∙ append-nil (tag w (pos f.0)) in
      let same = (same_front own l A B e (ap (λ o. length o) is ∙ long_tag w (pos f.0) ∙ sym n.0)).0 in
      let count = count_said w lo hi f.0 n.1.0 x l t f.2 f.3 (sym same ∙ is) n.1.1 in
      (same, f.5.1 ∙ ap (λ k. replicate k x) count ∙ sym n.1.2)
  node_same (shape.product xs) own l ps qs f t n e = ((same_front own l A B e (ap (λ o. length o) f.0 ∙ sym n.0)).0, f.1 ∙ sym n.1)
  node_same (shape.choice w vs) own l ps qs f t n e =
      let same = (same_front own l A B e (ap (λ o. length o) f.3 ∙ long_tag w f.0 ∙ sym n.0)).0 in
      let v = variant_there l vs n.1.1 n.1.2 in
      (same, t v.0 n.1.1 v.1 (ap (λ w. tag w v.0) (sym n.0) ∙ v.2 ∙ sym same) ∙ sym n.1.3)

  -- and of any other value that begins so
  front_same : (s : Shape) (own its : List ℕ) (ps qs : List (List ℕ)) → Front s own ps → Tell s own ps → Front s its qs → its ++ A ≡ own ++ B → (its ≡ own) × (qs ≡ ps)
  front_same (shape.primitive n) own its ps qs f t g e = ((same_front its own A B e (g.0 ∙ sym f.0)).0, g.2 ∙ sym f.2)
  front_same (shape.sequence w lo hi x) own its ps qs f t g e =
      let is : own ≡ tag w (pos f.0) = f.4 ∙ ap (λ c. tag w (pos f.0) ++ c) f.5.0 ∙ append-nil (tag w (pos f.0)) in
      let other_is : its ≡ tag w (pos g.0) = g.4 ∙ ap (λ c. tag w (pos g.0) ++ c) g.5.0 ∙ append-nil (tag w (pos g.0)) in
      let same = (same_front its own A B e (ap (λ o. length o) other_is ∙ long_tag w (pos g.0) ∙ sym (ap (λ o. length o) is ∙ long_tag w (pos f.0)))).0 in
      let count = counted_one w lo hi f.0 g.0 x t f.2 f.3 g.2 g.3 (sym other_is ∙ same ∙ is) in
      (same, g.5.1 ∙ ap (λ k. replicate k x) count ∙ sym f.5.1)
  front_same (shape.product xs) own its ps qs f t g e = (g.0 ∙ sym f.0, g.1 ∙ sym f.1)
  front_same (shape.choice w vs) own its ps qs f t g e =
      let same = (same_front its own A B e (ap (λ o. length o) g.3 ∙ long_tag w g.0 ∙ sym (ap (λ o. length o) f.3 ∙ long_tag w f.0))).0 in
      (same, g.4 ∙ sym (t g.0 g.1 g.2 (sym g.3 ∙ same)))

module _ (F : List ℕ → Option Form) where
  -- ---- values one after another
  -- the bytes are a value of each name, and are read part by part; if they are read in one way, own bytes tell the parts
  pub data IsRead (once : Bool) : List (List ℕ) → List ℕ → Type 0 where
    nothing_read : IsRead once [] []
    empty_read : {x bs : List ℕ} {xs : List (List ℕ)} → HasNoBytes F x → IsRead once xs bs → IsRead once (x ∷ xs) bs
    node_read : {x bs : List ℕ} {xs : List (List ℕ)} (f : Form) (own : List ℕ) (ps : List (List ℕ)) → (HasNoBytes F x → ⊥) → F x ≡ Some f → Front (shape_of_form f) own ps → (once ≡ true → Tell (shape_of_form f) own ps) → IsRead once (ps ++ xs) bs → IsRead once (x ∷ xs) (own ++ bs)

  -- primitives
  pub copies_read : {once : Bool} {e cs : List ℕ} {xs : List (List ℕ)} (n k : ℕ) {bs : List ℕ} → F e ≡ Some (primitive (suc n)) → Members (shapes F) (replicate k e) bs → IsRead once xs cs → IsRead once (replicate k e ++ xs) (bs ++ cs)
  copies_read {once = once} {cs = cs} {xs = xs} n zero c ms r = subst (λ b. IsRead once xs (b ++ cs)) (sym (no_more ms)) r
  copies_read {once = once} {e = e} {cs = cs} {xs = xs} n (suc k) c ms r =
      let h = members_head (shapes F) ms in
      let a = member_as (shapes F) (shape.primitive (suc n)) (shaped (F e) c) h.2 in
      subst (λ l. IsRead once (e ∷ (replicate k e ++ xs)) l) (sym (ap (λ b. b ++ cs) h.4 ∙ append_assoc h.0 h.1 cs)) (node_read (primitive (suc n)) h.0 [] (full_primitive F c) c (a.0, a.1, refl) (λ t. tt) (copies_read n k c h.3 r))

  -- elements that are listed with their sequence
  elements_read : {once : Bool} {bs : List ℕ} (xs ps : List (List ℕ)) (m k : ℕ) (e cs : List ℕ) → packed_size (shapes F e) ≡ m → OpensElements m e k cs ps → IsRead once (ps ++ xs) bs → IsRead once (replicate k e ++ xs) (cs ++ bs)
  elements_read {once = once} {bs = bs} xs ps zero k e cs p o r = subst (λ cs. IsRead once (replicate k e ++ xs) (cs ++ bs)) (sym o.0) (subst (λ ps. IsRead once (ps ++ xs) bs) o.1 r)
  elements_read {once = once} {bs = bs} xs ps (suc n) k e cs p o r =
      let c = packed_primitive F e (suc n) n (sym p) refl in
      copies_read n k c (copies_of (shapes F) n k cs (shaped (F e) c) o.0 o.1) (subst (λ ps. IsRead once (ps ++ xs) bs) o.2 r)

  -- what is read in one way only
  pub only_read : {xs : List (List ℕ)} {bs : List ℕ} → AreOnly F xs bs → IsRead true xs bs
  only_read none_only = nothing_read
  only_read (empty_only z a) = empty_read z.1 (only_read a)
  only_read (opened_only (primitive n) own ps o a) = node_read (primitive n) own ps o.0 o.1 o.2 (λ t. tt) (only_read a)
  only_read (opened_only {x = x} {bs = bs} {xs = xs} (sequence w lo hi e) own ps (full, c, (k, cs, low, high, is, opens), once, counted, alone) a) =
      subst (λ l. IsRead true (x ∷ xs) l) (sym (ap (λ l. l ++ bs) is ∙ append_assoc (tag w (pos k)) cs bs))
      (node_read (sequence w lo hi e) (tag w (pos k)) (replicate k e) full c (k, [], low, high, sym (append-nil (tag w (pos k))), (refl, refl)) (λ t. counted) (elements_read xs ps (packed_size (shapes F e)) k e cs refl opens (only_read a)))
  only_read (opened_only (tuple xs) own ps o a) = node_read (tuple xs) own ps o.0 o.1 o.2 (λ t. tt) (only_read a)
  only_read (opened_only (named fs) own ps o a) = node_read (named fs) own ps o.0 o.1 o.2 (λ t. tt) (only_read a)
  only_read (opened_only (unnamed xs) own ps o a) = node_read (unnamed xs) own ps o.0 o.1 o.2 (λ t. tt) (only_read a)
  only_read (opened_only no_fields own ps o a) = node_read no_fields own ps o.0 o.1 o.2 (λ t. tt) (only_read a)
  only_read (opened_only (choice w vs) own ps o a) = node_read (choice w vs) own ps o.0 o.1 o.2 (λ t k p l e. sym (o.3 own (p ∷ []) [] [] (k, p, l, sym e, refl) refl).2) (only_read a)

  -- ---- the first of them
  record Taken (once : Bool) (f : Form) (xs : List (List ℕ)) (bs : List ℕ) : Type 0 where
    own : List ℕ
    ps : List (List ℕ)
    rest : List ℕ
    front : Front (shape_of_form f) own ps
    tell : once ≡ true → Tell (shape_of_form f) own ps
    is : bs ≡ own ++ rest
    read : IsRead once (ps ++ xs) rest

  taken : {once : Bool} {x bs : List ℕ} {xs : List (List ℕ)} (f : Form) → (HasNoBytes F x → ⊥) → F x ≡ Some f → IsRead once (x ∷ xs) bs → Taken once f xs bs
  taken f full c (empty_read z r) = absurd (full z)
  taken {once = once} f full c (node_read {bs = bs} g own ps n d o t r) =
      let q : Some g ≡ Some f = sym d ∙ c in
      let e : g ≡ f = cc in
      record { own = own; ps = ps; rest = bs; front = subst (λ (f : Form). Front (shape_of_form f) own ps) e o; tell = λ q. subst (λ (f : Form). Tell (shape_of_form f) own ps) e (t q); is = refl; read = r }

  none_taken : {once : Bool} {x bs : List ℕ} {xs : List (List ℕ)} → HasNoBytes F x → IsRead once (x ∷ xs) bs → IsRead once xs bs
  none_taken z (empty_read y r) = r
  none_taken z (node_read g own ps n d o t r) = absurd (n z)

  -- these bytes are taken of the first, and then these names come next
  abbrev Took : Bool → List ℕ → List (List ℕ) → List ℕ → Type 0
  Took once l xs bs = (rest : List ℕ) × (bs ≡ l ++ rest) × IsRead once xs rest

  module _ {once : Bool} {x : List ℕ} {xs : List (List ℕ)} {bs : List ℕ} (t A l : List ℕ) (full : HasNoBytes F x → ⊥) (r : IsRead once (x ∷ xs) bs) (e : bs ++ t ≡ l ++ A) where
    joins : (own rest : List ℕ) → bs ≡ own ++ rest → own ++ (rest ++ t) ≡ l ++ A
    joins own rest is = sym (append_assoc own rest t) ∙ ap (λ b. b ++ t) (sym is) ∙ e

    took_primitive : (n : ℕ) → F x ≡ Some (primitive n) → length l ≡ n → Took once l xs bs
    took_primitive n c len =
        let k = taken (primitive n) full c r in
        let s = (same_front k.own l (k.rest ++ t) A (joins k.own k.rest k.is) (k.front.0 ∙ sym len)).0 in
        (k.rest, k.is ∙ ap (λ o. o ++ k.rest) s, subst (λ ps. IsRead once (ps ++ xs) k.rest) k.front.2 k.read)

    took_count : (w lo hi : ℕ) (y : List ℕ) → F x ≡ Some (sequence w lo hi y) → length l ≡ w → (k : ℕ) × (l ≡ tag w (pos k)) × (lo ≤ k) × (k ≤ hi) × Took once l (replicate k y ++ xs) bs
    took_count w lo hi y c len =
        let k = taken (sequence w lo hi y) full c r in
        let f = k.front in
        let is : k.own ≡ tag w (pos f.0) = f.4 ∙ ap (λ c. tag w (pos f.0) ++ c) f.5.0 ∙ append-nil (tag w (pos f.0)) in
        let s = (same_front k.own l (k.rest ++ t) A (joins k.own k.rest k.is) (ap (λ o. length o) is ∙ long_tag w (pos f.0) ∙ sym len)).0 in
        (f.0, sym s ∙ is, f.2, f.3, (k.rest, k.is ∙ ap (λ o. o ++ k.rest) s, subst (λ ps. IsRead once (ps ++ xs) k.rest) f.5.1 k.read))

    took_tag : (w : ℕ) (vs : List (ℤ × List ℕ × List ℕ)) → F x ≡ Some (choice w vs) → length l ≡ w → (k : ℤ) × (p : List ℕ) × IsListedVariant k p (map (λ (v : ℤ × List ℕ × List ℕ). (v.0, v.2)) vs) × (l ≡ tag w k) × Took once l (p ∷ xs) bs
    took_tag w vs c len =
        let k = taken (choice w vs) full c r in
        let f = k.front in
        let s = (same_front k.own l (k.rest ++ t) A (joins k.own k.rest k.is) (ap (λ o. length o) f.3 ∙ long_tag w f.0 ∙ sym len)).0 in
        (f.0, f.1, f.2, sym s ∙ f.3, (k.rest, k.is ∙ ap (λ o. o ++ k.rest) s, subst (λ ps. IsRead once (ps ++ xs) k.rest) f.4 k.read))

    took_tuple : (qs : List (List ℕ)) → F x ≡ Some (tuple qs) → IsRead once (qs ++ xs) bs
    took_tuple qs c =
        let k = taken (tuple qs) full c r in
        subst (λ b. IsRead once (qs ++ xs) b) (sym (k.is ∙ ap (λ o. o ++ k.rest) k.front.0)) (subst (λ ps. IsRead once (ps ++ xs) k.rest) k.front.1 k.read)

  -- bytes of a text
  took_bytes : {once : Bool} {y : List ℕ} {xs : List (List ℕ)} (t A s bs : List ℕ) → F y ≡ Some (primitive 1) → IsRead once (replicate (length s) y ++ xs) bs → bs ++ t ≡ s ++ A → Took once s xs bs
  took_bytes t A [] bs c r e = (bs, refl, r)
  took_bytes t A (b ∷ s) bs c r e =
      let k = took_primitive t (s ++ A) (b ∷ []) (full_primitive F c) r e 1 c refl in
      let q : b ∷ (k.0 ++ t) ≡ b ∷ (s ++ A) = sym (ap (λ l. l ++ t) k.1) ∙ e in
      let m = took_bytes t A s k.0 c k.2 (let z : k.0 ++ t ≡ s ++ A = cc in z) in
      (m.0, k.1 ∙ ap (λ l. b ∷ l) m.1, m.2)

  -- ---- what is compared
  abbrev left_of : Compared → List (List ℕ)
  left_of (a_value x) = x ∷ []
  left_of (a_copy x) = x ∷ []
  left_of (elements e n m) = replicate n e

  abbrev right_of : Compared → List (List ℕ)
  right_of (a_value x) = x ∷ []
  right_of (a_copy x) = x ∷ []
  right_of (elements e n m) = replicate m e

  abbrev all_of : (Compared → List (List ℕ)) → List Compared → List (List ℕ)
  all_of f [] = []
  all_of f (t ∷ ts) = f t ++ all_of f ts

  all_joined : (f : Compared → List (List ℕ)) (us ts : List Compared) → all_of f (us ++ ts) ≡ all_of f us ++ all_of f ts
  all_joined f [] ts = refl
  all_joined f (u ∷ us) ts = ap (λ l. f u ++ l) (all_joined f us ts) ∙ sym (append_assoc (f u) (all_of f us) (all_of f ts))

  values_of : (f : Compared → List (List ℕ)) → ((x : List ℕ) → f (a_value x) ≡ x ∷ []) → (ps : List (List ℕ)) → all_of f (map (λ p. a_value p) ps) ≡ ps
  values_of f h [] = refl
  values_of f h (p ∷ ps) = ap (λ l. l ++ all_of f (map (λ p. a_value p) ps)) (h p) ∙ ap (λ l. p ∷ l) (values_of f h ps)

  copies_in : (f : Compared → List (List ℕ)) → ((x : List ℕ) → f (a_copy x) ≡ x ∷ []) → (ps : List (List ℕ)) → all_of f (map (λ p. a_copy p) ps) ≡ ps
  copies_in f h [] = refl
  copies_in f h (p ∷ ps) = ap (λ l. l ++ all_of f (map (λ p. a_copy p) ps)) (h p) ∙ ap (λ l. p ∷ l) (copies_in f h ps)

  -- the bytes are taken of both, and then what decides comes next
  abbrev Both : List ℕ → List ℕ → Ordering → List Compared → List (List ℕ) → List (List ℕ) → List ℕ → List ℕ → Type 0
  Both l r o us xs ys bs cs =
      (M : List ℕ) × (S : List ℕ) × (bs ≡ l ++ M) × (cs ≡ r ++ S)
      × (o ≡ Equal → IsRead true (all_of left_of us ++ xs) M × IsRead false (all_of right_of us ++ ys) S)

  ordered : {x : List ℕ} {q : Order} → HasOrder F x q → (q ≡ single → ⊥) → (q ≡ other → ⊥) → (HasNoBytes F x → ⊥) × OrdersBytes F x q
  ordered (inl z) a b = absurd (a z.1)
  ordered (inr (n, inl h)) a b = (n, h)
  ordered (inr (n, inr h)) a b = absurd (b h.0)

  -- ---- one side
  single_empty : {x : List ℕ} → HasOrder F x single → HasNoBytes F x
  single_empty (inl z) = z.0
  single_empty (inr (n, inl h)) = absurd h
  single_empty (inr (n, inr h)) = absurd (let e = h.0 in cc)

  module _ {once : Bool} {x : List ℕ} {xs : List (List ℕ)} {bs : List ℕ} (t A : List ℕ) (full : HasNoBytes F x → ⊥) (r : IsRead once (x ∷ xs) bs) where
    took_text : (y s : List ℕ) → F x ≡ Some (sequence 4 0 4294967295 y) → F y ≡ Some (primitive 1) → length s < 256 ^ 4 → bs ++ t ≡ (tag 4 (pos (length s)) ++ s) ++ A → Took once (tag 4 (pos (length s)) ++ s) xs bs
    took_text y s c b len e =
        let l = tag 4 (pos (length s)) in
        let k = took_count t (s ++ A) l full r (e ∙ append_assoc l s A) 4 0 4294967295 y c (long_tag 4 (pos (length s))) in
        let max : 256 ^ 4 ≡ 4294967296 = refl in
        let same = one_low 4 k.0 (length s) (let m = k.3 in omega (arith, m, max)) len (sym k.1) in
        let m = k.4 in
        let u = (same_front l l (m.0 ++ t) (s ++ A) (sym (append_assoc l m.0 t) ∙ ap (λ b. b ++ t) (sym m.1) ∙ e ∙ append_assoc l s A) refl).1 in
        let n = took_bytes t A s m.0 b (subst (λ k. IsRead once (replicate k y ++ xs) m.0) same m.2) u in
        (n.0, m.1 ∙ ap (λ r. l ++ r) n.1 ∙ sym (append_assoc l s n.0), n.2)

    took_list : (l : List ℕ) (w n : ℕ) (y : List ℕ) → ((w ≡ 4) × IsList F x y) ⊎ ((w ≡ 1) × IsOption F x y) → n < 256 ^ w → l ≡ tag w (pos n) → bs ++ t ≡ l ++ A → Took once l (replicate n y ++ xs) bs
    took_list l w n y (inl (z, c)) low is e =
        let four = is ∙ ap (λ w. tag w (pos n)) z in
        let k = took_count t A l full r e 4 0 4294967295 y c (ap (λ l. length l) four ∙ long_tag 4 (pos n)) in
        let max : 256 ^ 4 ≡ 4294967296 = refl in
        let same = one_low 4 k.0 n (let m = k.3 in omega (arith, m, max)) (subst (λ w. n < 256 ^ w) z low) (sym k.1 ∙ four) in
        subst (λ k. Took once l (replicate k y ++ xs) bs) same k.4
    took_list l w n y (inr (z, o)) low is e =
        let one = is ∙ ap (λ w. tag w (pos n)) z in
        let small = subst (λ w. n < 256 ^ w) z low in
        let max : 256 ^ 1 ≡ 256 = refl in
        let k = took_tag t A l full r e 1 _ o.1 (ap (λ l. length l) one ∙ long_tag 1 (pos n)) in
        by k.0 k.1 k.2 (sym k.3 ∙ one) small max k.4
      where
        by : (k : ℤ) (p : List ℕ) → IsListedVariant k p ((pos 0, o.0) ∷ (pos 1, y) ∷ []) → tag 1 k ≡ tag 1 (pos n) → n < 256 ^ 1 → 256 ^ 1 ≡ 256 → Took once l (p ∷ xs) bs → Took once l (replicate n y ++ xs) bs
        by k p first_variant q small max m = subst (λ n. Took once l (replicate n y ++ xs) bs) (one_low 1 0 n (omega (arith, max)) small q) (m.0, m.1, none_taken o.2.1 m.2)
        by k p (later_variant first_variant) q small max m = subst (λ n. Took once l (replicate n y ++ xs) bs) (one_low 1 1 n (omega (arith, max)) small q) m
        by k p (later_variant (later_variant i)) q small max m = elim i [ ]

  -- ---- both sides
  module _ (s t : List ℕ) (xs ys : List (List ℕ)) {bs cs : List ℕ} (l r A B : List ℕ) (o : Ordering) (d : bs ++ s ≡ l ++ A) (e : cs ++ t ≡ r ++ B) where
    both : (us vs : List Compared) → us ≡ vs → Took true l (all_of left_of vs ++ xs) bs → Took false r (all_of right_of vs ++ ys) cs → Both l r o us xs ys bs cs
    both us vs same p q = subst (λ us. Both l r o us xs ys bs cs) (sym same) (p.0, q.0, p.1, q.1, λ z. (p.2, q.2))

    -- nothing is taken
    both_still : (us vs : List Compared) → us ≡ vs → l ≡ [] → r ≡ [] → IsRead true (all_of left_of vs ++ xs) bs → IsRead false (all_of right_of vs ++ ys) cs → Both l r o us xs ys bs cs
    both_still us vs same a b p q = both us vs same (bs, ap (λ l. l ++ bs) (sym a), p) (cs, ap (λ r. r ++ cs) (sym b), q)

    both_copied : {x : List ℕ} (us : List Compared) → IsRead true (x ∷ xs) bs → IsRead false (x ∷ ys) cs → IsCopy F x l r o us → Both l r o us xs ys bs cs
    both_copied us p q (same, eq, inl (z, none, free)) = both_still us [] free none (sym same ∙ none) (none_taken z p) (none_taken z q)
    both_copied us p q (same, eq, inr (full, f, ps, c, node, is)) =
        let k = taken f full c p in
        let j = taken f full c q in
        let u = node_same (k.rest ++ s) A (shape_of_form f) k.own l k.ps ps k.front (k.tell refl) node (joins s A l full p d k.own k.rest k.is) in
        let v = front_same (j.rest ++ t) B (shape_of_form f) k.own j.own k.ps j.ps k.front (k.tell refl) j.front (joins t B r full q e j.own j.rest j.is ∙ ap (λ l. l ++ B) (sym same ∙ sym u.0)) in
        both us (map (λ p. a_copy p) ps) is
        (k.rest, k.is ∙ ap (λ o. o ++ k.rest) u.0, subst (λ l. IsRead true (l ++ xs) k.rest) (u.1 ∙ sym (copies_in left_of (λ x. refl) ps)) k.read)
        (j.rest, j.is ∙ ap (λ o. o ++ j.rest) (v.0 ∙ u.0 ∙ same), subst (λ l. IsRead false (l ++ ys) j.rest) (v.1 ∙ u.1 ∙ sym (copies_in right_of (λ x. refl) ps)) j.read)

    -- elements come next
    both_elements : (us : List Compared) (y : List ℕ) (n m : ℕ) → us ≡ elements y n m ∷ [] → Took true l (replicate n y ++ xs) bs → Took false r (replicate m y ++ ys) cs → Both l r o us xs ys bs cs
    both_elements us y n m same p q = both us (elements y n m ∷ []) same (p.0, p.1, subst (λ l. IsRead true (l ++ xs) p.0) (sym (append-nil (replicate n y))) p.2) (q.0, q.1, subst (λ l. IsRead false (l ++ ys) q.0) (sym (append-nil (replicate m y))) q.2)

    both_valued : {x : List ℕ} (us : List Compared) (q : Order) → HasOrder F x q → Fronts F x q l r o us → IsRead true (x ∷ xs) bs → IsRead false (x ∷ ys) cs → Both l r o us xs ys bs cs
    both_valued us single h f a b = let z = single_empty h in both_still us [] f.3 f.0 f.1 (none_taken z a) (none_taken z b)
    both_valued us (numbers n signed) h f a b =
        let g = ordered h (λ z. cc) (λ z. cc) in
        both us [] f.7 (took_primitive s A l g.0 a d n g.1.0 (ap (λ l. length l) f.4 ∙ long_tag n f.0)) (took_primitive t B r g.0 b e n g.1.0 (ap (λ l. length l) f.5 ∙ long_tag n f.1))
    both_valued us text h f a b =
        let g = ordered h (λ z. cc) (λ z. cc) in
        both us [] f.7 (subst (λ l. Took true l xs bs) (sym f.4) (took_text s A g.0 a (codes "u8") f.0 g.1.1 g.1.2.1 f.2 (d ∙ ap (λ l. l ++ A) f.4))) (subst (λ r. Took false r ys cs) (sym f.5) (took_text t B g.0 b (codes "u8") f.1 g.1.1 g.1.2.1 f.3 (e ∙ ap (λ r. r ++ B) f.5)))
    both_valued us (array n y) h f a b =
        let g = ordered h (λ z. cc) (λ z. cc) in
        let k = took_count s A l g.0 a d 0 n n y g.1.0 (ap (λ l. length l) f.0) in
        let j = took_count t B r g.0 b e 0 n n y g.1.0 (ap (λ r. length r) f.1) in
        both_elements us y n n f.3 (subst (λ k. Took true l (replicate k y ++ xs) bs) (let p = k.2 in let q = k.3 in omega (arith, p, q)) k.4) (subst (λ k. Took false r (replicate k y ++ ys) cs) (let p = j.2 in let q = j.3 in omega (arith, p, q)) j.4)
    both_valued {x = x} us (list w y) h f a b =
        let g = ordered h (λ z. cc) (λ z. cc) in
        let known : ((w ≡ 4) × IsList F x y) ⊎ ((w ≡ 1) × IsOption F x y) = elim g.1 [ inl z ↦ inl (z.0, z.1.0) | inr z ↦ inr z ] in
        both_elements us y f.0 f.1 f.7 (took_list s A g.0 a l w f.0 y known f.2 f.4 d) (took_list t B g.0 b r w f.1 y known f.3 f.5 e)
    both_valued us (parts ps) h f a b =
        let g = ordered h (λ z. cc) (λ z. cc) in
        both_still us (map (λ p. a_value p) ps) f.3 f.0 f.1 (subst (λ l. IsRead true (l ++ xs) bs) (sym (values_of left_of (λ x. refl) ps)) (took_tuple s A l g.0 a d ps g.1.0)) (subst (λ l. IsRead false (l ++ ys) cs) (sym (values_of right_of (λ x. refl) ps)) (took_tuple t B r g.0 b e ps g.1.0))
    both_valued us other h f a b = both_copied us a b f

    both_fronts : (u : Compared) (us : List Compared) → FrontsOf F u l r o us → (o ≡ Less → ⊥) → IsRead true (left_of u ++ xs) bs → IsRead false (right_of u ++ ys) cs → Both l r o us xs ys bs cs
    both_fronts (a_value x) us f n a b = both_valued us f.0 f.1 f.2 a b
    both_fronts (a_copy x) us f n a b = both_copied us a b f
    both_fronts (elements y zero zero) us f n a b = both_still us [] f.3 f.0 f.1 a b
    both_fronts (elements y zero (suc m)) us f n a b = absurd (n f.2)
    both_fronts (elements y (suc k) zero) us f n a b = (bs, cs, ap (λ l. l ++ bs) (sym f.0), ap (λ r. r ++ cs) (sym f.1), λ z. absurd (let q : Greater ≡ Equal = sym f.2 ∙ z in cc))
    both_fronts (elements y (suc k) (suc m)) us f n a b =
        both_still us (a_value y ∷ elements y k m ∷ []) f.3 f.0 f.1 (subst (λ l. IsRead true (y ∷ (l ++ xs)) bs) (sym (append-nil (replicate k y))) a) (subst (λ l. IsRead false (y ∷ (l ++ ys)) cs) (sym (append-nil (replicate m y))) b)

  -- what follows doesn't matter
  pub shorter : (s t : List ℕ) {ts : List Compared} {L R : List ℕ} → IsAtLeast F ts L R → (xs ys : List (List ℕ)) (bs cs : List ℕ) → L ≡ bs ++ s → R ≡ cs ++ t → IsRead true (all_of left_of ts ++ xs) bs → IsRead false (all_of right_of ts ++ ys) cs → IsAtLeast F ts bs cs
  shorter s t all_equal xs ys bs cs d e p q = all_equal
  shorter s t (first_above {t = u} {ts = ts} l r A B us f) xs ys bs cs d e p q =
      let b = both_fronts s t (all_of left_of ts ++ xs) (all_of right_of ts ++ ys) l r A B Greater (sym d) (sym e) u us f (λ z. cc) (subst (λ l. IsRead true l bs) (append_assoc (left_of u) (all_of left_of ts) xs) p) (subst (λ l. IsRead false l cs) (append_assoc (right_of u) (all_of right_of ts) ys) q) in
      moved F {ts = u ∷ ts} refl (sym b.2) (sym b.3) (first_above l r b.0 b.1 us f)
  shorter s t (first_equal {t = u} {ts = ts} {bs = A} {cs = B} l r us f h) xs ys bs cs d e p q =
      let b = both_fronts s t (all_of left_of ts ++ xs) (all_of right_of ts ++ ys) l r A B Equal (sym d) (sym e) u us f (λ z. cc) (subst (λ l. IsRead true l bs) (append_assoc (left_of u) (all_of left_of ts) xs) p) (subst (λ l. IsRead false l cs) (append_assoc (right_of u) (all_of right_of ts) ys) q) in
      let k = b.4 refl in
      let left = (same_front l l A (b.0 ++ s) (d ∙ ap (λ b. b ++ s) b.2 ∙ append_assoc l b.0 s) refl).1 in
      let right = (same_front r r B (b.1 ++ t) (e ∙ ap (λ b. b ++ t) b.3 ∙ append_assoc r b.1 t) refl).1 in
      let more = shorter s t h xs ys b.0 b.1 left right (subst (λ l. IsRead true l b.0) (sym (ap (λ l. l ++ xs) (all_joined left_of us ts) ∙ append_assoc (all_of left_of us) (all_of left_of ts) xs)) k.0) (subst (λ l. IsRead false l b.1) (sym (ap (λ l. l ++ ys) (all_joined right_of us ts) ∙ append_assoc (all_of right_of us) (all_of right_of ts) ys)) k.1) in
      moved F {ts = u ∷ ts} refl (sym b.2) (sym b.3) (first_equal l r us f more)
