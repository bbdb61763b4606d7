-- Where each pair of names goes together, members of the one are members of the other.
use Rattle.std.proofs.Common.{◌≡◌, ℕ, suc, zero, ◌<◌, ◌≤◌, List, [], ◌∷◌, ◌++◌, length, replicate, take, drop, refl, sym, ◌∙◌, ap, subst, arith, append_assoc, append-nil, length-append, length-drop, take-append-drop, length-take-le}
use Rattle.std.specs.Prelude.{Option, All, ℤ, pos}
use Rattle.std.proofs.lemmas.Option.{slice_get_within}
use Rattle.std.proofs.lemmas.List.Elements.{All-take, All-drop}
use Rattle.std.proofs.lemmas.List.{nil_from_length}
use Rattle.borsh_walks.specs.Container.{Shape, primitive, sequence, product, choice, IsListedVariant, tag, Member, of_parts, Members, no_members, more_members}
use Rattle.borsh_walks.proofs.Laws.{one_definition}
use Rattle.borsh_values.proofs.MemberLaws.{parted, unwhole}
use Rattle.borsh_values.proofs.TagLaws.{listed_index}
use Rattle.borsh_compare.specs.Together.{HasNone, NamesGo, ShapesGo, PassesTo, stops, passes, opens, DefinitionsGo, GoUntil, begins, onward, GoThrough, Goes, without_definition, without_members, of_one_size, by_definition, by_parts}
use Rattle.borsh_compare.proofs.Heights.{AllOf, all_none, all_more, all_joined, ValueOf, Within, find_height, within_member, within_parts, member_value, member_small}

-- ---- definitions that go together
module _ (R P Q : List ℕ → List ℕ → Type 0) (f : (x y bs : List ℕ) → R x y → P x bs → Q y bs) where
  copies_go : (k : ℕ) (e g bs : List ℕ) → (0 < k → R e g) → AllOf P (replicate k e) bs → AllOf Q (replicate k g) bs
  copies_go zero e g bs r all_none = all_none
  copies_go (suc k) e g bs r (all_more {us = us} {vs = vs} m ms) = all_more (f e g us (r (omega arith)) m) (copies_go k e g vs (λ h. r (omega arith)) ms)

  names_go : (xs ys : List (List ℕ)) (bs : List ℕ) → NamesGo R xs ys → AllOf P xs bs → AllOf Q ys bs
  names_go [] [] bs g all_none = all_none
  names_go [] (y ∷ ys) bs g a = let l = g.long in absurd (omega (arith, l))
  names_go (x ∷ xs) [] bs g a = let l = g.long in absurd (omega (arith, l))
  names_go (x ∷ xs) (y ∷ ys) _ g (all_more {us = us} {vs = vs} m ms) =
      let t : NamesGo R xs ys = record { long = (let l = g.long in omega (arith, l)); each = λ i a b p q. g.each (suc i) a b p q } in
      all_more (f x y us (g.each zero x y refl refl) m) (names_go xs ys vs t ms)

  pub shapes_go : (c d : Shape) (bs : List ℕ) → ShapesGo R c d → ValueOf P c bs → ValueOf Q d bs
  shapes_go (primitive m) (primitive n) bs g v = (v.0 ∙ g, v.1)
  shapes_go (primitive m) (sequence w lo hi e) bs g v = absurd g
  shapes_go (primitive m) (product ps) bs g v = absurd g
  shapes_go (primitive m) (choice w vs) bs g v = absurd g
  shapes_go (sequence w lo hi e) (primitive n) bs g v = absurd g
  shapes_go (sequence w lo hi e) (sequence u l h o) bs g v =
      let low = v.2 in
      let high = v.3 in
      let less = g.1 in
      let more = g.2 in
      (v.0, v.1, omega (arith, low, less), omega (arith, high, more), copies_go v.0 e o v.1 (λ some. g.3 (omega (arith, some, high))) v.4, v.5 ∙ ap (λ i. tag i (pos v.0) ++ v.1) g.0)
  shapes_go (sequence w lo hi e) (product ps) bs g v = absurd g
  shapes_go (sequence w lo hi e) (choice u vs) bs g v = absurd g
  shapes_go (product ps) (primitive n) bs g v = absurd g
  shapes_go (product ps) (sequence w lo hi e) bs g v = absurd g
  shapes_go (product ps) (product qs) bs g v = names_go ps qs bs g v
  shapes_go (product ps) (choice w vs) bs g v = absurd g
  shapes_go (choice w vs) (primitive n) bs g v = absurd g
  shapes_go (choice w vs) (sequence u lo hi e) bs g v = absurd g
  shapes_go (choice w vs) (product ps) bs g v = absurd g
  shapes_go (choice w vs) (choice u us) bs g v =
      let i = listed_index vs v.3 in
      let t = g.1 i.0 v.0 v.1 (slice_get_within vs i.0 (v.0, v.1) i.1) i.1 in
      (v.0, t.0, v.2, t.1, f v.1 t.0 v.2 t.2 v.4, v.5 ∙ ap (λ i. tag i v.0 ++ v.2) g.0)

-- ---- names that lead to others
All-middle : (ps bs cs : List ℕ) → All (λ b. b < 256) (ps ++ (bs ++ cs)) → All (λ b. b < 256) bs
All-middle ps bs cs a = subst (λ z. All (λ b. b < 256) z) (front bs cs) (All-take (λ b. b < 256) (length bs) (bs ++ cs) (subst (λ z. All (λ b. b < 256) z) (past ps (bs ++ cs)) (All-drop (λ b. b < 256) (length ps) (ps ++ (bs ++ cs)) a)))
  where
    past : (xs ys : List ℕ) → drop (length xs) (xs ++ ys) ≡ ys
    past [] ys = refl
    past (x ∷ xs) ys = past xs ys

    front : (xs ys : List ℕ) → take (length xs) (xs ++ ys) ≡ xs
    front [] ys = refl
    front (x ∷ xs) ys = ap (λ l. x ∷ l) (front xs ys)

module _ (C : List ℕ → Option Shape) where
  -- what a value of such names begins with
  pub leads_forth : (h : ℕ) {xs ys : List (List ℕ)} {n : ℕ} (bs : List ℕ) → PassesTo C xs n ys → AllOf (Within C h) xs bs → (us : List ℕ) × (vs : List ℕ) × (length us ≡ n) × AllOf (Within C h) ys vs × (bs ≡ us ++ vs)
  leads_forth h bs stops a = ([], bs, refl, a, refl)
  leads_forth h _ (passes {x = x} k free l) (all_more {us = us} {vs = vs} m ms) =
      let t = leads_forth h vs l ms in
      let s = (free us).0 (within_member C h x us m) in
      (us ++ t.0, t.1, (let a = length-append us t.0 in let b = t.2 in omega (arith, a, b, s)), t.3, ap (λ z. us ++ z) t.4 ∙ sym (append_assoc us t.0 t.1))
  leads_forth h _ (opens {x = x} {ps = ps} e l) (all_more {us = us} {vs = vs} m ms) = leads_forth h (us ++ vs) l (all_joined (within_parts C h x us ps e m) ms)

  -- and how one is made
  pub leads_back : {xs ys : List (List ℕ)} {n : ℕ} (us vs : List ℕ) → PassesTo C xs n ys → length us ≡ n → All (λ b. b < 256) us → Members C ys vs → Members C xs (us ++ vs)
  leads_back {xs} us vs stops l small m = subst (λ z. Members C xs (z ++ vs)) (sym (nil_from_length us l)) m
  leads_back us vs (passes {x = x} {xs = xs} {n = n} k free t) l small m =
      let low : k ≤ length us = omega (arith, l) in
      let d = length-drop k us in
      let a = (free (take k us)).1 (length-take-le k us low) (All-take (λ b. b < 256) k us small) in
      let b = leads_back (drop k us) vs t (omega (arith, d, l)) (All-drop (λ b. b < 256) k us small) m in
      subst (λ z. Members C (x ∷ xs) z) (sym (append_assoc (take k us) (drop k us) vs) ∙ ap (λ z. z ++ vs) (take-append-drop k us)) (more_members a b)
  leads_back us vs (opens {x = x} {ps = ps} {xs = xs} e t) l small m =
      let s = parted C ps (leads_back us vs t l small m) in
      subst (λ z. Members C (x ∷ xs) z) (sym s.4) (more_members (of_parts e s.2) s.3)

module _ (C D : List ℕ → Option Shape) (R : List ℕ → List ℕ → Type 0) (h : ℕ) (leaf : (x y bs : List ℕ) → DefinitionsGo C D R x y → Within C h x bs → Member D y bs) where
  -- a value of the first names begins with bytes, with which one of the second may begin
  goes_on : {xs ys xs2 ys2 : List (List ℕ)} (bs : List ℕ) → GoUntil C D R xs ys xs2 ys2 → AllOf (Within C h) xs bs → All (λ b. b < 256) bs → (us : List ℕ) × (vs : List ℕ) × (bs ≡ us ++ vs) × AllOf (Within C h) xs2 vs × ((ws : List ℕ) → Members D ys2 ws → Members D ys (us ++ ws))
  goes_on bs begins a small = ([], bs, refl, a, λ ws m. m)
  goes_on {ys = ys} bs (onward {x = x} {y = y} {xs2 = xs2} {ys2 = ys2} {xs3 = xs3} {ys3 = ys3} n g old new d) a small =
      let t = goes_on bs g a small in
      let o = leads_forth C h t.1 old t.3 in
      take_one t.0 t.1 t.2 t.4 o.0 o.1 o.2 o.4 o.3
    where
      take_one : (us vs : List ℕ) → bs ≡ us ++ vs → ((ws : List ℕ) → Members D ys2 ws → Members D ys (us ++ ws)) → (ps cs : List ℕ) → length ps ≡ n → vs ≡ ps ++ cs → AllOf (Within C h) (x ∷ xs3) cs → (us : List ℕ) × (vs : List ℕ) × (bs ≡ us ++ vs) × AllOf (Within C h) xs3 vs × ((ws : List ℕ) → Members D ys3 ws → Members D ys (us ++ ws))
      take_one us vs e f ps _ l q (all_more {us = ms} {vs = os} m rest) =
          let whole : bs ≡ us ++ (ps ++ (ms ++ os)) = e ∙ ap (λ z. us ++ z) q in
          let small_ps : All (λ b. b < 256) ps = All-middle us ps (ms ++ os) (subst (λ z. All (λ b. b < 256) z) whole small) in (
            us ++ (ps ++ ms),
            os,
            whole ∙ ap (λ z. us ++ z) (sym (append_assoc ps ms os)) ∙ sym (append_assoc us (ps ++ ms) os),
            rest,
            λ ws n2.
                let one : Members D (y ∷ ys3) (ms ++ ws) = more_members (leaf x y ms d m) n2 in
                let two : Members D ys2 (ps ++ (ms ++ ws)) = leads_back D ps (ms ++ ws) new l small_ps one in
                subst (λ z. Members D ys z) (ap (λ z. us ++ z) (sym (append_assoc ps ms ws)) ∙ sym (append_assoc us (ps ++ ms) ws)) (f (ps ++ (ms ++ ws)) two),
          )

  pub go_through : (xs ys : List (List ℕ)) (bs : List ℕ) → GoThrough C D R xs ys → AllOf (Within C h) xs bs → All (λ b. b < 256) bs → Members D ys bs
  go_through xs ys bs g a small =
      let t = goes_on bs g.before a small in
      let o = leads_forth C h t.1 g.old t.3 in
      let e : bs ≡ t.0 ++ (o.0 ++ o.1) = t.2 ∙ ap (λ z. t.0 ++ z) o.4 in
      let small_us : All (λ b. b < 256) o.0 = All-middle t.0 o.0 o.1 (subst (λ z. All (λ b. b < 256) z) e small) in
      let none : o.1 ≡ [] = nothing o.3 in
      let m : Members D g.new_left (o.0 ++ o.1) = subst (λ z. Members D g.new_left (o.0 ++ z)) (sym none) (leads_back D o.0 [] g.new o.2 small_us no_members) in
      subst (λ z. Members D ys z) (sym e) (t.4 (o.0 ++ o.1) m)
    where
      nothing : {vs : List ℕ} → AllOf (Within C h) [] vs → vs ≡ []
      nothing all_none = refl

-- ---- the law
module _ (C D : List ℕ → Option Shape) (R : List ℕ → List ℕ → Type 0) (all_go : (x y : List ℕ) → R x y → Goes C D R x y) where
  no_value : (P : List ℕ → List ℕ → Type 0) (d : Shape) (bs : List ℕ) → HasNone d → ValueOf P d bs → ⊥
  no_value P (primitive n) bs n2 v = n2
  no_value P (sequence w lo hi e) bs n2 v = let a = v.2 in let b = v.3 in omega (arith, n2, a, b)
  no_value P (product ps) bs n2 v = n2
  no_value P (choice w vs) bs n2 v = not_listed (subst (λ l. IsListedVariant v.0 v.1 l) n2 v.3)
    where
      not_listed : {k : ℤ} {p : List ℕ} → IsListedVariant k p [] → ⊥
      not_listed l = elim l [ ]

  leaf_go : (n : ℕ) → ((x y bs : List ℕ) → R x y → Within C n x bs → Member D y bs) → (x y bs : List ℕ) → DefinitionsGo C D R x y → Within C (suc n) x bs → Member D y bs
  leaf_go n f x y bs g v =
      let d : ValueOf (Within C n) g.old_shape bs = subst (λ d. ValueOf (Within C n) d bs) (one_definition v.1 g.old) v.2 in
      member_value D g.new_shape bs g.new (shapes_go R (Within C n) (Member D) f g.old_shape g.new_shape bs g.go d)

  goes_member : (n : ℕ) (x y bs : List ℕ) → ((x y bs : List ℕ) → R x y → Within C n x bs → Member D y bs) → Goes C D R x y → Within C (suc n) x bs → Member D y bs
  goes_member n x y bs f (without_definition e) v = let p = v.1 in absurd (cc)
  goes_member n x y bs f (without_members {d = d} e none) v = absurd (no_value (Within C n) d bs none (subst (λ d. ValueOf (Within C n) d bs) (one_definition v.1 e) v.2))
  goes_member n x y bs f (of_one_size k old new) v =
      let m = within_member C (suc n) x bs v in
      (new bs).1 ((old bs).0 m) (member_small C m)
  goes_member n x y bs f (by_definition g) v = leaf_go n f x y bs g v
  goes_member n x y bs f (by_parts g) v =
      let m = within_member C (suc n) x bs v in
      let one : AllOf (Within C (suc n)) (x ∷ []) (bs ++ []) = all_more v all_none in
      unwhole D (go_through C D R (suc n) (leaf_go n f) (x ∷ []) (y ∷ []) bs g (subst (λ z. AllOf (Within C (suc n)) (x ∷ []) z) (append-nil bs) one) (member_small C m))

  within_go : (n : ℕ) (x y bs : List ℕ) → R x y → Within C n x bs → Member D y bs
  within_go zero x y bs r v = absurd v
  within_go (suc n) x y bs r v = goes_member n x y bs (within_go n) (all_go x y r) v

  pub members_go : (x y bs : List ℕ) → R x y → Member C x bs → Member D y bs
  members_go x y bs r m = let h = find_height C m in within_go h.0 x y bs r h.1
