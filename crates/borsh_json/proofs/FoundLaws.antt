-- Names that are composed, and definitions that were found.
use Rattle.std.proofs.{Common.{◌≡◌, inl, inr, ℕ, suc, zero, ◌+◌, ◌<◌, ◌≤◌, List, [], ◌∷◌, ◌++◌, length, map, take, Bool, true, false, get_or, Decides, MatchBool, Option, Some, None, refl, sym, ◌∙◌, ap, subst, arith, append_assoc, append-nil, eqb, string_bytes, ℤ, pos, codes, option_map, slice_get, String, MatchOption, option_copied, HoldsAt, Bor, Global}, lemmas.Option.{slice_get-get_or}, lemmas.Bool.Decides.{nat_tests}, lemmas.List.{append_cancel_left}}
use Rattle.std.specs.Str.Pattern.{FindsTextPrefix, StripsPrefix}
use Rattle.borsh_walks.specs.Container.{IsIn, references, zeroed, zero_size_references}
use Rattle.borsh_walks.specs.Container as shape
use Rattle.borsh_json.specs.{Forms.{Form, primitive, sequence, tuple, choice, unnamed, shape_of_form, HasNoBytes, IsList, IsByte, IsUnit, IsOption, IsMap}, Found.{joined, IsMapName, IsSetName}}

pub newtype_is : (ps : List (List ℕ)) → MatchBool (eqb (length ps) 1) ((p : List ℕ) × (unnamed ps ≡ unnamed (p ∷ []))) ((p : List ℕ) → unnamed ps ≡ unnamed (p ∷ []) → ⊥)
newtype_is [] = λ p e. cc
newtype_is (p ∷ []) = (p, refl)
newtype_is (p ∷ q ∷ ps) = many (eqb (length (p ∷ q ∷ ps)) 1) refl
  where
    many : (b : Bool) → eqb (length (p ∷ q ∷ ps)) 1 ≡ b → MatchBool b ((r : List ℕ) × (unnamed (p ∷ q ∷ ps) ≡ unnamed (r ∷ []))) ((r : List ℕ) → unnamed (p ∷ q ∷ ps) ≡ unnamed (r ∷ []) → ⊥)
    many true e = absurd (let g : length (p ∷ q ∷ ps) ≡ 1 = grind (arith, nat_tests) in omega (arith, g))
    many false e = λ r e. cc

pub one_part : (ps : List (List ℕ)) → length ps ≡ 1 → (p : List ℕ) × (unnamed ps ≡ unnamed (p ∷ []))
one_part [] e = absurd (omega (arith, e))
one_part (p ∷ []) e = (p, refl)
one_part (p ∷ q ∷ ps) e = absurd (omega (arith, e))

-- ---- what was read from a list
past : {X : Type 0} (ys : List X) (i : ℕ) → length ys ≤ i → None ≡ slice_get ys i
past [] i h = refl
past (y ∷ ys) zero h = absurd (omega (arith, h))
past (y ∷ ys) (suc i) h = past ys i (omega (arith, h))

got_here : {X : Type 0} (ys : List X) (i : ℕ) (r : Option (Bor X)) → MatchOption r (length ys ≤ i) (λ x. (i < length ys) × HoldsAt (λ y. x.now ≡ y) ys i) → option_copied r ≡ slice_get ys i
got_here ys i None h = past ys i h
got_here ys i (Some x) h = ap (λ y. Some y) (h.1 x.now) ∙ sym (slice_get-get_or ys i x.now h.0)

pub got : {X : Type 0} (xs ys : List X) (i : ℕ) (r : Option (Bor X)) → ys ≡ xs → MatchOption r (length ys ≤ i) (λ x. (i < length ys) × HoldsAt (λ y. x.now ≡ y) ys i) → option_copied r ≡ slice_get xs i
got xs ys i r e h = got_here ys i r h ∙ ap (λ l. slice_get l i) e

pub got_at : {X : Type 0} (xs ys : List X) (i : ℕ) (r : Option (Bor X)) (x : Bor X) → ys ≡ xs → MatchOption r (length ys ≤ i) (λ x. (i < length ys) × HoldsAt (λ y. x.now ≡ y) ys i) → r ≡ Some x → slice_get xs i ≡ Some x.now
got_at xs ys i r x e h q = sym (got xs ys i r e h) ∙ ap (λ o. option_copied o) q

pub on_some : {X : Type 0} (P : Type 0) (Q : X → Type 0) (o : Option X) (x : X) → o ≡ Some x → MatchOption o P Q → Q x
on_some P Q o x e m = subst (λ o. MatchOption o P Q) e m

pub on_none : {X : Type 0} (P : Type 0) (Q : X → Type 0) (o : Option X) → o ≡ None → MatchOption o P Q → P
on_none P Q o e m = subst (λ o. MatchOption o P Q) e m

pub on_true : {P : Type 0} (Q : Type 0) (r : Bool) → r ≡ true → MatchBool r P Q → P
on_true {P = P} Q r e m = subst (λ b. MatchBool b P Q) e m

pub on_false : (P : Type 0) {Q : Type 0} (r : Bool) → r ≡ false → MatchBool r P Q → Q
on_false P {Q = Q} r e m = subst (λ b. MatchBool b P Q) e m

-- ---- composed names
abbrev Text : Type 0
Text = Bor (List ℕ)

joined_more : (ps : List Text) (i : ℕ) (p d : Text) → i < length ps → p ≡ get_or ps i d → joined (take (i + 1) ps) ≡ joined (take i ps) ++ p.now
joined_more ps i p d h e = ap (λ k. joined (take k ps)) (let q : i + 1 ≡ suc i = omega arith in q) ∙ on ps i h e
  where
    on : (ps : List Text) (i : ℕ) → i < length ps → p ≡ get_or ps i d → joined (take (suc i) ps) ≡ joined (take i ps) ++ p.now
    on [] i h e = absurd (omega (arith, h))
    on (q ∷ ps) zero h e = ap (λ x. x.now ++ []) (sym e) ∙ append-nil p.now
    on (q ∷ ps) (suc i) h e = ap (λ l. q.now ++ l) (on ps i (omega (arith, h)) e) ∙ sym (append_assoc q.now (joined (take i ps)) p.now)

joined_split : (ps : List Text) (i : ℕ) (p d : Text) → i < length ps → p ≡ get_or ps i d → (rest : List ℕ) × (joined ps ≡ (joined (take i ps) ++ p.now) ++ rest)
joined_split [] i p d h e = absurd (omega (arith, h))
joined_split (q ∷ ps) zero p d h e = (joined ps, ap (λ x. x.now ++ joined ps) (sym e))
joined_split (q ∷ ps) (suc i) p d h e =
    let r = joined_split ps i p d (omega (arith, h)) e in
    (r.0, ap (λ l. q.now ++ l) r.1 ∙ sym (append_assoc q.now (joined (take i ps) ++ p.now) r.0) ∙ ap (λ l. l ++ r.0) (sym (append_assoc q.now (joined (take i ps)) p.now)))

pub joined_step : (name rest after : List ℕ) (ps : List Text) (i : ℕ) (p d : Text) → i < length ps → p ≡ get_or ps i d → name ≡ joined (take i ps) ++ rest → rest ≡ p.now ++ after → name ≡ joined (take (i + 1) ps) ++ after
joined_step name rest after ps i p d h e n r =
    n ∙ ap (λ l. joined (take i ps) ++ l) r ∙ sym (append_assoc (joined (take i ps)) p.now after) ∙ ap (λ l. l ++ after) (sym (joined_more ps i p d h e))

pub joined_not : (name rest : List ℕ) (ps : List Text) (i : ℕ) (p d : Text) → i < length ps → p ≡ get_or ps i d → name ≡ joined (take i ps) ++ rest → ((after : List ℕ) → rest ≡ p.now ++ after → ⊥) → (after : List ℕ) → name ≡ joined ps ++ after → ⊥
joined_not name rest ps i p d h e n not_here after q =
    let s = joined_split ps i p d h e in
    let front = joined (take i ps) in
    let l : front ++ rest ≡ front ++ (p.now ++ (s.0 ++ after)) = sym n ∙ q ∙ ap (λ l. l ++ after) s.1 ∙ append_assoc (front ++ p.now) s.0 after ∙ append_assoc front p.now (s.0 ++ after) in
    not_here (s.0 ++ after) (append_cancel_left front rest (p.now ++ (s.0 ++ after)) l)

-- a prefix of a text, by the clause of `strip_prefix`
pub stripped : (p s : List ℕ) (x : List ℕ) → StripsPrefix (FindsTextPrefix p) s x → s ≡ p ++ x
stripped p s x h = h.1.1 ∙ ap (λ l. p ++ l) (sym h.2)

module _ (F : List ℕ → Option Form) where
  -- definitions whose values have bytes
  full : {x : List ℕ} (f : Form) → F x ≡ Some f → zero_size_references (shape_of_form f) ≡ None → HasNoBytes F x → ⊥
  full {x = x} f e none (zeroed d ps c r all) =
      let g : Some d ≡ Some (shape_of_form f) = sym c ∙ ap (λ o. option_map shape_of_form o) e in
      let h : d ≡ shape_of_form f = cc in
      let i = ap zero_size_references h in
      cc

  pub full_primitive : {x : List ℕ} {n : ℕ} → F x ≡ Some (primitive (suc n)) → HasNoBytes F x → ⊥
  full_primitive {n = n} e = full (primitive (suc n)) e refl

  pub full_list : {x : List ℕ} {w lo hi : ℕ} {e : List ℕ} → F x ≡ Some (sequence (suc w) lo hi e) → HasNoBytes F x → ⊥
  full_list {w = w} {lo = lo} {hi = hi} {e = e} q = full (sequence (suc w) lo hi e) q refl

  pub byte_full : {e : List ℕ} → IsByte F e → HasNoBytes F e → ⊥
  byte_full b = full_primitive {n = 0} b.1

  -- the parts of a tuple without bytes have none
  pub zero_part : {e p : List ℕ} {parts : List (List ℕ)} → option_map shape_of_form (F e) ≡ Some (shape.product parts) → HasNoBytes F e → IsIn p parts → HasNoBytes F p
  zero_part {p = p} {parts = parts} e (zeroed d ps c r all) i =
      let g : Some d ≡ Some (shape.product parts) = sym c ∙ e in
      let h : d ≡ shape.product parts = cc in
      let k : Some ps ≡ Some parts = sym r ∙ ap zero_size_references h in
      let j : ps ≡ parts = cc in
      all p (subst (λ l. IsIn p l) (sym j) i)

-- two elements of a list of two
pub two : {X : Type 0} (xs : List X) (a b : X) → length xs ≡ 2 → a ≡ get_or xs 0 a → b ≡ get_or xs 1 b → xs ≡ a ∷ b ∷ []
two [] a b l e f = absurd (omega (arith, l))
two (x ∷ []) a b l e f = absurd (omega (arith, l))
two (x ∷ y ∷ []) a b l e f = ap (λ x. x ∷ y ∷ []) (sym e) ∙ ap (λ y. a ∷ y ∷ []) (sym f)
two (x ∷ y ∷ z ∷ xs) a b l e f = absurd (omega (arith, l))

-- ---- options
module _ (F : List ℕ → Option Form) (x : List ℕ) (vs : List (ℤ × List ℕ × List ℕ)) (h : F x ≡ Some (choice 1 vs)) where
  pub option_needs : (p : List ℕ) → IsOption F x p → (none : List ℕ) × (vs ≡ (pos 0, codes "None", none) ∷ (pos 1, codes "Some", p) ∷ []) × IsUnit F none × (x ≡ codes "Option<" ++ p ++ codes ">")
  option_needs p o =
      let g : Some (choice 1 vs) ≡ Some (choice 1 ((pos 0, codes "None", o.0) ∷ (pos 1, codes "Some", p) ∷ [])) = sym h ∙ o.1 in
      (o.0, cc, o.2, o.3)

  -- the first variant of an option has no bytes
  pub none_first : (p none : List ℕ) → vs ≡ (pos 0, codes "None", none) ∷ (pos 1, codes "Some", p) ∷ [] → slice_get (references (shape_of_form (choice 1 vs))) 0 ≡ Some none
  none_first p none e = ap (λ vs. slice_get (references (shape_of_form (choice 1 vs))) 0) e

-- ---- the names of options, sets and maps
pub not_true : {P : Type 0} (r : Bool) → Decides r P → r ≡ false → P → ⊥
not_true r d e p = let q = d.1 p in cc

pub inner : (k v : List ℕ) → k ++ (44 ∷ 32 ∷ (v ++ 62 ∷ [])) ≡ ((k ++ 44 ∷ 32 ∷ []) ++ v) ++ 62 ∷ []
inner k v = sym (append_assoc (k ++ 44 ∷ 32 ∷ []) v (62 ∷ []) ∙ append_assoc k (44 ∷ 32 ∷ []) (v ++ 62 ∷ []))

abbrev Pieces : List ℕ → List ℕ → List ℕ → List ℕ
Pieces front k v = front ++ (k ++ (44 ∷ 32 ∷ (v ++ 62 ∷ [])))

module _ (name k v : List ℕ) (P : List (List ℕ)) (e : P ≡ k ∷ v ∷ []) where
  pub tree_named : name ≡ Pieces (codes "BTreeMap<") k v → (k v : List ℕ) × (P ≡ k ∷ v ∷ []) × IsMapName name k v
  tree_named q = (k, v, e, inl (q ∙ ap (λ l. codes "BTreeMap<" ++ l) (inner k v)))

  pub map_named : (r : Bool) → Decides r (name ≡ Pieces (codes "HashMap<") k v) → (name ≡ Pieces (codes "BTreeMap<") k v → ⊥) → MatchBool r ((k v : List ℕ) × (P ≡ k ∷ v ∷ []) × IsMapName name k v) ((k v : List ℕ) → P ≡ k ∷ v ∷ [] → IsMapName name k v → ⊥)
  map_named true d n = (k, v, e, inr (d.0 refl ∙ ap (λ l. codes "HashMap<" ++ l) (inner k v)))
  map_named false d n = λ l w f m.
      let g : k ∷ v ∷ [] ≡ l ∷ w ∷ [] = sym e ∙ f in
      let a : l ≡ k = cc in
      let b : w ≡ v = cc in
      let o = subst (λ w. IsMapName name k w) b (subst (λ k. IsMapName name k w) a m) in
      elim o [
        | inl q ↦ n (q ∙ ap (λ l. codes "BTreeMap<" ++ l) (sym (inner k v)))
        | inr q ↦ (let t = d.1 (q ∙ ap (λ l. codes "HashMap<" ++ l) (sym (inner k v))) in cc)
      ]

pub two_texts : (ps : List (String Global)) (a b : String Global) (k v : List ℕ) → length ps ≡ 2 → a ≡ get_or ps 0 a → b ≡ get_or ps 1 b → k ≡ string_bytes a → v ≡ string_bytes b → map (λ p. string_bytes p) ps ≡ k ∷ v ∷ []
two_texts ps a b k v l e f g h = ap (λ ps. map (λ p. string_bytes p) ps) (two ps a b l e f) ∙ ap (λ x. x ∷ string_bytes b ∷ []) (sym g) ∙ ap (λ y. k ∷ y ∷ []) (sym h)

-- ---- variants of an option
abbrev pub Listed : Type 0
Listed = ℤ × String Global × String Global

abbrev pub listed : Listed → ℤ × List ℕ × List ℕ
listed v = (v.0, string_bytes v.1, string_bytes v.2)

pub two_variants : (vs : List Listed) (a b : Listed) → length vs ≡ 2 → a ≡ get_or vs 0 a → b ≡ get_or vs 1 b → map listed vs ≡ listed a ∷ listed b ∷ []
two_variants vs a b l e f = ap (λ vs. map listed vs) (two vs a b l e f)

module _ (F : List ℕ → Option Form) (x : List ℕ) (vs : List (ℤ × List ℕ × List ℕ)) (h : F x ≡ Some (choice 1 vs)) where
  abbrev IsFound : Bool → Type 0
  IsFound r = MatchBool r ((p : List ℕ) × (slice_get (map (λ v. v.2) vs) 1 ≡ Some p) × IsOption F x p) ((p : List ℕ) → IsOption F x p → ⊥)

  pub option_found : (none p : List ℕ) → vs ≡ (pos 0, codes "None", none) ∷ (pos 1, codes "Some", p) ∷ [] → IsUnit F none → (r : Bool) → Decides r (x ≡ codes "Option<" ++ p ++ codes ">") → IsFound r
  option_found none p e z true d = (p, ap (λ vs. slice_get (map (λ v. v.2) vs) 1) e, (none, h ∙ ap (λ vs. Some (choice 1 vs)) e, z, d.0 refl))
  option_found none p e z false d = λ q o.
      let n = option_needs F x vs h q o in
      let first : ℤ × List ℕ × List ℕ = (pos 1, codes "Some", p) in
      let second : ℤ × List ℕ × List ℕ = (pos 1, codes "Some", q) in
      let g : (pos 0, codes "None", none) ∷ first ∷ [] ≡ (pos 0, codes "None", n.0) ∷ second ∷ [] = sym e ∙ n.1 in
      let i : second ≡ first = cc in
      let j : q ≡ p = ap (λ (v : ℤ × List ℕ × List ℕ). v.2) i in
      let t = d.1 (n.3 ∙ ap (λ q. codes "Option<" ++ q ++ codes ">") j) in
      cc

-- ---- collections
module _ (F : List ℕ → Option Form) (x e : List ℕ) (w lo hi : ℕ) (h : F x ≡ Some (sequence w lo hi e)) where
  pub list_element : (f : List ℕ) → IsList F x f → f ≡ e
  list_element f l = let g : Some (sequence w lo hi e) ≡ Some (sequence 4 0 4294967295 f) = sym h ∙ l in cc

  pub no_map : (o : Option Form) → o ≡ F e → ((k v : List ℕ) → o ≡ Some (tuple (k ∷ v ∷ [])) → IsMapName x k v → ⊥) → (k v : List ℕ) → IsMap F x k v → ⊥
  no_map o q n k v m = n k v (q ∙ ap F (sym (list_element m.0 m.1)) ∙ m.2) m.3

  -- the name of a set is that of no map
  pub set_no_map : IsSetName x e → (k v : List ℕ) → IsMapName x k v → ⊥
  set_no_map (inl p) k v (inl q) = let g : 83 ≡ 77 = ap (λ l. get_or l 5 0) (sym p ∙ q) in absurd (omega (arith, g))
  set_no_map (inl p) k v (inr q) = let g : 66 ≡ 72 = ap (λ l. get_or l 0 0) (sym p ∙ q) in absurd (omega (arith, g))
  set_no_map (inr p) k v (inl q) = let g : 72 ≡ 66 = ap (λ l. get_or l 0 0) (sym p ∙ q) in absurd (omega (arith, g))
  set_no_map (inr p) k v (inr q) = let g : 83 ≡ 77 = ap (λ l. get_or l 4 0) (sym p ∙ q) in absurd (omega (arith, g))

pub sequence_same : {w lo hi v a b : ℕ} {e f : List ℕ} → sequence w lo hi e ≡ sequence v a b f → f ≡ e
sequence_same g = cc

pub listed_is : (v : Listed) (k : ℤ) (n : List ℕ) → (v.0 ≡ k) × (string_bytes v.1 ≡ n) → listed v ≡ (k, n, string_bytes v.2)
listed_is v k n h =
    let named : ℤ → List ℕ → ℤ × List ℕ × List ℕ = λ k n. (k, n, string_bytes v.2) in
    ap (λ k. named k (string_bytes v.1)) h.0 ∙ ap (λ n. named k n) h.1

pub types_are : (vs : List (ℤ × List ℕ × List ℕ)) → references (shape_of_form (choice 1 vs)) ≡ map (λ v. v.2) vs
types_are [] = refl
types_are (v ∷ vs) = ap (λ l. v.2 ∷ l) (types_are vs)

pub other_width : (F : List ℕ → Option Form) (x p : List ℕ) (w : ℕ) (vs : List (ℤ × List ℕ × List ℕ)) → F x ≡ Some (choice w vs) → (w ≡ 1 → ⊥) → IsOption F x p → ⊥
other_width F x p w vs h n o =
    let g : Some (choice w vs) ≡ Some (choice 1 ((pos 0, codes "None", o.0) ∷ (pos 1, codes "Some", p) ∷ [])) = sym h ∙ o.1 in
    n cc
