-- The bytes of parts, and of those that a path leads to.
use Rattle.std.proofs.Common.{◌≡◌, inl, inr, ℕ, suc, zero, List, [], ◌∷◌, ◌++◌, length, Option, Some, None, refl, sym, ◌∙◌, ap, subst, append_assoc, option_map, option_and_then, slice_get}
use Rattle.json.specs.{Json.{Json, Members, object}, Find.{get_member}}
use Rattle.borsh_json.specs.{Forms.{Form}, Frames.{Wanted}, InOrder.{Step, BeginsParts, IsReached, whole_value, part_of}, NoValue.{LacksField}, Represents.{SaysFirst, HaveBytes, none_left, next_part, SaysSome}, Table.{Kind, HasKind, Part, field_parts, Says}}
use Rattle.borsh_json.proofs.RepresentsLaws.{says_one, kind_one, kind_small, bytes_one}

-- ---- fields that an object has
pub mapped : {A B : Type 0} (f : A → B) (o : Option A) {b : B} → option_map f o ≡ Some b → (a : A) × (o ≡ Some a) × (f a ≡ b)
mapped f None e = cc
mapped f (Some a) e = (a, refl, cc)

pub field_back : (f : Wanted) (fs : List Wanted) (ms : Members) (j : Json) (b : List Part) → get_member f.0 ms ≡ Some j → field_parts fs ms ≡ Some b → field_parts (f ∷ fs) ms ≡ Some ((f.1, j) ∷ b)
field_back f fs ms j b g e = ap (λ o. option_and_then (λ j. option_map (λ ps. (f.1, j) ∷ ps) (field_parts fs ms)) o) g ∙ ap (λ o. option_map (λ ps. (f.1, j) ∷ ps) o) e

looked_up : (f : Wanted) (fs : List Wanted) (ms : Members) (o : Option Json) (a : List Part) → option_and_then (λ j. option_map (λ ps. (f.1, j) ∷ ps) (field_parts fs ms)) o ≡ Some a → (j : Json) × (b : List Part) × (o ≡ Some j) × (field_parts fs ms ≡ Some b) × (a ≡ (f.1, j) ∷ b)
looked_up f fs ms None a e = cc
looked_up f fs ms (Some j) a e = let m = mapped (λ ps. (f.1, j) ∷ ps) (field_parts fs ms) e in (j, m.0, refl, m.1, sym m.2)

pub field_front : (f : Wanted) (fs : List Wanted) (ms : Members) (a : List Part) → field_parts (f ∷ fs) ms ≡ Some a → (j : Json) × (b : List Part) × (get_member f.0 ms ≡ Some j) × (field_parts fs ms ≡ Some b) × (a ≡ (f.1, j) ∷ b)
field_front f fs ms a e = looked_up f fs ms (get_member f.0 ms) a e

some_same : {A : Type 0} (a b : A) → Some a ≡ Some b → a ≡ b
some_same a b e = cc

-- the first fields of several
pub fields_split : (gs hs : List Wanted) (ms : Members) (a c : List Part) → field_parts gs ms ≡ Some a → field_parts (gs ++ hs) ms ≡ Some c → (b : List Part) × (c ≡ a ++ b)
fields_split [] hs ms a c p q = (c, ap (λ l. l ++ c) (some_same [] a p))
fields_split (g ∷ gs) hs ms a c p q =
    let s = field_front g gs ms a p in
    let t = field_front g (gs ++ hs) ms c q in
    let d = some_same t.0 s.0 (sym t.2 ∙ s.2) in
    let r = fields_split gs hs ms s.1 t.1 s.3 t.3 in
    (r.0, t.4 ∙ ap (λ l. (g.1, t.0) ∷ l) r.1 ∙ ap (λ (j : Json). (g.1, j) ∷ (s.1 ++ r.0)) d ∙ ap (λ l. l ++ r.0) (sym s.4))

-- and one more
pub fields_joined : (gs : List Wanted) (f : Wanted) (ms : Members) (j : Json) (a : List Part) → field_parts gs ms ≡ Some a → get_member f.0 ms ≡ Some j → field_parts (gs ++ f ∷ []) ms ≡ Some (a ++ (f.1, j) ∷ [])
fields_joined [] f ms j a p h = field_back f [] ms j [] h refl ∙ ap (λ l. Some (l ++ (f.1, j) ∷ [])) (some_same [] a p)
fields_joined (g ∷ gs) f ms j a p h =
    let s = field_front g gs ms a p in
    field_back g (gs ++ f ∷ []) ms s.0 (s.1 ++ (f.1, j) ∷ []) s.2 (fields_joined gs f ms j s.1 s.3 h) ∙ ap (λ l. Some (l ++ (f.1, j) ∷ [])) (sym s.4)

pub fields_count : (gs : List Wanted) (ms : Members) (a : List Part) → field_parts gs ms ≡ Some a → length gs ≡ length a
fields_count [] ms a p = ap (λ l. length l) (some_same [] a p)
fields_count (g ∷ gs) ms a p =
    let s = field_front g gs ms a p in
    ap suc (fields_count gs ms s.1 s.3) ∙ ap (λ l. length l) (sym s.4)

field_at : (fs : List Wanted) (ms : Members) (ps : List Part) (n : ℕ) (f : Wanted) → field_parts fs ms ≡ Some ps → slice_get fs n ≡ Some f → (j : Json) × (get_member f.0 ms ≡ Some j)
field_at [] ms ps zero f p e = cc
field_at [] ms ps (suc n) f p e = cc
field_at (g ∷ gs) ms ps zero f p e =
    let s = field_front g gs ms ps p in
    (s.0, subst (λ (f : Wanted). get_member f.0 ms ≡ Some s.0) (some_same g f e) s.2)
field_at (g ∷ gs) ms ps (suc n) f p e = let s = field_front g gs ms ps p in field_at gs ms s.1 n f s.3 e

pub object_one : (i : Json) (ms ns : Members) → i ≡ object ms → i ≡ object ns → ms ≡ ns
object_one i ms ns e f = let q : object ms ≡ object ns = sym e ∙ f in cc

module _ (F : List ℕ → Option Form) where
  -- the first part says its own bytes, and the others follow
  pub uncons : {x : List ℕ} {j : Json} {ps : List Part} {bs : List ℕ} → HaveBytes F ((x, j) ∷ ps) bs → (own : List ℕ) × (ns : List Part) × (cs : List ℕ) × (bs ≡ own ++ cs) × SaysFirst F x j own ns × HaveBytes F (ns ++ ps) cs
  uncons (next_part {bs = bs} kind own qs h s r) = (own, qs, bs, refl, (kind, h, s), r)

  -- and so do the first of several, and the others
  pub split : {all : List Part} {cs : List ℕ} → HaveBytes F all cs → (fs bs : List Part) → all ≡ fs ++ bs → (xs : List ℕ) × (ys : List ℕ) × HaveBytes F fs xs × HaveBytes F bs ys × (cs ≡ xs ++ ys)
  split none_left [] bs e = ([], [], none_left, subst (λ (l : List Part). HaveBytes F l []) e none_left, refl)
  split none_left (a ∷ fs) bs e = cc
  split {cs = cs} (next_part kind own qs h s r) [] bs e = ([], cs, none_left, subst (λ (l : List Part). HaveBytes F l cs) e (next_part kind own qs h s r), refl)
  split (next_part {x = x} {j = j} {ps = ps} kind own qs h s r) (a ∷ fs) bs e =
      let f : ps ≡ fs ++ bs = cc in
      let g : (x, j) ≡ a = cc in
      let t = split r (qs ++ fs) bs (ap (λ l. qs ++ l) f ∙ sym (append_assoc qs fs bs)) in
      (own ++ t.0, t.1, subst (λ (b : Part). HaveBytes F (b ∷ fs) (own ++ t.0)) g (next_part kind own qs h s t.2), t.3, ap (λ l. own ++ l) t.4 ∙ sym (append_assoc own t.0 t.1))

  -- the parts of two lists have the bytes of both
  pub joined : {ps qs : List Part} {bs cs : List ℕ} → HaveBytes F ps bs → HaveBytes F qs cs → HaveBytes F (ps ++ qs) (bs ++ cs)
  joined none_left h = h
  joined {qs = qs} {cs = cs} (next_part {x = x} {bs = bs} {j = j} {ps = ps} kind own ns k s r) h =
      subst (λ l. HaveBytes F ((x, j) ∷ (ps ++ qs)) l) (sym (append_assoc own bs cs)) (next_part kind own ns k s (subst (λ l. HaveBytes F l (bs ++ cs)) (append_assoc ns ps qs) (joined r h)))

  pub no_parts : {ps : List Part} {bs : List ℕ} → HaveBytes F ps bs → ps ≡ [] → bs ≡ []
  no_parts none_left e = refl
  no_parts (next_part kind own qs h s r) e = cc

  -- a struct whose object lacks a field says nothing
  pub lacks_none : {x : List ℕ} {i : Json} {name : List ℕ} → LacksField F x i name → SaysSome F x i → ⊥
  lacks_none {i = i} {name = name} l s =
      let u = uncons s.1 in
      let g = u.4 in
      let v = subst (λ k. Says F k i u.0 u.1) (kind_one F g.1 l.4) g.2 in
      let t = field_at l.0 l.3 u.1 l.1 l.2 (ap (λ ms. field_parts l.0 ms) (object_one i l.3 v.2 l.7 v.3) ∙ v.5) l.5 in
      let e : Some t.0 ≡ None = sym t.1 ∙ ap (λ n. get_member n l.3) l.6 ∙ l.8 in
      cc

  -- JSON of a kind says its first parts, whatever it says
  pub first_says : (x : List ℕ) (kind : Kind) (i : Json) (own bs : List ℕ) (ps qs : List Part) → HasKind F x kind → BeginsParts F kind i own ps → Says F kind i bs qs → (more : List Part) × (bs ≡ own) × (qs ≡ ps ++ more)
  first_says x kind i own bs ps qs h (inl f) s = let o = says_one F kind i {a = bs} {b = own} {ps = qs} {qs = ps ++ f.0} (kind_small F h) s f.1 in (f.0, o.0, o.1)
  first_says x kind i own bs ps qs h (inr f) s =
      let v = subst (λ k. Says F k i bs qs) f.3 s in
      let m = object_one i v.2 f.2 v.3 f.5 in
      let r = fields_split f.0 f.1 f.2 ps qs f.6 (ap (λ ms. field_parts (f.0 ++ f.1) ms) (sym m) ∙ v.5) in
      (r.0, v.1 ∙ sym f.4, r.1)

  module _ (root : List ℕ) (j : Json) where
    -- all that the whole says goes on, behind the bytes in front of a part, with those of the part
    pub reached_says : {n : ℕ} {path : List Step} {before : List ℕ} {p : Part} → IsReached F root j n path before p → (all : List ℕ) → HaveBytes F ((root, j) ∷ []) all → (rest : List ℕ) × (more : List Part) × (all ≡ before ++ rest) × HaveBytes F (p ∷ more) rest
    reached_says whole_value all h = (all, [], refl, h)
    reached_says (part_of {before = before} {mid = mid} {x = x} {i = i} {ps = ps} {p = p} kind own steps r k f m t) all h =
        let a = reached_says r all h in
        let u = uncons a.3 in
        let g = u.4 in
        let says = subst (λ q. Says F q i u.0 u.1) (kind_one F g.1 k) g.2 in
        let o = first_says x kind i own u.0 (ps ++ p ∷ []) u.1 k f says in
        let e : u.1 ++ a.1 ≡ ps ++ p ∷ (o.0 ++ a.1) = ap (λ l. l ++ a.1) o.2 ∙ append_assoc (ps ++ p ∷ []) o.0 a.1 ∙ append_assoc ps (p ∷ []) (o.0 ++ a.1) in
        let v = split u.5 ps (p ∷ (o.0 ++ a.1)) e in
        let same = bytes_one F v.2 m in
        let rest = v.1 in
        (rest, o.0 ++ a.1, a.2 ∙ ap (λ l. before ++ l) (u.3 ∙ ap (λ l. l ++ u.2) o.1 ∙ ap (λ l. own ++ l) (v.4 ∙ ap (λ l. l ++ rest) same) ∙ sym (append_assoc own mid rest)) ∙ sym (append_assoc before (own ++ mid) rest), v.3)

    -- so the whole says nothing if a part says nothing
    pub reached_none : {n : ℕ} {path : List Step} {before : List ℕ} {x : List ℕ} {i : Json} → IsReached F root j n path before (x, i) → (SaysSome F x i → ⊥) → SaysSome F root j → ⊥
    reached_none {x = x} {i = i} r d s =
        let a = reached_says r s.0 s.1 in
        let v = split a.3 ((x, i) ∷ []) a.1 refl in
        d (v.0, v.2)
