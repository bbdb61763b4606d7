-- The steps of the walk over the reached names.
use Rattle.std.proofs.Common.{◌≡◌, ℕ, suc, ◌+◌, ◌<◌, List, [], ◌∷◌, length, drop, sym, ◌∙◌, ap, subst, arith, Some, None, Bool, ◌⊎◌, inl, inr}
use Rattle.std.specs.Prelude.{Option, slice_get}
use Rattle.std.specs.Borrow.{Bor}
use Rattle.std.specs.BTreeMap.{BTreeMap}
use Rattle.borsh_walks.specs.Container.{Shape, IsIn, IsDefined, first, later, Rule, Breaks, Reached, references, stays, onward}
use Rattle.borsh_walks.specs.Definitions.{spot_shape}
use Rattle.borsh_walks.specs.Counts.{add_to}
use Rattle.borsh_walks.specs.ZeroAnswer.{ZeroTable}
use Rattle.borsh_walks.specs.Tables.{mark_of, IsMarked}
use Rattle.borsh_walks.specs.RulesAnswer.{checked_element, ElementMarked, ElementReaches, ZeroSizeReaches}
use Rattle.borsh_walks.specs.RulesState.{RulesState, AllSpots, pending}
use Rattle.borsh_walks.specs.declared.counted.Question.TheVariants.{Zero as ZeroQuestion, Rules}
use Rattle.borsh_walks.specs.declared.counted.Expansions.{Expansions}
use Rattle.borsh_walks.specs.declared.stack.Spot.{Spot}
use Rattle.borsh_walks.proofs.Laws.{one_definition}
use Rattle.borsh_walks.proofs.Names.{drop_end, drop_next, next_below, among_get, among_append, among_left, among_right, among_one}
use Rattle.borsh_walks.proofs.Tables.{Updated, marks_none, marks_start, marks_more, has_mark}
use Rattle.borsh_walks.proofs.Spots.{moved}
use Rattle.borsh_walks.proofs.Counting.{raised-more}

pub both_more : (j k : ℕ) (a b e : Expansions) → a ≡ add_to Rules j (add_to ZeroQuestion k e) → b ≡ add_to Rules 1 a → b ≡ add_to ZeroQuestion k (add_to Rules (suc j) e)
both_more j k a b e p q = q ∙ ap (λ s. add_to Rules 1 s) p ∙ ap (λ s. add_to ZeroQuestion k (record e { rules = s })) (raised-more e.rules j)

-- the names that a look at the definition of a reached name counts for zero size
pub zeros_known : (C : List ℕ → Option Shape) (root : List ℕ) (u : BTreeMap (Bor (List ℕ)) Bool) {zs : List (List ℕ)} (y : List ℕ) (d : Shape) → Reached C root y → C y ≡ Some d → ((x : List ℕ) → IsMarked u x → ZeroSizeReaches C root x) → ((x : List ℕ) → IsIn x zs → IsDefined C x × (IsMarked u x ⊎ ElementReaches C d x)) → (x : List ℕ) → IsIn x zs → ZeroSizeReaches C root x × IsDefined C x
zeros_known C root u y d r e before known x a = let k = known x a in (from k.1, k.0)
  where
    from : IsMarked u x ⊎ ElementReaches C d x → ZeroSizeReaches C root x
    from (inl m) = before x m
    from (inr l) = (y, d, r, e, l)

module _ (C : List ℕ → Option Shape) (root : List ℕ) {M : Type 0} where
  -- a name is seen: it is reached, has a definition and keeps its rules
  pub rules_visit : {seen sn : List ℕ → Option M} {m : M} {j k : ℕ} {stack wn : List Spot} {zeros zn : BTreeMap (Bor (List ℕ)) Bool} (g : Spot) → RulesState C root (g.name.now ∷ []) seen j stack zeros → Reached C root g.name.now → seen g.name.now ≡ None → C g.name.now ≡ Some (spot_shape g) → ((r : Rule) → Breaks C r g.name.now → ⊥) → ZeroTable C zn → ((x : List ℕ) → IsMarked zn x → ZeroSizeReaches C root x) → ElementMarked C (spot_shape g) zeros zn → Updated seen sn g.name.now m → k ≡ suc j → g.next ≡ 0 → wn ≡ g ∷ stack → RulesState C root [] sn k wn zn
  rules_visit {stack = stack} {zeros = zeros} {zn = zn} g s reached none c keeps table leads marks u len next pushed =
      record {
        names = g.name.now ∷ s.names;
        marks = marks_more s.marks u none (reached, keeps, (spot_shape g, c));
        len = len ∙ ap (λ k. suc k) s.len;
        spots = subst (λ l. AllSpots C root l) (sym pushed) ((c, reached, omega (arith, next)), s.spots);
        closed = λ x d y a e m. subst (λ l. IsIn y (g.name.now ∷ s.names) ⊎ IsIn y [] ⊎ IsIn y (pending l)) (sym pushed) (closed_new x d y a e m);
        zero = table;
        zeros_reached = leads;
        elements = λ x d e a q k f. elements_new x d e a q k f;
      }
    where
      closed_new : (x : List ℕ) (d : Shape) (y : List ℕ) → IsIn x (g.name.now ∷ s.names) → C x ≡ Some d → IsIn y (references d) → IsIn y (g.name.now ∷ s.names) ⊎ IsIn y [] ⊎ IsIn y (pending (g ∷ stack))
      closed_new x d y first e m = inr (inr (among_left (drop g.next (references (spot_shape g))) (pending stack) (subst (λ k. IsIn y (drop k (references (spot_shape g)))) (sym next) (subst (λ h. IsIn y (references h)) (one_definition e c) m))))
      closed_new x d y (later a) e m = elim (s.closed x d y a e m) [ inl b ↦ inl (later b) | inr b ↦ (elim b [ inl h ↦ inl (at_one h) | inr h ↦ inr (inr (among_right (drop g.next (references (spot_shape g))) (pending stack) h)) ]) ]
        where
          at_one : {z n : List ℕ} {xs : List (List ℕ)} → IsIn z (n ∷ []) → IsIn z (n ∷ xs)
          at_one first = first
          at_one (later h) = elim h [ ]

      elements_new : (x : List ℕ) (d : Shape) (e : List ℕ) → IsIn x (g.name.now ∷ s.names) → C x ≡ Some d → checked_element d ≡ Some e → (C e ≡ None → ⊥) → mark_of zn e ≡ None → ⊥
      elements_new x d e first q k f = marks.1 e (ap checked_element (sym (one_definition q c)) ∙ k) f
      elements_new x d e (later a) q k f = marks.0 e (s.elements x d e a q k f)

no_one : {z : List ℕ} → IsIn z [] → ⊥
no_one b = elim b [ ]

pub empty_table : (C : List ℕ → Option Shape) (m : BTreeMap (Bor (List ℕ)) Bool) → m.entries ≡ [] → ZeroTable C m
empty_table C m e = record {
  names = [];
  marks = marks_start (marks_none m e);
  len = ap length e;
  zero_is = λ x h. let n = marks_none m e x in cc;
  not_zero_is = λ x h. let n = marks_none m e x in cc;
}

or_first : {x p : List ℕ} {xs : List (List ℕ)} → IsIn x (p ∷ xs) → IsIn x (p ∷ []) ⊎ IsIn x xs
or_first first = inl first
or_first (later a) = inr a

module _ (C : List ℕ → Option Shape) (root : List ℕ) {M : Type 0} {seen : List ℕ → Option M} {n : ℕ} where
  pub rules_reached : {zeros : BTreeMap (Bor (List ℕ)) Bool} (fs : List Spot) (f : Spot) (p : List ℕ) {extra : List (List ℕ)} → RulesState C root extra seen n (f ∷ fs) zeros → slice_get (references (spot_shape f)) f.next ≡ Some p → Reached C root p
  rules_reached fs f p s e = onward (spot_shape f) s.spots.0.1 s.spots.0.0 (among_get (references (spot_shape f)) f.next e)

  -- a name whose references are all seen leaves the stack
  pub rules_pop : {zeros : BTreeMap (Bor (List ℕ)) Bool} (fs : List Spot) (f : Spot) → RulesState C root [] seen n (f ∷ fs) zeros → slice_get (references (spot_shape f)) f.next ≡ None → RulesState C root [] seen n fs zeros
  rules_pop fs f s e = record {
    names = s.names;
    marks = s.marks;
    len = s.len;
    spots = s.spots.1;
    closed = λ x d y a q m. elim (s.closed x d y a q m) [ inl b ↦ inl b | inr b ↦ (elim b [ inl c ↦ inr (inl c) | inr c ↦ at_last y c ]) ];
    zero = s.zero;
    zeros_reached = s.zeros_reached;
    elements = s.elements;
  }
    where
      at_last : (y : List ℕ) → IsIn y (pending (f ∷ fs)) → IsIn y s.names ⊎ IsIn y [] ⊎ IsIn y (pending fs)
      at_last y c = elim (among_append (drop f.next (references (spot_shape f))) (pending fs) c) [ inl b ↦ inr (inl (subst (λ l. IsIn y l) (drop_end (references (spot_shape f)) f.next e) b)) | inr b ↦ inr (inr b) ]

  -- its next reference is taken off the stack
  pub rules_take : {zeros : BTreeMap (Bor (List ℕ)) Bool} (fs wn : List Spot) (f : Spot) (p : List ℕ) → RulesState C root [] seen n (f ∷ fs) zeros → slice_get (references (spot_shape f)) f.next ≡ Some p → wn ≡ moved f ∷ fs → RulesState C root (p ∷ []) seen n wn zeros
  rules_take fs wn f p s e pushed = record {
    names = s.names;
    marks = s.marks;
    len = s.len;
    spots = subst (λ l. AllSpots C root l) (sym pushed) ((s.spots.0.0, s.spots.0.1, omega (arith, below)), s.spots.1);
    closed = λ x d y a q m. elim (s.closed x d y a q m) [ inl b ↦ inl b | inr b ↦ (elim b [ inl c ↦ absurd (no_one c) | inr c ↦ subst (λ l. IsIn y s.names ⊎ IsIn y (p ∷ []) ⊎ IsIn y (pending l)) (sym pushed) (at_last y c) ]) ];
    zero = s.zero;
    zeros_reached = s.zeros_reached;
    elements = s.elements;
  }
    where
      below : f.next < length (references (spot_shape f))
      below = next_below (references (spot_shape f)) f.next p e

      rest : List (List ℕ)
      rest = drop (f.next + 1) (references (spot_shape f))

      cut : drop f.next (references (spot_shape f)) ≡ p ∷ rest
      cut = drop_next (references (spot_shape f)) f.next e

      at_last : (y : List ℕ) → IsIn y (pending (f ∷ fs)) → IsIn y s.names ⊎ IsIn y (p ∷ []) ⊎ IsIn y (pending (moved f ∷ fs))
      at_last y c = elim (among_append (drop f.next (references (spot_shape f))) (pending fs) c) [
        | inl b ↦ inr (elim (or_first (subst (λ l. IsIn y l) cut b)) [ inl h ↦ inl h | inr h ↦ inr (among_left rest (pending fs) h) ])
        | inr b ↦ inr (inr (among_right rest (pending fs) b))
      ]

  -- a reference that was seen before
  pub rules_seen : {zeros : BTreeMap (Bor (List ℕ)) Bool} {stack : List Spot} (p : List ℕ) → RulesState C root (p ∷ []) seen n stack zeros → (seen p ≡ None → ⊥) → RulesState C root [] seen n stack zeros
  rules_seen p s f = record {
    names = s.names;
    marks = s.marks;
    len = s.len;
    spots = s.spots;
    closed = λ x d y a q m. elim (s.closed x d y a q m) [ inl b ↦ inl b | inr b ↦ (elim b [ inl c ↦ inl (subst (λ z. IsIn z s.names) (sym (among_one c)) (s.marks.marked p (has_mark (seen p) f).0 (has_mark (seen p) f).1)) | inr c ↦ inr (inr c) ]) ];
    zero = s.zero;
    zeros_reached = s.zeros_reached;
    elements = s.elements;
  }

  -- nothing is seen yet
  pub rules_start : (zeros : BTreeMap (Bor (List ℕ)) Bool) (stack : List Spot) → ((x : List ℕ) → seen x ≡ None) → n ≡ 0 → zeros.entries ≡ [] → stack ≡ [] → RulesState C root (root ∷ []) seen n stack zeros
  rules_start zeros stack e few z w = record {
    names = [];
    marks = marks_start e;
    len = few;
    spots = subst (λ l. AllSpots C root l) (sym w) tt;
    closed = λ x d y a. elim a [ ];
    zero = empty_table C zeros z;
    zeros_reached = λ x k. absurd (k (marks_none zeros z x));
    elements = λ x d k a. elim a [ ];
  }

  pub rules_all : {zeros : BTreeMap (Bor (List ℕ)) Bool} (stack : List Spot) (s : RulesState C root [] seen n stack zeros) → stack ≡ [] → (seen root ≡ None → ⊥) → {x : List ℕ} → Reached C root x → IsIn x s.names
  rules_all stack s w f stays = s.marks.marked root (has_mark (seen root) f).0 (has_mark (seen root) f).1
  rules_all stack s w f (onward {y = y} {z = z} d l q a) =
      let go : IsIn z s.names ⊎ IsIn z [] ⊎ IsIn z (pending stack) → IsIn z s.names =
      elim [ inl b ↦ b | inr b ↦ (elim b [ inl c ↦ absurd (no_one c) | inr c ↦ absurd (no_one (subst (λ l. IsIn z (pending l)) w c)) ]) ] in
      go (s.closed y d z (rules_all stack s w f l) q a)
