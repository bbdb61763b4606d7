-- Answers of a walk.
use Rattle.std.proofs.Common.{Bor, ◌≡◌, ℕ, suc, zero, Some, ◌+◌, ◌-◌, ◌<◌, ◌≤◌, List, [], ◌∷◌, ◌++◌, length, take, drop, Ok, Err, refl, sym, ◌∙◌, ap, subst, arith, append_assoc, append-nil, length-append, length-drop, drop-drop, take-add, take-append-drop, length-take-le, inl, inr, ◌^◌, ◌⊎◌}
use Rattle.std.specs.Prelude.{Option, Result, IfOk}
use Rattle.std.proofs.lemmas.Bool.{cases_lt}
use Rattle.borsh_walks.specs.Container.{Shape, primitive, sequence, product, choice, Member, Reached, stays, Rule, tag_too_wide, tag_too_narrow, tag_not_power_of_two, empty_length_range, Breaks, is_empty, is_not_power, is_too_wide, is_too_narrow, is_wide_choice, IsValid}
use Rattle.borsh_walks.specs.RulesAnswer.{KeepsWidths, IsWidth}
use Rattle.borsh_values.specs.declared.faults.Reason.TheVariants.{BytesLeft, TooShort as IsShort, Count, Tag, MissingDefinition, Recursive}
use Rattle.borsh_values.specs.declared.fronts.Front.TheVariants.{Value, TooShort, NoMember, Ambiguous}
use Rattle.borsh_values.specs.declared.members.Membership.TheVariants.{Ambiguous as IsAmbiguous}
use Rattle.borsh_values.specs.declared.{faults.Fault.Fault, faults.Reason.Reason, fronts.Front.Front, members.Membership.Membership}
use Rattle.borsh_values.specs.Membership.{BeginsWith, Refuses, other_count, other_tag, Why, IsWhy, Stops, IsFault, IsFaultAt, StopsAt, IsFront, HasNoFront, IsFrontAnswer, AnswersFront, IsUndecided, IsAnswer, AnswersMembership}
use Rattle.borsh_values.specs.Nodes.{Reads}
use Rattle.borsh_values.specs.Cursor.{NoneBegins, Begun, before}
use Rattle.borsh_values.proofs.MemberLaws.{begun_end}
use Rattle.borsh_values.proofs.TakesLaws.{take_front}
use Rattle.borsh_values.specs.Unambiguous.{IsUnambiguous}

-- ---- answers of the loop over the bytes
-- ---- bytes that are read, and those that are left
pub before_start : (xs : List ℕ) → [] ≡ before xs xs
before_start xs = ap (λ k. take k xs) {x = 0} {y = length xs - length xs} (omega arith)

pub suffix_start : (xs : List ℕ) → xs ≡ drop (length xs - length xs) xs
suffix_start xs = ap (λ k. drop k xs) {x = 0} {y = length xs - length xs} (omega arith)

pub suffix_on : (n : ℕ) (xs ys zs : List ℕ) → length ys ≤ length xs → ys ≡ drop (length xs - length ys) xs → zs ≡ drop n ys → n ≤ length ys → (length zs ≤ length xs) × (zs ≡ drop (length xs - length zs) xs) × (before xs ys ++ take n ys ≡ before xs zs)
suffix_on n xs ys zs low h k within =
    let l : length zs ≡ length ys - n = ap (λ l. length l) k ∙ length-drop n ys in
    let at : length xs - length ys + n ≡ length xs - length zs = omega (arith, l, low, within) in (
      omega (arith, l, low),
      k ∙ ap (λ l. drop n l) h ∙ drop-drop n (length xs - length ys) xs ∙ ap (λ i. drop i xs) at,
      ap (λ l. before xs ys ++ take n l) h ∙ sym (take-add (length xs - length ys) n xs) ∙ ap (λ i. take i xs) at,
    )

pub before_whole : (xs ys : List ℕ) → ys ≡ drop (length xs - length ys) xs → before xs ys ++ ys ≡ xs
before_whole xs ys h = ap (λ l. before xs ys ++ l) h ∙ take-append-drop (length xs - length ys) xs

drop_front : (k : ℕ) (xs ys : List ℕ) → k ≤ length xs → drop k (xs ++ ys) ≡ drop k xs ++ ys
drop_front zero xs ys h = refl
drop_front (suc k) [] ys h = absurd (omega arith)
drop_front (suc k) (x ∷ xs) ys h = drop_front k xs ys (omega arith)

module _ (C : List ℕ → Option Shape) (root bytes : List ℕ) where
  pub at_fault : (f : Fault) {offset : ℕ} {name : List ℕ} {r : Reason} → f.offset ≡ offset → f.name.now ≡ name → f.reason ≡ r → offset ≤ length bytes → Reached C root name → IsWhy C root bytes r offset name → ((r ≡ BytesLeft → ⊥) → Stops C root bytes offset name) → IsFault C root bytes f
  at_fault f {offset} {name} {r} a b c low l w s = record {
    within = omega (arith, a, low);
    reached = subst (λ x. Reached C root x) (sym b) l;
    why = subst (λ r. IsWhy C root bytes r f.offset f.name.now) (sym c) (subst (λ o. IsWhy C root bytes r o f.name.now) (sym a) (subst (λ x. IsWhy C root bytes r offset x) (sym b) w));
    stops = λ k. subst (λ o. Stops C root bytes o f.name.now) (sym a) (subst (λ x. Stops C root bytes offset x) (sym b) (s (λ e. k (c ∙ e))));
  }

-- ---- why no member of a name begins at the bytes that are left
pub refused_why : (C : List ℕ → Option Shape) (r : Reason) (d : Shape) (x left : List ℕ) → C x ≡ Some d → Refuses C r d left → Why C r x left
refused_why C BytesLeft d x left c h = (d, c, h)
refused_why C IsShort d x left c h = (d, c, h)
refused_why C Count d x left c h = (d, c, h)
refused_why C Tag d x left c h = (d, c, h)
refused_why C MissingDefinition d x left c h = elim h [ ]
refused_why C Recursive d x left c h = elim h [ ]

-- more bytes change a reason only where there were too few
more_counts : {C : List ℕ → Option Shape} {d : Shape} (xs ys : List ℕ) → Refuses C Count d xs → Refuses C Count d (xs ++ ys)
more_counts xs ys (other_count {w = w} h f) = let l = length-append xs ys in other_count (omega (arith, l, h)) (λ k low high t. f k low high (t ∙ take_front w xs ys h))

more_tags : {C : List ℕ → Option Shape} {d : Shape} (xs ys : List ℕ) → Refuses C Tag d xs → Refuses C Tag d (xs ++ ys)
more_tags xs ys (other_tag {w = w} h f) = let l = length-append xs ys in other_tag (omega (arith, l, h)) (λ k p a t. f k p a (t ∙ take_front w xs ys h))

why_more : (C : List ℕ → Option Shape) (root bytes : List ℕ) (r : Reason) (offset : ℕ) (x xs ys : List ℕ) → xs ++ ys ≡ drop offset bytes → (r ≡ IsShort → ys ≡ []) → Why C r x xs → IsWhy C root bytes r offset x
why_more C root bytes BytesLeft offset x xs ys e f w = elim w.2 [ ]
why_more C root bytes IsShort offset x xs ys e f w = subst (λ l. Why C IsShort x l) (sym (append-nil xs) ∙ ap (λ l. xs ++ l) (sym (f refl)) ∙ e) w
why_more C root bytes Count offset x xs ys e f w = subst (λ l. Why C Count x l) e (w.0, w.1, more_counts xs ys w.2)
why_more C root bytes Tag offset x xs ys e f w = subst (λ l. Why C Tag x l) e (w.0, w.1, more_tags xs ys w.2)
why_more C root bytes MissingDefinition offset x xs ys e f w = w
why_more C root bytes Recursive offset x xs ys e f w = w

-- no member of a name begins at the bytes that are left
module _ (C : List ℕ → Option Shape) (root bytes rest name : List ℕ) (reason : Reason) (low : length rest ≤ length bytes) (suffix : rest ≡ drop (length bytes - length rest) bytes) (reached : Reached C root name) (others : List (List ℕ)) (next : Reads C (root ∷ []) (before bytes rest) (name ∷ others)) (why : Why C reason name rest) (deny : NoneBegins C reason name rest) (no : NoneBegins C reason root (before bytes rest ++ rest)) where
  no_front : (f : Fault) → IsFaultAt (length bytes) (length rest) name reason f → (more : List ℕ) → (reason ≡ IsShort → more ≡ []) → HasNoFront C root (bytes ++ more) f
  no_front f h more allowed =
      let left : rest ++ more ≡ drop (length bytes - length rest) (bytes ++ more) = ap (λ l. l ++ more) suffix ∙ sym (drop_front (length bytes - length rest) bytes more (omega arith)) in
      record {
        none = λ m. no more allowed (subst (λ l. BeginsWith C root (l ++ more)) (sym (before_whole bytes rest suffix)) m);
        fault = at_fault C root (bytes ++ more) f h.0 h.1 h.2 (let l = length-append bytes more in omega (arith, l)) reached (why_more C root (bytes ++ more) reason (length bytes - length rest) name rest more left allowed why) (λ _. record {
          others = others;
          next = subst (λ l. Reads C (root ∷ []) l (name ∷ others)) (sym (take_front (length bytes - length rest) bytes more (omega arith))) next;
          none = λ m. deny more allowed (subst (λ l. BeginsWith C name l) (sym left) m);
        });
        stops = λ e. elim (subst (λ r. Why C r name rest) (sym h.2 ∙ e) why).2 [ ];
      }

  is_no : (a : Front) → StopsAt (length bytes) (length rest) name reason a → IsFrontAnswer C root bytes a
  is_no (Value n) h = absurd h
  is_no (TooShort f) h = (subst (λ l. HasNoFront C root l f) (append-nil bytes) (no_front f h.0 [] (λ _. refl)), h.0.2 ∙ h.1)
  is_no (NoMember f) h = λ more. no_front f h.0 more (λ e. absurd (h.1 e))
  is_no (Ambiguous x) h = absurd h

  pub answers_no : {E : Type 0} (result : Result Front E) → IfOk result (λ a. StopsAt (length bytes) (length rest) name reason a) → IfOk result (λ a. IsFrontAnswer C root bytes a)
  answers_no (Ok a) h = is_no a h
  answers_no (Err e) h = tt

-- all names are read
pub is_front : (C : List ℕ → Option Shape) (root bytes rest : List ℕ) (n : ℕ) → n ≡ length bytes - length rest → rest ≡ drop (length bytes - length rest) bytes → Begun C root (before bytes rest) [] → IsFront C root bytes n
is_front C root bytes rest n at suffix begun =
    let e = begun_end C begun in
    let same : before bytes rest ≡ take n bytes = ap (λ i. take i bytes) (sym at) in
    record {
      within = omega (arith, at);
      member = subst (λ l. Member C root l) same e.0;
      only = λ xs ys more m h. e.1 xs ys (rest ++ more) m (h ∙ ap (λ l. l ++ more) (sym (before_whole bytes rest suffix)) ∙ append_assoc (before bytes rest) rest more) ∙ same;
    }

-- ---- whether all bytes are the value that they begin with
pub take_whole : (xs : List ℕ) → take (length xs) xs ≡ xs
take_whole [] = refl
take_whole (x ∷ xs) = ap (λ l. x ∷ l) (take_whole xs)

module _ (C : List ℕ → Option Shape) (root bytes : List ℕ) where
  pub all_taken : (n : ℕ) → n ≡ length bytes → IsFront C root bytes n → Member C root bytes
  all_taken n e h = subst (λ l. Member C root l) (ap (λ i. take i bytes) e ∙ take_whole bytes) h.member

  pub some_left : (n : ℕ) → (n ≡ length bytes → ⊥) → IsFront C root bytes n → (f : Fault) → f.offset ≡ n → f.name.now ≡ root → f.reason ≡ BytesLeft → (Member C root bytes → ⊥) × IsFault C root bytes f
  some_left n off h f a b c =
      let low = h.within in (
        (λ m. let k = ap (λ l. length l) (h.only bytes [] [] m refl) ∙ length-take-le n bytes low in off (sym k)),
        at_fault C root bytes f a b c low stays (less n (length bytes) low off, refl, h.member) (λ k. absurd (k refl)),
      )
    where
      less : (n k : ℕ) → n ≤ k → (n ≡ k → ⊥) → n < k
      less n k low off = elim (cases_lt n k) [ inl h ↦ h | inr h ↦ absurd (off (omega (arith, low, h))) ]

  pub stopped : (f : Fault) → HasNoFront C root bytes f → (Member C root bytes → ⊥) × IsFault C root bytes f
  stopped f h = ((λ m. h.none (bytes, [], m, sym (append-nil bytes))), h.fault)

  pub stopped_for_good : (f : Fault) → ((more : List ℕ) → HasNoFront C root (bytes ++ more) f) → (Member C root bytes → ⊥) × IsFault C root bytes f
  stopped_for_good f h = stopped f (subst (λ l. HasNoFront C root l f) (append-nil bytes) (h []))

-- ---- a valid and unambiguous container gets yes or no
module _ (C : List ℕ → Option Shape) where
  module _ {x e : List ℕ} {lo hi : ℕ} (kept : (r : Rule) → Breaks C r x → ⊥) where
    room : (w : ℕ) → C x ≡ Some (sequence w lo hi e) → (w ≡ 1) ⊎ (w ≡ 2) ⊎ (w ≡ 4) → (hi < 256 ^ w → ⊥) → ⊥
    room w c narrow f = elim (cases_lt hi (256 ^ w)) [ inl h ↦ f h | inr h ↦ kept tag_too_narrow (is_too_narrow c narrow h) ]

    width_kept : (w : ℕ) → C x ≡ Some (sequence w lo hi e) → (IsWidth w hi → ⊥) → ⊥
    width_kept zero c f = f (inl refl)
    width_kept (suc zero) c f = room 1 c (inl refl) (λ h. f (inr (inr (inl (refl, h)))))
    width_kept (suc (suc zero)) c f = room 2 c (inr (inl refl)) (λ h. f (inr (inr (inr (inl (refl, h))))))
    width_kept (suc (suc (suc zero))) c f = kept tag_not_power_of_two (is_not_power c (inl refl))
    width_kept (suc (suc (suc (suc zero)))) c f = room 4 c (inr (inr refl)) (λ h. f (inr (inr (inr (inr (refl, h))))))
    width_kept (suc (suc (suc (suc (suc zero))))) c f = kept tag_not_power_of_two (is_not_power c (inr (inl refl)))
    width_kept (suc (suc (suc (suc (suc (suc zero)))))) c f = kept tag_not_power_of_two (is_not_power c (inr (inr (inl refl))))
    width_kept (suc (suc (suc (suc (suc (suc (suc zero))))))) c f = kept tag_not_power_of_two (is_not_power c (inr (inr (inr refl))))
    width_kept (suc (suc (suc (suc (suc (suc (suc (suc zero)))))))) c f = f (inr (inl refl))
    width_kept (suc (suc (suc (suc (suc (suc (suc (suc (suc w))))))))) c f = kept tag_too_wide (is_too_wide c (omega arith))

  shape_kept : {x : List ℕ} (d : Shape) → C x ≡ Some d → ((r : Rule) → Breaks C r x → ⊥) → (KeepsWidths d → ⊥) → ⊥
  shape_kept (primitive n) c kept f = f tt
  shape_kept (sequence w lo hi e) c kept f = elim (cases_lt hi lo) [ inl h ↦ kept empty_length_range (is_empty c h) | inr h ↦ width_kept kept w c (λ k. f (h, k)) ]
  shape_kept (product ps) c kept f = f tt
  shape_kept (choice w vs) c kept f = elim (cases_lt 8 w) [ inl h ↦ kept tag_too_wide (is_wide_choice c h) | inr h ↦ f h ]

  pub none_ambiguous : {root : List ℕ} (x : List ℕ) → IsValid C root → IsUnambiguous C root → IsUndecided C root x → ⊥
  none_ambiguous x valid one h = shape_kept h.0 h.2 (valid x h.1) (h.3 (one x h.0 h.1 h.2))

  pub answers : {root bytes : List ℕ} {E : Type 0} (result : Result Membership E) → IfOk result (λ a. IsAnswer C root bytes a) → AnswersMembership C root bytes result
  answers {root} {bytes} result h = record { answer = h; decided = λ v u. decided bytes v u result h }
    where
      decided : {root : List ℕ} (bytes : List ℕ) {E : Type 0} → IsValid C root → IsUnambiguous C root → (result : Result Membership E) → IfOk result (λ a. IsAnswer C root bytes a) → IfOk result (λ a. (x : Bor (List ℕ)) → a ≡ IsAmbiguous x → ⊥)
      decided {root} bytes v u (Ok a) h = λ x e. none_ambiguous x.now v u (subst (λ a. IsAnswer C root bytes a) e h)
      decided bytes v u (Err e) h = tt

  -- so it gets how the bytes begin
  pub fronts : {root bytes : List ℕ} {E : Type 0} (result : Result Front E) → IfOk result (λ a. IsFrontAnswer C root bytes a) → AnswersFront C root bytes result
  fronts {root} {bytes} result h = record { answer = h; decided = λ v u. decided v u result h }
    where
      decided : {E : Type 0} → IsValid C root → IsUnambiguous C root → (result : Result Front E) → IfOk result (λ a. IsFrontAnswer C root bytes a) → IfOk result (λ a. (x : Bor (List ℕ)) → a ≡ Ambiguous x → ⊥)
      decided v u (Ok a) h = λ x e. none_ambiguous x.now v u (subst (λ a. IsFrontAnswer C root bytes a) e h)
      decided v u (Err e) h = tt
