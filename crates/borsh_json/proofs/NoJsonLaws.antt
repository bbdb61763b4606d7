-- Names whose values go with bytes in one way: JSON that says them has these bytes.
use Rattle.std.proofs.Common.{◌≡◌, inl, refl, ℕ, List, [], ◌∷◌, ◌++◌, length, Option, Some, sym, ◌∙◌, ap, subst, arith, append_assoc, append-nil, length-append}
use Rattle.borsh_walks.specs.Container.{first}
use Rattle.borsh_values.specs.Nodes.{Opens}
use Rattle.borsh_values.proofs.MemberLaws.{same_front}
use Rattle.borsh_json.specs.{Forms.{Form, tuple, shape_of_form, shapes, HasNoBytes}, Only.{IsOpened, AreOnly, none_only, empty_only, opened_only}, Represents.{HaveBytes, none_left, next_part}, Table.{Kind, Part, Says}}
use Rattle.borsh_json.proofs.{FormKinds.{shaped}, FoundLaws.{zero_part}, Lockstep.{AreBytes, behind, before as bytes_before, defined, Match, no_names, silent, named_so, paired, value_opens}, RepresentsLaws.{kind_one}}

same_rest : (xs ys r s : List ℕ) → xs ++ r ≡ ys ++ s → r ≡ s → xs ≡ ys
same_rest xs ys r s e q =
    let a = ap (λ l. length l) e in
    let b = length-append xs r in
    let c = length-append ys s in
    let d = ap (λ l. length l) q in
    (same_front xs ys r s e (omega (arith, a, b, c, d))).0

module _ (F : List ℕ → Option Form) (tail : List ℕ) where
  -- JSON of these names says the bytes up to the tail
  record IsSaid (xs : List (List ℕ)) (bs : List ℕ) : Type 0 where
    parts : List Part
    bytes : List ℕ
    named : Match F parts xs
    said : HaveBytes F parts bytes
    is : bs ≡ bytes ++ tail

  -- a name without bytes is passed
  empty_passed : {x : List ℕ} {xs : List (List ℕ)} {ps : List Part} {bytes bs : List ℕ} → HasNoBytes F x → Match F ps (x ∷ xs) → HaveBytes F ps bytes → bs ≡ bytes ++ tail → IsSaid xs bs
  empty_passed {ps = ps} {bytes = bytes} z (silent k m) h e = record { parts = ps; bytes = bytes; named = m; said = h; is = e }
  empty_passed z (named_so {j = j} {ps = ps} m) (next_part {bs = bs} kind own qs k s r) e =
      let t = subst (λ (k : Kind). Says F k j own qs) (kind_one F k (inl (z, refl))) s in
      record { parts = ps; bytes = bs; named = m; said = subst (λ (l : List Part). HaveBytes F (l ++ ps) bs) t.2 r; is = e ∙ ap (λ o. (o ++ bs) ++ tail) t.1 }
  empty_passed {x = x} z (paired full c m) h e = absurd (full (zero_part F (shaped (F x) c) z first))

  -- a value is opened
  value_opened : {x own bs bytes all : List ℕ} {parts xs : List (List ℕ)} {ps : List Part} (f : Form) → IsOpened F x f own parts → AreBytes all → Match F ps (x ∷ xs) → HaveBytes F ps bytes → own ++ bs ≡ all → all ≡ bytes ++ tail → IsSaid (parts ++ xs) bs
  value_opened f o small (silent z m) h e is = absurd (o.0 z)
  value_opened {own = own} {bs = bs} {bytes = bytes} {all = all} {xs = xs} {ps = ps} f o small (paired {k = k} {v = v} full c m) h e is =
      let g : Some (tuple (k ∷ v ∷ [])) ≡ Some f = sym c ∙ o.1 in
      let q : tuple (k ∷ v ∷ []) ≡ f = cc in
      let u = o.3 [] (k ∷ v ∷ []) all bs (subst (λ (f : Form). Opens (shapes F) (shape_of_form f) [] (k ∷ v ∷ [])) q (refl, refl)) (sym e) in
      record { parts = ps; bytes = bytes; named = subst (λ l. Match F ps (l ++ xs)) u.2 m; said = h; is = sym u.1 ∙ is }
  value_opened {x = x} {own = own} {bs = bs} {xs = xs} f o small (named_so {j = j} {ps = ps} m) (next_part {bs = cs} kind front qs k s r) e is =
      let whole : AreBytes (front ++ cs) = bytes_before (front ++ cs) tail (subst (λ l. AreBytes l) is small) in
      let w = value_opens F x f kind j front cs qs ps (defined F f o.1 o.0 k) o.1 s r whole in
      let joins : (front ++ w.more) ++ (w.rest ++ tail) ≡ own ++ bs =
      append_assoc front w.more (w.rest ++ tail) ∙ ap (λ l. front ++ l) (sym (append_assoc w.more w.rest tail) ∙ ap (λ l. l ++ tail) (sym w.bytes_are)) ∙ sym (append_assoc front cs tail) ∙ sym is ∙ sym e in
      let u = o.3 (front ++ w.more) w.names (w.rest ++ tail) bs w.opens joins in
      let t = w.said xs m r in
      record { parts = t.1; bytes = w.rest; named = subst (λ l. Match F t.1 (l ++ xs)) u.2 t.3; said = t.4; is = sym u.1 }

  -- values are passed
  values_passed : {ys xs : List (List ℕ)} {mid rest : List ℕ} → AreOnly F ys mid → AreBytes (mid ++ rest) → IsSaid (ys ++ xs) (mid ++ rest) → IsSaid xs rest
  values_passed none_only small s = s
  values_passed (empty_only z a) small s = values_passed a small (empty_passed z.1 s.named s.said s.is)
  values_passed {xs = xs} {rest = rest} (opened_only {bs = bs} {xs = ys} f own parts o a) small s =
      let t = value_opened {own = own} {bs = bs ++ rest} f o small s.named s.said (sym (append_assoc own bs rest)) s.is in
      values_passed a (behind own (bs ++ rest) (subst (λ l. AreBytes l) (append_assoc own bs rest) small)) (subst (λ l. IsSaid l (bs ++ rest)) (sym (append_assoc parts ys xs)) t)

module _ (F : List ℕ → Option Form) where
  nothing_said : {ps : List Part} {bs : List ℕ} → Match F ps [] → HaveBytes F ps bs → bs ≡ []
  nothing_said no_names none_left = refl

  -- the JSON of names whose values are opened in one way has their bytes
  pub exact : (ys : List (List ℕ)) (mid : List ℕ) (ps : List Part) (m t u : List ℕ) → AreOnly F ys mid → Match F ps ys → HaveBytes F ps m → AreBytes (mid ++ u) → m ++ t ≡ mid ++ u → (m ≡ mid) × (t ≡ u)
  exact ys mid ps m t u a n h small e =
      let s = values_passed F t {ys = ys} {xs = []} {mid = mid} {rest = u} a small (record { parts = ps; bytes = m; named = subst (λ l. Match F ps l) (sym (append-nil ys)) n; said = h; is = sym e }) in
      let same : t ≡ u = sym (s.is ∙ ap (λ b. b ++ t) (nothing_said s.named s.said)) in
      (same_rest m mid t u e same, same)
