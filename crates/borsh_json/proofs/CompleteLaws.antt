-- Where bytes that JSON says are refused, an element of it falls, or they nest too deep.
use Rattle.std.proofs.Common.{◌≡◌, ◌⊎◌, inl, inr, ℕ, suc, List, [], ◌∷◌, ◌++◌, Option, Some, refl, sym, ◌∙◌, subst}
use Rattle.json.specs.Json.{Json, null}
use Rattle.borsh_json.specs.{declared.error.JsonError.{JsonError}, declared.error.JsonError.TheVariants.{OutOfMemory, NoMember, NoValue, Ambiguous, NotJson, Refused}, declared.error.Refusal.{Refusal}, declared.error.Refusal.TheVariants.{TooDeep, RepeatedName, EmptyElements, NotBool, NotUtf8, Zero, NotNumber, Descends, Expected, MissingField, UnknownName, RepeatedKey, Undefined}, Descents.{HasDescent}, Forms.{Form, tuple}, InOrder.{Step, IsReached, Falls, InOrder, IsRepresented}, Inside.{IsInside}, NoJson.{IsNoJson, IsAbout, HasNoJsonPart, IsOutOfOrder, RefusesBytes}, NoValue.{FailsAt, IsGivenUp, path_steps}, Represents.{HaveBytes, next_part}, Table.{Kind, no_bytes, row, DefinedKind, HasKind, Part}, Writes.{Stops}}
use Rattle.borsh_json.proofs.{DescentJson.{falls_there}, FoundLaws.{full_list}, Lockstep.{AreBytes, behind}, OrderLaws.{clash}, ReachedLaws.{HasParts, nothing, part, entry, IsThere, inside_there}, ReaderLaws.{uncons}}

-- ---- refusals
module _ (F : List ℕ → Option Form) {x : List ℕ} where
  -- a tuple is a row, or has no bytes
  tuple_kind : {ps : List (List ℕ)} {kind : Kind} → F x ≡ Some (tuple ps) → HasKind F x kind → (kind ≡ no_bytes) ⊎ (kind ≡ row ps)
  tuple_kind c (inl z) = inl z.1
  tuple_kind {ps = ps} {kind = kind} c (inr h) =
      let g : Some h.1 ≡ Some (tuple ps) = sym h.2 ∙ c in
      let e : h.1 ≡ tuple ps = cc in
      inr (subst (λ (d : Form). DefinedKind F x d kind) e h.3)

  -- none is refused
  no_tuple : (r : Refusal) {ps : List (List ℕ)} → IsAbout F r x → F x ≡ Some (tuple ps) → ⊥
  no_tuple TooDeep a c = a
  no_tuple (RepeatedName name) (inl a) c = elim (tuple_kind c a.1) [ inl e ↦ cc | inr e ↦ cc ]
  no_tuple (RepeatedName name) (inr a) c = elim (tuple_kind c a.2) [ inl e ↦ cc | inr e ↦ cc ]
  no_tuple EmptyElements a c = clash (F x) c a.4 (λ q. cc)
  no_tuple NotBool a c = elim (tuple_kind c a) [ inl e ↦ cc | inr e ↦ cc ]
  no_tuple NotUtf8 a c = elim (tuple_kind c a.1) [ inl e ↦ cc | inr e ↦ cc ]
  no_tuple Zero a c = elim (tuple_kind c a.2) [ inl e ↦ cc | inr e ↦ cc ]
  no_tuple NotNumber a c = elim (tuple_kind c a.1) [ inl e ↦ cc | inr e ↦ cc ]
  no_tuple Descends a c = a
  no_tuple (Expected wanted) a c = a
  no_tuple MissingField a c = a
  no_tuple (UnknownName name) a c = a
  no_tuple (RepeatedKey name) a c = a
  no_tuple (Undefined name) a c = a

module _ (F : List ℕ → Option Form) (root bytes : List ℕ) (j : Json) (small : AreBytes bytes) (says : HaveBytes F ((root, j) ∷ []) bytes) where
  -- the JSON says each value that begins inside
  value_there : {n : ℕ} {path : List Step} {before x : List ℕ} (rest : List ℕ) → IsInside F root n path before x → bytes ≡ before ++ rest → IsThere F root j path before x rest
  value_there rest i e = inside_there F root j i rest (subst (λ l. AreBytes l) e small) (subst (λ l. HaveBytes F ((root, j) ∷ []) l) e says)

  -- but none that no JSON can say
  not_said : {path : List Step} {before x : List ℕ} {qs : List Part} (ps : List Part) (own after : List ℕ) → IsNoJson F x own → ((ps : List (List ℕ)) → F x ≡ Some (tuple ps) → ⊥) → HasParts F root j path before x qs → HaveBytes F (qs ++ ps) (own ++ after) → ⊥
  not_said ps own after n p (nothing z) h = n null ps after (next_part no_bytes [] [] (inl (z, refl)) (refl, refl, refl) h)
  not_said ps own after n p (part {i = i} m r) h = n i ps after h
  not_said ps own after n p (entry {k = k} {v = v} m c r g) h = p (k ∷ v ∷ []) c

  no_part : (path : List Step) (r : Refusal) → HasNoJsonPart F root bytes path r → ⊥
  no_part path r h =
      let s = value_there (h.3 ++ h.4) h.7 h.6 in
      elim h.8 [
        | inl a ↦ not_said s.others h.3 h.4 a.1.1 (λ ps c. no_tuple F r a.1.0 c) s.has s.said
        | inr a ↦ not_said s.others h.3 h.4 a.2.9 (λ ps c. elim (tuple_kind F c a.2.5) [ inl e ↦ cc | inr e ↦ cc ]) s.has s.said
      ]

  -- an element of it falls where it isn't above the one before it in the bytes
  pub descends : (path : List Step) → IsOutOfOrder F root bytes path → FailsAt F root j path Descends
  descends path h =
      let s = value_there h.4 h.8 h.7 in
      let f = falls s.others s.has s.said h.9 in
      (f.0, h.1, suc h.2, h.3, h.5, f.1, h.6, f.2, f.3)
    where
      falls : {qs : List Part} (ps : List Part) → HasParts F root j h.1 h.3 h.5 qs → HaveBytes F (qs ++ ps) h.4 → HasDescent F h.5 h.4 h.2 → (n : ℕ) × (i : Json) × IsReached F root j n h.1 h.3 (h.5, i) × Falls F h.5 i (suc h.2)
      falls ps (nothing z) b d = absurd (full_list F d.keys.0 z)
      falls ps (entry n c r g) b d = absurd (clash (F h.5) c d.keys.0 (λ q. cc))
      falls ps (part {i = i} n r) b d =
          let u = uncons F b in
          (n, i, r, falls_there F h.5 i u.0 u.2 u.1 ps u.4.0 u.4.1 u.4.2 u.5 (subst (λ l. AreBytes l) u.3 (behind h.3 h.4 (subst (λ l. AreBytes l) h.7 small))) h.2 (subst (λ l. HasDescent F h.5 l h.2) u.3 d))

  refused : (path : List Step) (r : Refusal) → RefusesBytes F root bytes path r → InOrder F root j → r ≡ TooDeep
  refused path TooDeep h o = refl
  refused path Descends h o = let a = descends path h in absurd (o a.0 a.1 a.3 a.4 a.5 a.7 a.2 a.8)
  refused path (RepeatedName name) h o = absurd (no_part path (RepeatedName name) h)
  refused path EmptyElements h o = absurd (no_part path EmptyElements h)
  refused path NotBool h o = absurd (no_part path NotBool h)
  refused path NotUtf8 h o = absurd (no_part path NotUtf8 h)
  refused path Zero h o = absurd (no_part path Zero h)
  refused path NotNumber h o = absurd (no_part path NotNumber h)
  refused path (Expected wanted) h o = absurd (no_part path (Expected wanted) h)
  refused path MissingField h o = absurd (no_part path MissingField h)
  refused path (UnknownName name) h o = absurd (no_part path (UnknownName name) h)
  refused path (RepeatedKey name) h o = absurd (no_part path (RepeatedKey name) h)
  refused path (Undefined name) h o = absurd (no_part path (Undefined name) h)

-- what some JSON represents is only given up
pub given_up : (F : List ℕ → Option Form) (root bytes : List ℕ) (e : JsonError) → AreBytes bytes → Stops F root bytes e → IsRepresented F root bytes → IsGivenUp e
given_up F root bytes OutOfMemory small s t = tt
given_up F root bytes (NoMember f) small s t = s
given_up F root bytes NoValue small s t = s
given_up F root bytes (Ambiguous x) small s t = tt
given_up F root bytes (NotJson offset) small s t = s
given_up F root bytes (Refused path r) small s t = refused F root bytes t.1.0 small t.1.2 (path_steps path) r s.1 t.1.4
