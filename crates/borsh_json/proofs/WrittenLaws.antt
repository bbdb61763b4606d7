-- What holds of each part of JSON, if it holds of the whole and of its own parts; and parts that were written.
use Rattle.std.proofs.Common.{◌≡◌, ◌⊎◌, inl, inr, ℕ, suc, List, [], ◌∷◌, ◌++◌, Bool, Option, refl, sym, ◌∙◌, subst, ap}
use Rattle.std.specs.{Float.{Format}, List.{AllByRecursion}}
use Rattle.json.specs.Json.{Json, number, string}
use Rattle.borsh_plan.specs.declared.named.Named.{Named}
use Rattle.borsh_json.specs.{declared.kinds.KeyKind.{KeyKind}, declared.kinds.KeyKind.TheVariants.{Text as TextKeys, Number as NumberKeys}, declared.output.LongNumbers.{LongNumbers}, declared.output.LongNumbers.TheVariants.{Quoted}, Forms.{Form}, InOrder.{Step, BeginsParts, IsReached, whole_value, part_of, IsEach}, Leaves.{AreWritten}, Places.{AreKeysOf}, Printed.{IsMarked, QuotesLong}, Represents.{SaysFirst, next_part}, Table.{Keys, numbers, Kind, float, whole, HasKind, Part, Says, key_json}}
use Rattle.borsh_json.proofs.{ReaderLaws.{first_says}, RepresentsLaws.{kind_one}}

-- JSON of a kind, as it is written: a number of 64 bits may be quoted, and a float has a point or an exponent
abbrev pub IsFormed : LongNumbers → Kind → Json → Type 0
IsFormed long kind j = long ≡ Quoted → (s : List ℕ) → j ≡ number s → ((signed non_zero : Bool) → kind ≡ whole 8 signed non_zero → ⊥) × ((f : Format) → kind ≡ float f → IsMarked s)

module _ (F : List ℕ → Option Form) where
  -- JSON whose paths lead to itself, or into one of its parts
  abbrev IsPart : List ℕ → Json → Part → Type 0
  IsPart x i p = (kind : Kind) × (own : List ℕ) × (ps : List Part) × HasKind F x kind × BeginsParts F kind i own (ps ++ p ∷ [])

  abbrev Inward : List ℕ → Json → Part → Type 0
  Inward x i q = (p : Part) × IsPart x i p × (n : ℕ) × (path : List Step) × (before : List ℕ) × IsReached F p.0 p.1 n path before q

  inward : {x : List ℕ} {i : Json} {n : ℕ} {path : List Step} {before : List ℕ} {q : Part} → IsReached F x i n path before q → (q ≡ (x, i)) ⊎ Inward x i q
  inward whole_value = inl refl
  inward {x = x} {i = i} (part_of {x = y} {i = k} {ps = ps} {p = p} kind own steps r h b m s) = elim (inward r) [
    | inl e ↦ (let f : y ≡ x = ap (λ (q : Part). q.0) e in let g : k ≡ i = ap (λ (q : Part). q.1) e in inr (p, (kind, own, ps, subst (λ x. HasKind F x kind) f h, subst (λ (i : Json). BeginsParts F kind i own (ps ++ p ∷ [])) g b), 0, [], [], whole_value))
    | inr t ↦ inr (t.0, t.1, suc t.2, t.3 ++ steps, _, part_of kind own steps t.5 h b m s)
  ]

  module _ (P : List ℕ → Json → Type 0) where
    all_at : (ps : List Part) (p : Part) (more : List Part) → AllByRecursion (λ q. IsEach F P q.0 q.1) ((ps ++ p ∷ []) ++ more) → IsEach F P p.0 p.1
    all_at [] p more a = a.0
    all_at (q ∷ ps) p more a = all_at ps p more a.1

    pub divided : (qs ps : List Part) → AllByRecursion (λ q. IsEach F P q.0 q.1) (qs ++ ps) → AllByRecursion (λ q. IsEach F P q.0 q.1) qs × AllByRecursion (λ q. IsEach F P q.0 q.1) ps
    divided [] ps t = (tt, t)
    divided (q ∷ qs) ps t = let d = divided qs ps t.1 in ((t.0, d.0), d.1)

    -- P holds of each part of JSON, if it does of the whole and of those of its own parts
    pub whole_each : (x : List ℕ) (i : Json) (own : List ℕ) (ds : List Part) → SaysFirst F x i own ds → AllByRecursion (λ q. IsEach F P q.0 q.1) ds → P x i → IsEach F P x i
    whole_each x i own ds s all here n path before y k r = elim (inward r) [
      | inl e ↦ (let g : y ≡ x = ap (λ (q : Part). q.0) e in let h : k ≡ i = ap (λ (q : Part). q.1) e in subst (λ (k : Json). P y k) (sym h) (subst (λ y. P y i) (sym g) here))
      | inr t ↦ (let p = t.0 in
          let b = t.1 in
          let u = first_says F x b.0 i b.1 own (b.2 ++ p ∷ []) ds b.3 b.4 (subst (λ (q : Kind). Says F q i own ds) (kind_one F s.1 b.3) s.2) in
          all_at b.2 p u.0 (subst (λ (l : List Part). AllByRecursion (λ q. IsEach F P q.0 q.1) l) u.2 all) t.2 t.3 t.4 y k t.5)
    ]

  module _ {long : LongNumbers} where
    -- a part is written, behind which its own are, and others
    pub next_written : {x bs : List ℕ} {j : Json} {ps : List Part} (kind : Kind) (own : List ℕ) (qs : List Part) → HasKind F x kind → Says F kind j own qs → IsFormed long kind j → AreWritten F long (qs ++ ps) bs → AreWritten F long ((x, j) ∷ ps) (own ++ bs)
    next_written {x = x} {j = j} {ps = ps} kind own qs h s formed r = (next_part kind own qs h s r.0, λ e. (let d = divided (QuotesLong F) qs ps (r.1 e) in (whole_each (QuotesLong F) x j own qs (kind, h, s) d.0 (quoted e, marked e), d.1)))
      where
        quoted : long ≡ Quoted → (signed non_zero : Bool) → HasKind F x (whole 8 signed non_zero) → (s : List ℕ) × (j ≡ string s)
        quoted e signed non_zero k =
            let q = kind_one F h k in
            let t = subst (λ (kind : Kind). Says F kind j own qs) q s in
            elim t.1 [
              | inl n ↦ absurd ((formed e t.0 n.1).0 signed non_zero q)
              | inr n ↦ (t.0, n.1)
            ]

        marked : long ≡ Quoted → (f : Format) (s : List ℕ) → HasKind F x (float f) → j ≡ number s → IsMarked s
        marked e f s k n = (formed e s n).1 f (kind_one F h k)

    -- keys of 64 bits are strings
    pub key_formed : (ns : List Named) (k : List ℕ) (f : Form) (kind : KeyKind) (keys : Keys) (s : List ℕ) (found : Kind) → AreKeysOf F ns k f kind keys → HasKind F k found → IsFormed long found (key_json keys s)
    key_formed ns k f TextKeys keys s found a h e t n = let q : string s ≡ number t = ap (λ (keys : Keys). key_json keys s) (sym a.0) ∙ n in cc
    key_formed ns k f (NumberKeys m) keys s found a h e t n =
        let one = kind_one F a.1 h in (
          λ signed non_zero q. (let w : whole m.size m.is_signed m.is_non_zero ≡ whole 8 signed non_zero = one ∙ q in
              let size : m.size ≡ 8 = cc in
              let i : string s ≡ number t = ap (λ n. key_json (numbers n) s) (sym size) ∙ ap (λ (keys : Keys). key_json keys s) (sym a.0) ∙ n in
              cc),
          λ f q. (let w : whole m.size m.is_signed m.is_non_zero ≡ float f = one ∙ q in cc),
        )
