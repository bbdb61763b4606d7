-- The order of keys, by the numbers that order them.
use Rattle.std.proofs.{Common.{◌≡◌, inl, inr, ℕ, ◌≤◌, Bool, true, false, List, Option, Decides, refl, sym, ◌∙◌, ap, arith, nat_lt, nat_cmp, Less, Equal, Greater}, lemmas.Bool.{cases_lt}, lemmas.Bool.Decides.{nat_tests}}
use Rattle.std.specs.Cmp.{nat_cmp_is}
use Rattle.json.specs.Json.{Json}
use Rattle.borsh_plan.specs.declared.named.Named.{Named}
use Rattle.borsh_json.specs.{declared.kinds.KeyKind.{KeyKind}, declared.kinds.KeyKind.TheVariants.{Text as TextKeys, Number as NumberKeys}, declared.sources.EntryKey.TheVariants.{Rank}, Forms.{Form}, Frames.{IsEntryKey}, Places.{AreKeysOf}, Table.{Keys, key_order}}
use Rattle.borsh_json.proofs.{NumberLaws.{ranks_compare}, RepresentsLaws.{kind_small}}

not_less : (q r : ℕ) → r ≤ q → nat_cmp q r ≡ Less → ⊥
not_less q r h e = elim (cases_lt r q) [
  | inl l ↦ (let g : Greater ≡ Less = nat_cmp_is q r Greater l ∙ e in cc)
  | inr l ↦ (let s : q ≡ r = omega arith in let g : Equal ≡ Less = nat_cmp_is q r Equal s ∙ e in cc)
]

less_decides : (q r : ℕ) (b : Bool) → nat_lt q r ≡ b → Decides b (nat_cmp q r ≡ Less)
less_decides q r true e = (λ t. sym (nat_cmp_is q r Less (grind (arith, nat_tests))), λ l. refl)
less_decides q r false e = (λ t. cc, λ l. absurd (not_less q r (grind (arith, nat_tests)) l))

pub rank_above : (F : List ℕ → Option Form) (ns : List Named) (k : List ℕ) (f : Form) (kind : KeyKind) (keys : Keys) (s t : List ℕ) (i j : Json) (q r : ℕ) → AreKeysOf F ns k f kind keys → IsEntryKey kind (Rank q) s → IsEntryKey kind (Rank r) t → Decides (nat_lt q r) (key_order keys (s, i) (t, j) ≡ Less)
rank_above F ns k f TextKeys keys s t i j q r a l m = absurd l
rank_above F ns k f (NumberKeys n) keys s t i j q r a l m =
    let e = ranks_compare n.size n.is_signed n.is_non_zero s t q r (kind_small F a.1 n.size n.is_signed n.is_non_zero refl) l m in
    let d = less_decides q r (nat_lt q r) refl in
    let same = e ∙ ap (λ (keys : Keys). key_order keys (s, i) (t, j)) (sym a.0) in
    (λ h. sym same ∙ d.0 h, λ h. d.1 (same ∙ h))
