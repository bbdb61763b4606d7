use Rattle.std.proofs.Common.{◌≡◌, ℕ, ◌+◌, ◌-◌, ◌/◌, ◌%◌, ◌≤◌, false, List, ◌++◌, sym, ◌∙◌, ap, subst, append_assoc, ne_eqb, le-ltb, OnOk}
use Rattle.borsh_json.specs.Ascii.{AddsText, character_text, is_plain, unit_text}
use Rattle.borsh_json.proofs.ascii.put_character.Goals as goal

pair_text : (c : ℕ) → is_plain c ≡ false → (c ≡ 9 → ⊥) → (c ≡ 13 → ⊥) → 65536 ≤ c → character_text c ≡ unit_text (55296 + (c - 65536) / 1024) ++ unit_text (56320 + c % 1024)
pair_text c p q r h = rw (p, ne_eqb c 9 q, ne_eqb c 13 r, le-ltb c 65536 h)

pub returns : goal.returns
returns c =
    let x = c.from-number.result in
    let old = c.args.text.now.items in
    let new = c.put_unit-3.new.text.items in
    let high = unit_text (55296 + (x - 65536) / 1024) in
    let low = unit_text (56320 + x % 1024) in
    let p : is_plain x ≡ false = cc in
    let pair = pair_text x p c.if-number-eq9.false c.if-number-eq13.false c.if-number-lt65536.false in
    let e = ap (λ l. l ++ low) c.in_ok-put_unit.ensures ∙ append_assoc old high low ∙ ap (λ l. old ++ l) (sym pair) in
    subst (λ k. AddsText (character_text k) old new c.put_unit-3.result) c.from-number.ensures (subst (λ (l : List ℕ). OnOk c.put_unit-3.result (new ≡ l)) e c.put_unit-3.ensures)
