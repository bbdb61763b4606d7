use Rattle.std.proofs.{Common.{◌≡◌, ◌∙◌, [], ◌∷◌, true, arith, sym, rules, SFits}, lemmas.Int.{to_z-of_z}, lemmas.Slice.Eq.{bytes_eq-Decides}}
use Rattle.std.specs.Int.{w128}
use Rattle.borsh_json.proofs.{NumberLaws.{zero_refused, signed_none, unsigned_none, signed_beyond, unsigned_beyond, signed_found, unsigned_found}, numbers.Number.rank_of.Goals.{else-self-via-then-self+else-eq, else-self-via-else-self}}
use Rattle.borsh_json.proofs.numbers.Number.rank_of.Goals as goal

pub returns-then-eq : goal.returns-then-eq
returns-then-eq c = λ h.
    let n = c.args.self.now in
    zero_refused n.size n.is_signed n.is_non_zero c.args.text.now h c.if-self.true ((bytes_eq-Decides c.args.text.now (48 ∷ [])).0 (sym c.eq.ensures ∙ c.if-eq.true))

pub returns-in_err-number : goal.returns-in_err-number
returns-in_err-number c = λ h.
    let n = c.args.self.now in
    rw c.from_residual.ensures (signed_none n.size n.is_signed n.is_non_zero c.args.text.now h c.if-self-2.true c.in_err-number.ensures)

pub returns-in_err-number-2 : goal.returns-in_err-number-2
returns-in_err-number-2 c = λ h.
    let n = c.args.self.now in
    rw c.from_residual-in_err-number-2.ensures (unsigned_none n.size n.is_signed n.is_non_zero c.args.text.now h c.if-self-2.false c.in_err-number-2.ensures)

pub returns-then-fits_signed : goal.returns-then-fits_signed
returns-then-fits_signed c = λ h.
    let n = c.args.self.now in
    let f : SFits w128 c.in_ok-number.number = search rules in
    let some : n.is_non_zero ≡ true → c.args.text.now ≡ 48 ∷ [] → ⊥ = elim c.else-self.branch [
      | else-self-via-then-self+else-eq w ↦ (λ t e. (let f = w.if-eq.false in let g = (bytes_eq-Decides c.args.text.now (48 ∷ [])).1 e in let q = w.eq.ensures in cc))
      | else-self-via-else-self w ↦ (λ t e. (let f = w.if-self.false in cc))
    ] in
    let i = simp to_z-of_z at c.fits_signed.ensures in
    let r = simp to_z-of_z at c.signed_rank.ensures in
    signed_found n.size n.is_signed n.is_non_zero c.args.text.now h some c.if-self-2.true c.in_ok-number.number c.in_ok-number.ensures ((i h).0 c.if-fits_signed.true) c.signed_rank.result r

pub returns-else-fits_signed : goal.returns-else-fits_signed
returns-else-fits_signed c = λ h.
    let n = c.args.self.now in
    let f : SFits w128 c.in_ok-number.number = search rules in
    let i = simp to_z-of_z at c.fits_signed.ensures in
    signed_beyond n.size n.is_signed n.is_non_zero c.args.text.now h c.if-self-2.true c.in_ok-number.number f c.in_ok-number.ensures (λ r. (let p = (i h).1 r in let q = c.if-fits_signed.false in cc))

pub returns-then-is_below : goal.returns-then-is_below
returns-then-is_below c = λ h.
    let n = c.args.self.now in
    let some : n.is_non_zero ≡ true → c.args.text.now ≡ 48 ∷ [] → ⊥ = elim c.else-self.branch [
      | else-self-via-then-self+else-eq w ↦ (λ t e. (let f = w.if-eq.false in let g = (bytes_eq-Decides c.args.text.now (48 ∷ [])).1 e in let q = w.eq.ensures in cc))
      | else-self-via-else-self w ↦ (λ t e. (let f = w.if-self.false in cc))
    ] in
    unsigned_found n.size n.is_signed n.is_non_zero c.args.text.now h some c.if-self-2.false c.in_ok-number-2.number c.in_ok-number-2.ensures ((c.is_below.ensures h).0 c.if-is_below.true)

pub returns-else-is_below : goal.returns-else-is_below
returns-else-is_below c = λ h.
    let n = c.args.self.now in
    unsigned_beyond n.size n.is_signed n.is_non_zero c.args.text.now h c.if-self-2.false c.in_ok-number-2.number (omega arith) c.in_ok-number-2.ensures (λ r. (let p = (c.is_below.ensures h).1 r in let q = c.if-is_below.false in cc))
