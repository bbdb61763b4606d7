use Rattle.std.proofs.{Common.{◌≡◌, ℕ, ◌-◌, ◌≤◌, List, [], ◌∷◌, ◌++◌, length, slice_set, ap, append-nil, arith, subst, OnOk, ◌∙◌}, lemmas.List.{drop_all}}
use Rattle.hex.specs.Hex.{encode_lower}
use borrow.Rule.Slice.PartMut.{post_of, put_mid}
use Rattle.borsh_json.proofs.leaves.spell.Goals as goal

-- all behind the first two were written
spelled : (ts ys : List ℕ) → 2 ≤ length ts → put_mid 2 (length (slice_set (slice_set ts 0 48) 1 120) - 2) (slice_set (slice_set ts 0 48) 1 120) ys ≡ 48 ∷ 120 ∷ ys
spelled [] ys h = absurd (omega arith)
spelled (a ∷ []) ys h = absurd (omega arith)
spelled (a ∷ b ∷ ts) ys h =
    let e : length (48 ∷ 120 ∷ ts) - 2 ≡ length ts = omega arith in
    let none : post_of 2 (length (48 ∷ 120 ∷ ts) - 2) (48 ∷ 120 ∷ ts) ≡ [] = ap (λ k. post_of 2 k (48 ∷ 120 ∷ ts)) e ∙ drop_all (length ts) ts (omega arith) in
    ap (λ l. 48 ∷ 120 ∷ (ys ++ l)) none ∙ ap (λ l. 48 ∷ 120 ∷ l) (append-nil ys)

pub returns : goal.returns
returns c =
    let l = c.requires in
    let e = c.unwrap.ensures in
    let o = c.encode_to_slice.ensures.written in
    spelled c.args.text.now c.encode_to_slice.new.output (omega (arith, l)) ∙ ap (λ l. 48 ∷ 120 ∷ l) (subst (λ r. OnOk r (c.encode_to_slice.new.output ≡ encode_lower c.args.own.now)) e o)
