use Rattle.std.proofs.Common.{rules, ◌≡◌, ℕ, List, Bool, true, false, bytes_eq, codes, drop, length, take, if◌then◌else◌, sym, ap, ◌∙◌, subst}
use Rattle.borsh_tool_commands.proofs.many.unmarked.Goals as goal

pub returns-in-Some : goal.returns-in-Some
returns-in-Some c =
    let text = c.args.text.now in
    let mark : c.as_slice.result.now ≡ codes "0x" = search rules in
    let h = subst (λ (q : List ℕ). (bytes_eq (take (length q) text) q ≡ true) × (c.in-Some.digits.now ≡ drop (length q) text)) mark (c.in-Some.ensures.cases.0, c.in-Some.ensures.cases.1) in
    h.1 ∙ sym (ap (λ (b : Bool). if b then drop 2 text else text) h.0)

pub returns-in-None : goal.returns-in-None
returns-in-None c =
    let text = c.args.text.now in
    let mark : c.as_slice.result.now ≡ codes "0x" = search rules in
    let h = subst (λ (q : List ℕ). bytes_eq (take (length q) text) q ≡ false) mark c.in-None.ensures.cases in
    sym (ap (λ (b : Bool). if b then drop 2 text else text) h)
