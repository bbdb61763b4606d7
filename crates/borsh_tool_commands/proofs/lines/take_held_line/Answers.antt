use Rattle.std.proofs.Common.{arith, ◌≡◌, ◌≢◌, ℕ, ◌-◌, ◌<◌, List, get_or, length, take, drop, refl, ap, ◌∙◌, subst}
use Rattle.std.proofs.lemmas.List.{take_rest}
use Rattle.borsh_io.specs.Buffered.{held}
use Rattle.borsh_tool_commands.proofs.LineLaws.{line-at, no-feed}
use Rattle.borsh_tool_commands.proofs.lines.take_held_line.Goals as goal

pub returns-then-length-rest-clause-none : goal.returns-then-length-rest-clause-none
returns-then-length-rest-clause-none g c =
    let s = c.args.searched in
    let n = c.line_length-length.result in
    let X = c.held.result.now in
    let rest : take (length X - s) (drop s X) ≡ drop s (held c.args.input.now) = take_rest X s ∙ ap (drop s) c.held.ensures in
    let before = subst (λ (ys : List ℕ). (k : ℕ) → k < n → get_or ys k 0 ≢ 10) rest c.line_length-length.ensures.before in
    let all : n ≡ length (drop s (held c.args.input.now)) = omega (arith, ap length rest) in
    λ _. (no-feed (held c.args.input.now) s n c.requires.none all before, refl)

pub returns-clause-found : goal.returns-clause-found
returns-clause-found g c =
    let s = c.args.searched in
    let n = c.line_length-length.result in
    let X = c.held.result.now in
    let rest : take (length X - s) (drop s X) ≡ drop s (held c.args.input.now) = take_rest X s ∙ ap (drop s) c.held.ensures in
    let before = subst (λ (ys : List ℕ). (k : ℕ) → k < n → get_or ys k 0 ≢ 10) rest c.line_length-length.ensures.before in
    let within : n < length (drop s (held c.args.input.now)) = omega (arith, ap length rest) in
    let at = subst (λ (ys : List ℕ). n < length ys → get_or ys n 0 ≡ 10) rest c.line_length-length.ensures.found within in
    λ _. line-at (held c.args.input.now) s n c.requires.none within before at _ _ c.take.ensures.piece c.take.ensures.held
