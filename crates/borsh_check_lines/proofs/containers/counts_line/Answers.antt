use Rattle.std.proofs.Common.{◌≡◌, ◌∙◌, rules, arith}
use Rattle.std.proofs.lemmas.Result.{IfOk-weaker}
use Rattle.borsh_check_lines.specs.Containers.{counts_text}
use Rattle.borsh_check_lines.proofs.Asked.{line_of_counts}
use Rattle.borsh_check_lines.proofs.containers.counts_line.Goals as goal

pub returns-clause-line : goal.returns-clause-line
returns-clause-line c =
    let t : c.as_bytes.result.now ≡ counts_text c.args.counts = search rules in
    IfOk-weaker c.line_of.result _ _ (λ out e. line_of_counts c.args.counts (omega arith) (omega arith) (omega arith) (e ∙ t)) c.line_of.ensures
