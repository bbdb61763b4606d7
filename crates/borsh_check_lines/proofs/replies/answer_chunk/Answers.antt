use Rattle.std.proofs.Common.{rules, ◌≡◌}
use Rattle.borsh_check_lines.specs.Answers.{Answers}
use Rattle.borsh_check_lines.proofs.LineSteps.{chunk-none, chunk-byte, chunk-feed, chunk-stops}
use Rattle.borsh_check_lines.proofs.replies.answer_chunk.Goals as goal

pub loop-byte-init : goal.loop-byte-init
loop-byte-init c = chunk-none {answers = Answers} _ _ _

pub returns-in_err-push : goal.returns-in_err-push
returns-in_err-push c =
    let line : c.push.new.self.items ≡ c.loop-byte.line.items = c.in_err-push.ensures.items in
    rw line (chunk-stops c.args.chunk.now c.loop-byte.byte-index c.from_residual.result c.from_residual.ensures.0 c.loop-byte.invariant)

pub loop-byte-preserved-then-byte-ne10 : goal.loop-byte-preserved-then-byte-ne10
loop-byte-preserved-then-byte-ne10 c =
    let chunk = c.args.chunk.now in
    let i = c.loop-byte.byte-index in
    chunk-byte chunk i (search rules) (search rules) (search rules) c.loop-byte.invariant

pub returns-in_err-answer : goal.returns-in_err-answer
returns-in_err-answer c =
    rw (c.in_err-answer.ensures.kept, c.in_err-answer.ensures.uncounted) (chunk-stops c.args.chunk.now c.loop-byte.byte-index c.from_residual-in_err-answer.result c.from_residual-in_err-answer.ensures.0 c.loop-byte.invariant)

pub loop-byte-preserved : goal.loop-byte-preserved
loop-byte-preserved c =
    let chunk = c.args.chunk.now in
    let i = c.loop-byte.byte-index in
    chunk-feed chunk i (search rules) (search rules) (search rules) (search rules) (search rules) c.loop-byte.invariant
