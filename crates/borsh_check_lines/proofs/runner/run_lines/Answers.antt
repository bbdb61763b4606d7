use Rattle.std.proofs.Common.{rules, arith, ◌≡◌, ◌<◌, ◌++◌, [], length, take, ap}
use Rattle.std.proofs.lemmas.Result.{err_from_is_err_and}
use Rattle.borsh_check_lines.specs.Answers.{Answers}
use Rattle.borsh_check_lines.specs.Counts.{line_count}
use Rattle.borsh_check_lines.specs.Lines.{Appends}
use Rattle.borsh_check_lines.proofs.Turns.{starts, takes-more, goes_on, goes_on-whole, stops-first, stops-memory, stops-reader, stops-writer, ran-at_end, ends-at_last}
use Rattle.borsh_check_lines.proofs.LineSteps.{not_empty, on_success, chunk-taken}
use Rattle.borsh_check_lines.proofs.runner.run_lines.Goals as goal

pub returns-in_err-buffer : goal.returns-in_err-buffer
returns-in_err-buffer g c =
    let p = err_from_is_err_and c.from_residual.result c.from_residual.ensures.1 in
    rw p.1 (stops-first {answers = Answers} g.met.W.Write.lawful (g.R.Read.stream c.args.reader.now) c.args.writer.now _ p.2.0)

pub chunks-init : goal.chunks-init
chunks-init g c = record {
  done = [];
  lines = [];
  out = [];
  room = search rules;
  so_far = search (rules, starts {answers = Answers} g.met.W.Write.lawful (g.R.Read.stream c.args.reader.now) c.args.writer.now (line_count c.args.answerer.now));
}

pub returns-in_err-n : goal.returns-in_err-n
returns-in_err-n g c =
    let p = err_from_is_err_and c.from_residual-in_err-n.result c.from_residual-in_err-n.ensures.1 in
    rw p.1 (stops-reader g.met.W.Write.lawful c.chunks.invariant.so_far c.in_err-n.ensures.failed)

pub returns-then-is_empty : goal.returns-then-is_empty
returns-then-is_empty g c =
    let zero : c.in_ok-n.n ≡ 0 = search rules in
    let none : take c.in_ok-n.n c.read_some.new.buf ≡ [] = ap (λ k. take k c.read_some.new.buf) zero in
    ran-at_end g.met.W.Write.lawful _ c.chunks.invariant.so_far c.in_ok-n.ensures.takes none (c.in_ok-n.ensures.some zero (search rules)) (search rules)

pub returns-in_err-answer : goal.returns-in_err-answer
returns-in_err-answer g c =
    let p = err_from_is_err_and c.from_residual-in_err-answer.result c.from_residual-in_err-answer.ensures.1 in
    rw (p.1, c.in_err-answer.ensures.uncounted) (stops-memory g.met.W.Write.lawful (takes-more g.met.W.Write.lawful _ c.chunks.invariant.so_far c.in_ok-n.ensures.takes) p.2.0)

pub returns-then-n-eq0 : goal.returns-then-n-eq0
returns-then-n-eq0 g c =
    let zero : c.in_ok-n.n ≡ 0 = search rules in
    let none : take c.in_ok-n.n c.read_some.new.buf ≡ [] = ap (λ k. take k c.read_some.new.buf) zero in
    let left : 0 < length c.chunks.line.items = omega (arith, c.chunks.line.ok.0, not_empty _ _ c.is_empty.ensures c.if-is_empty.false) in
    let appends : Appends Answers c.chunks.line.items [] c.answer.new.out.items = search rules in
    ends-at_last g.met.W.Write.lawful {d = c.write_all.new.self} {k = line_count c.answer.new.self} c.write_all.result c.chunks.invariant.so_far c.in_ok-n.ensures.takes none (c.in_ok-n.ensures.some zero (search rules)) left appends (search rules) (search rules) (search rules)

pub returns-in_err-write_all : goal.returns-in_err-write_all
returns-in_err-write_all g c =
    let p = err_from_is_err_and c.from_residual-in_err-write_all.result c.from_residual-in_err-write_all.ensures.1 in
    let answered = chunk-taken {answers = Answers} c.in_ok-n.n c.chunks.buffer.len c.read_some.new.buf c.chunks.buffer.items _ _ (search rules) c.in_ok-n.ensures.bound (search rules) (search rules) c.answer_chunk-outcome.ensures in
    let added : c.as_slice-in-chunks-2.result.now ≡ c.answer_chunk-outcome.new.out.items = search rules in
    rw (p.1, p.2) (stops-writer g.met.W.Write.lawful {d = c.write_all-in-chunks.new.self} c.chunks.invariant.so_far c.in_ok-n.ensures.takes answered (rw added at c.in_err-write_all.ensures.refused))

pub returns-in_err-outcome : goal.returns-in_err-outcome
returns-in_err-outcome g c =
    let p = err_from_is_err_and c.from_residual-in_err-outcome.result c.from_residual-in_err-outcome.ensures.1 in
    let answered = chunk-taken {answers = Answers} c.in_ok-n.n c.chunks.buffer.len c.read_some.new.buf c.chunks.buffer.items _ _ (search rules) c.in_ok-n.ensures.bound (search rules) (search rules) c.answer_chunk-outcome.ensures in
    let added : c.as_slice-in-chunks-2.result.now ≡ c.answer_chunk-outcome.new.out.items = search rules in
    rw p.1 (stops-memory g.met.W.Write.lawful (goes_on g.met.W.Write.lawful {d = c.write_all-in-chunks.new.self} c.chunks.invariant.so_far c.in_ok-n.ensures.takes answered (rw added at c.in_ok-write_all.ensures.writes)) p.2.0)

pub chunks-preserved : goal.chunks-preserved
chunks-preserved g c =
    let i = c.chunks.invariant in
    let answered = chunk-taken {answers = Answers} c.in_ok-n.n c.chunks.buffer.len c.read_some.new.buf c.chunks.buffer.items _ _ (search rules) c.in_ok-n.ensures.bound (search rules) (search rules) c.answer_chunk-outcome.ensures in
    let added : c.as_slice-in-chunks-2.result.now ≡ c.answer_chunk-outcome.new.out.items = search rules in
    let complete : answered.rest ≡ [] = on_success c.answer_chunk-outcome.result (search rules) answered.complete in
    record {
      done = i.done ++ answered.front;
      lines = i.lines ++ answered.lines;
      out = i.out ++ c.answer_chunk-outcome.new.out.items;
      room = search rules;
      so_far = goes_on-whole g.met.W.Write.lawful complete (goes_on g.met.W.Write.lawful {d = c.write_all-in-chunks.new.self} i.so_far c.in_ok-n.ensures.takes answered (rw added at c.in_ok-write_all.ensures.writes));
    }
