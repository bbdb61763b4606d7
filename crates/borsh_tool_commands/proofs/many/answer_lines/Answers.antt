use Rattle.std.proofs.Common.{rules, ℕ, Bool, List, ◌≡◌, ◌++◌, Ok, Err, true, false, refl, sym, ap, subst}
use Rattle.borsh_io.specs.Buffered.{held, piece, reader_of}
use Rattle.borsh_tool_commands.specs.declared.failure.Failure.{Failure}
use Rattle.borsh_tool_commands.specs.declared.failure.Failure.TheVariants.{OutOfMemory}
use Rattle.borsh_tool_commands.specs.Failures.{IsStop}
use Rattle.borsh_tool_commands.specs.Lines.{IsFirstLine, NextLine}
use Rattle.borsh_tool_commands.specs.Many.{AnswersEach, AnswersLine, FailsBy, WritesMade, HasNoAnswer, StopsAtLine, WritesAnswers}
use Rattle.borsh_tool_commands.proofs.ManyLaws.{answered, begins-at, ends, first-line-stops, goes_on, line-stops, not-flushed, stops-anyhow}
use Rattle.borsh_tool_commands.proofs.many.answer_lines.Goals as goal

pub loop-number-init : goal.loop-number-init
loop-number-init g c =
    let l = c.args.many.now.json.now.plan.now in
    begins-at g.met.W.Write.lawful IsFirstLine (AnswersLine l c.args.wanted c.args.is_lenient) (g.R.Read.stream c.args.input).bytes c.args.out.now (g.R.Read.stream (reader_of c.new-lines.result)).bytes (held c.new-lines.result) c.args.made.now.items
    (ap (λ s. (g.R.Read.stream s).bytes) c.new-lines.ensures.reader) c.new-lines.ensures.none.0 c.requires

pub returns-in_err-next_line : goal.returns-in_err-next_line
returns-in_err-next_line g c =
    let l = c.args.many.now.json.now.plan.now in
    let P : List ℕ → List ℕ → Type 0 = AnswersLine l c.args.wanted c.args.is_lenient in
    let S : List ℕ → Failure → Type 0 = StopsAtLine (FailsBy g.R.Read.stream) c.args.many.now.path.now l c.args.wanted c.args.is_lenient ⊥ (g.R.Read.stream c.args.input).bytes in
    let bytes = (g.R.Read.stream c.args.input).bytes in
    let x = c.in_err-next_line.field-0.0 in
    let e : c.from_residual.result ≡ Err x = search rules in
    subst (λ r. WritesAnswers (AnswersEach IsFirstLine P S bytes) g.W.Write.writing c.args.out.now c.next_line.new.out c.next_line.new.made.items r) (sym e)
    (line-stops g.met.W.Write.lawful P (FailsBy g.R.Read.stream) c.args.many.now.path.now l bytes (g.R.Read.stream (reader_of c.loop-number.lines)) (g.R.Read.stream (reader_of c.next_line.new.lines)) c.args.wanted c.args.is_lenient ⊥ (Err x) x c.loop-number.invariant c.in_err-next_line.ensures.stops c.in_err-next_line.ensures.flushes (λ u. u))

pub returns-then-not-branch : goal.returns-then-not-branch
returns-then-not-branch g c =
    let l = c.args.many.now.json.now.plan.now in
    let none : c.in_ok-next_line.field-0 ≡ false = search rules in
    let n = subst (λ b. NextLine g.R.Read.stream c.loop-number.lines c.next_line.new.lines b) none c.in_ok-next_line.ensures.next in
    let f = subst (λ b. WritesMade g.W.Write.writing c.loop-number.out c.next_line.new.out c.loop-number.made.items c.next_line.new.made.items (Ok b)) none c.in_ok-next_line.ensures.flushes in
    let end = n.none refl in
    ends g.met.W.Write.lawful IsFirstLine (AnswersLine l c.args.wanted c.args.is_lenient) (StopsAtLine (FailsBy g.R.Read.stream) c.args.many.now.path.now l c.args.wanted c.args.is_lenient ⊥ (g.R.Read.stream c.args.input).bytes) (g.R.Read.stream c.args.input).bytes false (g.R.Read.stream (reader_of c.next_line.new.lines)).bytes n.read c.loop-number.invariant n.taken end.0 end.1 f

pub returns-in_err-text : goal.returns-in_err-text
returns-in_err-text g c =
    let l = c.args.many.now.json.now.plan.now in
    let P : List ℕ → List ℕ → Type 0 = AnswersLine l c.args.wanted c.args.is_lenient in
    let S : List ℕ → Failure → Type 0 = StopsAtLine (FailsBy g.R.Read.stream) c.args.many.now.path.now l c.args.wanted c.args.is_lenient ⊥ (g.R.Read.stream c.args.input).bytes in
    let bytes = (g.R.Read.stream c.args.input).bytes in
    let x = c.in_err-text.field-0.0 in
    let e : c.from_residual-in_err-text.result ≡ Err x = search rules in
    subst (λ r. WritesAnswers (AnswersEach IsFirstLine P S bytes) g.W.Write.writing c.args.out.now c.next_line.new.out c.next_line.new.made.items r) (sym e)
    (
    let some : c.in_ok-next_line.field-0 ≡ true = search rules in
    let old = c.loop-number.lines in
    let new = c.next_line.new.lines in
    let n = subst (λ b. NextLine g.R.Read.stream old new b) some c.in_ok-next_line.ensures.next in
    first-line-stops g.met.W.Write.lawful P (FailsBy g.R.Read.stream) c.args.many.now.path.now l bytes (g.R.Read.stream (reader_of old)) (g.R.Read.stream (reader_of new)) c.args.wanted c.args.is_lenient ⊥ (Ok c.in_ok-next_line.field-0) x (piece new) (held new) n.read c.loop-number.invariant n.taken (n.some refl)
    (subst (λ v. IsStop c.args.many.now.path.now (λ _. ⊥) (HasNoAnswer l c.args.wanted c.args.is_lenient v) ⊥ x) c.piece.ensures c.in_err-text.ensures.err) c.in_ok-next_line.ensures.flushes (λ u. absurd u)
    )

pub returns-in_err-extend_from_slice : goal.returns-in_err-extend_from_slice
returns-in_err-extend_from_slice g c =
    let l = c.args.many.now.json.now.plan.now in
    let P : List ℕ → List ℕ → Type 0 = AnswersLine l c.args.wanted c.args.is_lenient in
    let S : List ℕ → Failure → Type 0 = StopsAtLine (FailsBy g.R.Read.stream) c.args.many.now.path.now l c.args.wanted c.args.is_lenient ⊥ (g.R.Read.stream c.args.input).bytes in
    let bytes = (g.R.Read.stream c.args.input).bytes in
    let e : c.from_residual-in_err-extend_from_slice.result ≡ Err OutOfMemory = search rules in
    let same : c.extend_from_slice.new.self.items ≡ c.next_line.new.made.items = search rules in
    let f = subst (λ m. WritesMade g.W.Write.writing c.loop-number.out c.next_line.new.out c.loop-number.made.items m (Ok c.in_ok-next_line.field-0)) (sym same) c.in_ok-next_line.ensures.flushes in
    subst (λ r. WritesAnswers (AnswersEach IsFirstLine P S bytes) g.W.Write.writing c.args.out.now c.next_line.new.out c.extend_from_slice.new.self.items r) (sym e)
    (stops-anyhow g.met.W.Write.lawful IsFirstLine P S bytes (Ok c.in_ok-next_line.field-0) OutOfMemory c.loop-number.invariant f (λ u. absurd u) (λ left. tt))

pub loop-number-preserved : goal.loop-number-preserved
loop-number-preserved g c =
    let l = c.args.many.now.json.now.plan.now in
    let P : List ℕ → List ℕ → Type 0 = AnswersLine l c.args.wanted c.args.is_lenient in
    let bytes = (g.R.Read.stream c.args.input).bytes in
    let old = c.loop-number.lines in
    let new = c.next_line.new.lines in
    let some : c.in_ok-next_line.field-0 ≡ true = search rules in
    let n = subst (λ b. NextLine g.R.Read.stream old new b) some c.in_ok-next_line.ensures.next in
    let f = subst (λ b. WritesMade g.W.Write.writing c.loop-number.out c.next_line.new.out c.loop-number.made.items c.next_line.new.made.items (Ok b)) some c.in_ok-next_line.ensures.flushes in
    let t = subst (λ v. AnswersLine l c.args.wanted c.args.is_lenient v c.in_ok-text.text.items) c.piece.ensures c.in_ok-text.ensures.ok in
    let e : c.extend_from_slice.new.self.items ≡ c.next_line.new.made.items ++ c.in_ok-text.text.items = search rules in
    answered g.met.W.Write.lawful IsFirstLine P bytes (g.R.Read.stream (reader_of new)).bytes n.read (held new) c.extend_from_slice.new.self.items (piece new) c.in_ok-text.text.items (goes_on g.met.W.Write.lawful IsFirstLine P bytes true c.loop-number.invariant f) n.taken (n.some refl) t e

pub returns : goal.returns
returns g c =
    let l = c.args.many.now.json.now.plan.now in
    let laws = g.met.W.Write.lawful in
    stops-anyhow laws IsFirstLine (AnswersLine l c.args.wanted c.args.is_lenient) (StopsAtLine (FailsBy g.R.Read.stream) c.args.many.now.path.now l c.args.wanted c.args.is_lenient ⊥ (g.R.Read.stream c.args.input).bytes) (g.R.Read.stream c.args.input).bytes {A = Bool} (Err OutOfMemory) OutOfMemory c.loop-number.invariant (not-flushed laws c.loop-number.out (Err OutOfMemory) refl) (λ u. u)
    (λ left. tt)
