use Rattle.std.proofs.Common.{rules, arith, length, Ok, ap, ◌∙◌, subst}
use Rattle.std.proofs.lemmas.Bool.Decides.{nat_tests}
use Rattle.borsh_io.specs.Buffered.{ReadsMore, held}
use Rattle.borsh_tool_commands.proofs.LineLaws.{line-found, reading-begins, reading-ends, reading-on}
use Rattle.borsh_tool_commands.proofs.lines.take_line.Goals as goal

pub reads-init : goal.reads-init
reads-init g c = reading-begins g.R.Read.stream c.args.input.now

pub returns-then-take_held_line-clause-next : goal.returns-then-take_held_line-clause-next
returns-then-take_held_line-clause-next g c =
    line-found g.R.Read.stream c.args.input.now c.reads.input c.take_held_line.new.input c.reads.searched c.reads.invariant c.take_held_line.ensures.reader (c.take_held_line.ensures.found c.if-take_held_line.true)

pub returns-in-Ok-eq0-clause-next : goal.returns-in-Ok-eq0-clause-next
returns-in-Ok-eq0-clause-next g c =
    let none = c.take_held_line.ensures.none c.if-take_held_line.false in
    let m : ReadsMore g.R.Read.stream c.take_held_line.new.input c.read_more.new.self (Ok 0) = search rules in
    let e = ap length c.held-searched.ensures ∙ ap (λ b. length (held b)) none.1 in
    reading-ends g.R.Read.stream c.args.input.now c.reads.input c.read_more.new.self c.take.new.self c.reads.searched (length c.held-searched.result.now) _ c.reads.invariant none.0 e
    (subst (λ b. ReadsMore g.R.Read.stream b c.read_more.new.self (Ok 0)) none.1 m) c.take.ensures (λ y. grind (arith, nat_tests)) (λ f. grind (arith, nat_tests))

pub reads-preserved : goal.reads-preserved
reads-preserved g c =
    let none = c.take_held_line.ensures.none c.if-take_held_line.false in
    let m : ReadsMore g.R.Read.stream c.take_held_line.new.input c.read_more.new.self (Ok c.in-Ok.field-0) = search rules in
    let e = ap length c.held-searched.ensures ∙ ap (λ b. length (held b)) none.1 in
    reading-on g.R.Read.stream c.args.input.now c.reads.input c.read_more.new.self c.reads.searched (length c.held-searched.result.now) c.in-Ok.field-0 c.reads.invariant none.0 e
    (subst (λ b. ReadsMore g.R.Read.stream b c.read_more.new.self (Ok c.in-Ok.field-0)) none.1 m)
