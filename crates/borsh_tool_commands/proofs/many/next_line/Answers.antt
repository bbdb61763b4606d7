use Rattle.std.proofs.Common.{IfOk, subst}
use Rattle.borsh_tool_commands.specs.Lines.{NextLine}
use Rattle.borsh_tool_commands.proofs.LineLaws.{line-found, reading-begins}
use Rattle.borsh_tool_commands.proofs.many.next_line.Goals as goal

pub returns-then-len-lt-ROOM-clause-next : goal.returns-then-len-lt-ROOM-clause-next
returns-then-len-lt-ROOM-clause-next g c =
    let old = c.args.lines.now in
    line-found g.R.Read.stream old old c.take_held_line-is_held.new.input 0 (reading-begins g.R.Read.stream old) c.take_held_line-is_held.ensures.reader (c.take_held_line-is_held.ensures.found c.if-is_held.true)

pub returns-then-is_held-2-clause-next : goal.returns-then-is_held-2-clause-next
returns-then-is_held-2-clause-next g c =
    let old = c.args.lines.now in
    line-found g.R.Read.stream old old c.take_held_line-is_held.new.input 0 (reading-begins g.R.Read.stream old) c.take_held_line-is_held.ensures.reader (c.take_held_line-is_held.ensures.found c.if-is_held-2.true)

pub returns-clause-next : goal.returns-clause-next
returns-clause-next g c =
    let same = (c.take_held_line-is_held.ensures.none c.if-is_held-2.false).1 in
    subst (λ b. IfOk c.take_line.result (λ found. NextLine g.R.Read.stream b c.take_line.new.input found)) same c.take_line.ensures.next
