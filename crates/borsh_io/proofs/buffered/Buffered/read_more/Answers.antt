use Rattle.std.proofs.Common.{ap, ◌∙◌, drop}
use Rattle.borsh_io.proofs.BufferedLaws.{read-behind}
use Rattle.borsh_io.proofs.buffered.Buffered.read_more.Goals as goal

pub returns : goal.returns
returns g c = read-behind g.R.Read.stream c.args.self.now c.append.new.self c.let_go.new.self c.append.result
    (ap (λ n. drop n c.let_go.new.self.buffer.items) c.let_go.ensures.end ∙ c.let_go.ensures.buffer) c.let_go.ensures.reader c.append.ensures
