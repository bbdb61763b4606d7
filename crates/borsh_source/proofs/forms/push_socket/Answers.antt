use Rattle.borsh_source.proofs.Appending.{appends_then}
use Rattle.borsh_source.proofs.forms.push_socket.Goals as goal

pub returns : goal.returns
returns c = appends_then c.args.entries.now.items c.push_either.new.entries.items c.push_with_port-2.new.entries.items _ _ c.in_ok-push_either.ensures (appends_then c.push_either.new.entries.items c.push_with_port.new.entries.items c.push_with_port-2.new.entries.items _ _ c.in_ok-push_with_port.ensures c.in_ok-push_with_port-2.ensures)
