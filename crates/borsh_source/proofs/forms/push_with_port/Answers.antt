use Rattle.borsh_source.proofs.Appending.{appends_as, appends_then}
use Rattle.borsh_source.proofs.forms.push_with_port.Goals as goal

pub returns : goal.returns
returns c = appends_then c.args.entries.now.items c.push.new.entries.items c.push_address.new.entries.items _ _ (appends_as c.args.entries.now.items c.push.new.entries.items _ c.in_ok-push.ensures c.in_ok-two_named.ensures) (appends_then c.push.new.entries.items c.push-2.new.entries.items c.push_address.new.entries.items _ _ c.in_ok-push-2.ensures (c.in_ok-push_address.ensures))
