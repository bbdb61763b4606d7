use Rattle.borsh_source.proofs.Appending.{appends_as, appends_then}
use Rattle.borsh_source.proofs.forms.push_address.Goals as goal

pub returns : goal.returns
returns c = appends_then c.args.entries.now.items c.push.new.entries.items c.push_octets.new.entries.items _ _ (appends_as c.args.entries.now.items c.push.new.entries.items _ c.in_ok-push.ensures c.in_ok-octets_definition.ensures) (c.in_ok-push_octets.ensures)
