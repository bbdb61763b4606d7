use Rattle.borsh_source.proofs.Appending.{appends_as, appends_then}
use Rattle.borsh_source.proofs.forms.push_either.Goals as goal

pub returns : goal.returns
returns c = appends_then c.args.entries.now.items c.push.new.entries.items c.push-3.new.entries.items _ _ (appends_as c.args.entries.now.items c.push.new.entries.items _ c.in_ok-push.ensures c.in_ok-either.ensures) (appends_then c.push.new.entries.items c.push-2.new.entries.items c.push-3.new.entries.items _ _ (appends_as c.push.new.entries.items c.push-2.new.entries.items _ c.in_ok-push-2.ensures c.in_ok-one_unnamed.ensures) (appends_as c.push-2.new.entries.items c.push-3.new.entries.items _ c.in_ok-push-3.ensures c.in_ok-one_unnamed-2.ensures))
