use Rattle.std.proofs.Common.{subst}
use Rattle.borsh_json.specs.{declared.sources.Source.{Source}, Frames.{HasEntries}}
use Rattle.borsh_json.proofs.FrameLaws.{entry_taken, entry_none}
use Rattle.borsh_json.proofs.sources.Source.take_entry.Goals as goal

pub returns-in-Some : goal.returns-in-Some
returns-in-Some c kind es h = entry_taken kind c.in-Entries.members c.next.new.self c.in-Some.text c.in-Some.element c.in-Some.ensures.value es (subst (λ (s : Source). HasEntries kind s es) c.in-Entries.is h)

pub returns-in-None : goal.returns-in-None
returns-in-None c kind es h = entry_none kind c.in-Entries.members c.in-None.ensures.value es (subst (λ (s : Source). HasEntries kind s es) c.in-Entries.is h)
