use Rattle.std.proofs.Common.{Option, subst}
use Rattle.json.specs.Json.{null}
use Rattle.borsh_json.specs.{declared.sources.EntryKey.{EntryKey}, Writes.{IsLast}}
use Rattle.borsh_json.proofs.WriterLaws.{first_above, next_above}
use Rattle.borsh_json.proofs.writing.is_next.Goals as goal

pub returns-in-Some : goal.returns-in-Some
returns-in-Some c F ns k f kind keys o s a h i =
    let l = subst (λ (last : Option EntryKey). IsLast kind last o) c.in-Some.is h in
    next_above kind keys o s c.in-Some.last c.is_above.result l (c.is_above.ensures F ns k f kind keys l.0 s null null a l.2 i)

pub returns-in-None : goal.returns-in-None
returns-in-None c F ns k f kind keys o s a h i = first_above kind keys o s (subst (λ (last : Option EntryKey). IsLast kind last o) c.in-None.is h)
