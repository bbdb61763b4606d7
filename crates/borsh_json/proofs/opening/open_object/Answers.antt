use Rattle.std.proofs.Common.{map}
use Rattle.borsh_json.specs.{Forms.{field_bytes}, Table.{fields}}
use Rattle.borsh_json.proofs.{EachLaws.{fields_each}, OpeningLaws.{said, refuses_keys}, PartsLaws.{object_opened}}
use Rattle.borsh_json.proofs.opening.open_object.Goals as goal

pub returns-in-Ok : goal.returns-in-Ok
returns-in-Ok c F ns x j h b =
    let a = c.in-Ok.ensures h.3.1 j b in
    object_opened F ns x j c.args.at c.args.fields h.1 c.new.result c.in-Ok.source a.0 a.1 h.3.0 h.3.1 c.new.ensures.parts c.new.ensures.begun a.2 a.3 a.4

pub returns-in-Err : goal.returns-in-Err
returns-in-Err c F ns x j h b =
    let fs = map field_bytes c.args.fields.now.items in
    refuses_keys F ns x j c.in-Err.error (λ g. let s = (said F ns x j (fields fs) h.3.0 g).2 in (s.2, s.3, fields_each fs s.2 _ s.0 s.4 s.5)) (c.in-Err.ensures h.3.1 j b)
