use Rattle.std.proofs.Common.{◌∷◌, subst}
use Rattle.borsh_json.specs.{declared.sources.Source.{Source}, Frames.{HasFields}}
use Rattle.borsh_json.proofs.{FieldLaws.{field_taken, field_none}, FrameLaws.{fields_taken}}
use Rattle.borsh_json.proofs.sources.Source.take.Goals as goal

pub returns-in-Members-clause-fields : goal.returns-in-Members-clause-fields
returns-in-Members-clause-fields c gs f fs ms n h e = fields_taken c.in-Members.members c.remove.new.self c.args.field.now c.remove.result c.remove.ensures.value c.remove.ensures.updates c.remove.ensures.len gs f fs ms n (subst (λ (s : Source). HasFields s gs (f ∷ fs) ms n) c.in-Members.is h) e

pub returns-in-Some-clause-fields : goal.returns-in-Some-clause-fields
returns-in-Some-clause-fields c gs f fs ms n h e = field_taken c.in-Entries.members c.next-in-Entries.new.self c.in-Some.field-0-0 c.in-Some.element c.in-Some.ensures.value gs f fs ms n (subst (λ (s : Source). HasFields s gs (f ∷ fs) ms n) c.in-Entries.is h)

pub returns-in-None-clause-fields : goal.returns-in-None-clause-fields
returns-in-None-clause-fields c gs f fs ms n h e = field_none c.in-Entries.members c.in-None.ensures.value gs f fs ms n (subst (λ (s : Source). HasFields s gs (f ∷ fs) ms n) c.in-Entries.is h)
