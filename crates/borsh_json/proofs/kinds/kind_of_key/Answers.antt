use Rattle.std.proofs.Common.{◌∙◌, Some, ap}
use Rattle.borsh_json.specs.{Forms.{form_of}, Found.{forms_of}}
use Rattle.borsh_json.proofs.NameLaws.{number_keys, text_keys}
use Rattle.borsh_json.proofs.kinds.kind_of_key.Goals as goal

pub returns-in_ok-number-in-Primitive : goal.returns-in_ok-number-in-Primitive
returns-in_ok-number-in-Primitive c = λ k h. number_keys (forms_of c.args.definitions.now) k c.name.result.now c.in-Primitive.size c.in_ok-number-in-Primitive.number (c.name.ensures k h.0) (h.1 ∙ ap (λ d. Some (form_of d)) c.in-Primitive.is) c.in_ok-number-in-Primitive.ensures

pub returns-in-Sequence : goal.returns-in-Sequence
returns-in-Sequence c = λ k h. text_keys (forms_of c.args.definitions.now) k (form_of c.args.definition.now) h.1 ((c.is_text.ensures k h).0 c.if-is_text.true)
