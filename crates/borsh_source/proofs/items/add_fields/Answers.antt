use Rattle.std.proofs.Common.{◌∙◌, ap, map}
use Rattle.std.specs.Prelude.{string_bytes}
use Rattle.borsh_definitions.specs.Described.{form_of}
use Rattle.borsh_source.specs.Forms.{entry}
use Rattle.borsh_source.specs.Meaning.{fields_definition, kept_types}
use Rattle.borsh_source.specs.Views.{source_of, parameters_of, given_in, texts_of}
use Rattle.borsh_source.proofs.Defining.{fields_brought}
use Rattle.borsh_source.proofs.items.add_fields.Goals as goal

pub returns : goal.returns
returns c = fields_brought (source_of c.args.context.now) (parameters_of c.args.scope) (given_in c.args.scope) c.as_slice.result.now (texts_of c.in_ok-names.names.items) (string_bytes c.args.name) c.args.fields.now (form_of c.in_ok-definition.definition) (map entry c.in_ok-entries.entries.items) (c.as_slice.ensures.value ∙ c.in_ok-types.ensures ∙ ap kept_types c.fields_in.ensures) (c.in_ok-definition.ensures ∙ ap (λ l. fields_definition (texts_of l) c.args.fields.now) c.as_slice-2.ensures.value) (ap (map entry) c.in_ok-entries.ensures.items) c.in_ok-names.ensures c.in_ok-add_all.ensures
