-- The schema of schemas describes them, and the laws of what a container means.
use Rattle.std.proofs.Common.{ℕ, ℤ, List, Option, refl, String, Global, Vec, string_bytes}
use Rattle.borsh_codec.specs.Shapes.{signed}
use Rattle.borsh_walks.specs.Container.{Shape, first_variant, later_variant}
use Rattle.borsh_walks.specs.Codecs as codec
use Rattle.borsh_walks.specs.declared.definition.Definition.{Definition}
use Rattle.borsh_walks.specs.declared.definition.Fields.{Fields}
use Rattle.borsh_walks.specs.declared.definition.LengthRange.{LengthRange}
use Rattle.borsh_definitions.specs.Language.{Holds, Describes}
use Rattle.borsh_definitions.specs.Own.{length_range_definitions, length_range_name, fields_definitions, definition_definitions, texts_definitions, texts_name, named_fields_definitions, named_fields_name, variants_definitions, variants_name, definition_map_definitions, map_name, container_definitions}
use Rattle.std.specs.BTreeMap.{BTreeMap}
use Rattle.std.specs.String.{string_cmp}
use Rattle.std.specs.Cmp.Lexicographic.{texts_ties}
use Rattle.std.specs.String.{string_cmp_total}
use Rattle.borsh_codec.specs.Codec.{Lawful}
use Rattle.borsh_codec.proofs.Laws.Exact.{contramap-lawful}
use Rattle.borsh_codec.proofs.Laws.Pairs.{pair-lawful}
use Rattle.borsh_codec.proofs.Laws.Keys.{text_key}
use Rattle.borsh_codec.proofs.Laws.Maps.Types.{btree_map-lawful}
use Rattle.borsh_codec.proofs.Laws.Types.{text-lawful}
use Rattle.borsh_definitions.specs.Codecs.{definition_map, root_and_map}
use Rattle.borsh_definitions.specs.Types.{text_definitions}
use Rattle.std.specs.Prelude.{codes}
use Rattle.borsh_definitions.proofs.Laws.Members.{describes_contramap, describes_number, describes_signed, describes_text, describes_elements, describes_parts, describes_refused_if, describes_ordered, describes_choice, choice_more, choice_none, all_none, all_one, all_more}

module _ (C : List ℕ → Option Shape) where
  name_described : Holds C text_definitions → Describes (String Global) C codec.name (codes "String")
  name_described h = describes_contramap string_bytes (describes_text h.0 h.1.0.0)

  pub length_range_described : Holds C length_range_definitions → Describes LengthRange C codec.length_range length_range_name
  length_range_described h = describes_contramap codec.ends (describes_parts h.0 (all_more (describes_number 8 h.1.0.0) (all_one (describes_number 8 h.1.0.0))))

  texts_described : Holds C texts_definitions → Describes (Vec (String Global) Global) C (codec.vec_of codec.name) texts_name
  texts_described h = describes_contramap (λ v. v.items) (describes_elements h.0 (name_described h.1.0))

  named_described : Holds C named_fields_definitions → Describes (Vec (String Global × String Global) Global) C (codec.vec_of codec.named) named_fields_name
  named_described h =
      describes_contramap (λ v. v.items) (describes_elements h.0 (describes_parts h.1.0.0 (all_more (name_described h.1.0.1.0) (all_one (name_described h.1.0.1.1.0)))))

  pub fields_described : Holds C fields_definitions → Describes Fields C codec.fields (codes "Fields")
  fields_described h =
      describes_contramap codec.fields_view
      (describes_choice h.0
      (choice_more first_variant refl (describes_parts h.1.0.0 (all_one (named_described h.1.0.1.0)))
      (choice_more (later_variant first_variant) refl (describes_parts h.1.1.0.0 (all_one (texts_described h.1.1.0.1.0)))
      (choice_more (later_variant (later_variant first_variant)) refl (describes_parts h.1.1.1.0 all_none) choice_none))))

  variants_described : Holds C variants_definitions → Describes (Vec (ℤ × String Global × String Global) Global) C (codec.vec_of (codec.three (signed 8) codec.name codec.name)) variants_name
  variants_described h =
      describes_contramap (λ v. v.items)
      (describes_elements h.0
      (describes_contramap (λ t. (t.0, (t.1, t.2)))
      (describes_parts h.1.0.0 (all_more (describes_signed 8 h.1.0.1.0.0) (all_more (name_described h.1.0.1.1.0) (all_one (name_described h.1.0.1.1.1.0)))))))

  pub definition_described : Holds C definition_definitions → Describes Definition C codec.definition (codes "Definition")
  definition_described h =
      describes_contramap codec.definition_view
      (describes_choice h.0
      (choice_more first_variant refl (describes_parts h.1.0.0 (all_one (describes_number 1 h.1.0.1.0.0)))
      (choice_more (later_variant first_variant) refl
      (describes_contramap (λ t. (t.0, (t.1, t.2)))
      (describes_parts h.1.1.0.0 (all_more (describes_number 1 h.1.1.0.1.0.0) (all_more (length_range_described h.1.1.0.1.1.0) (all_one (name_described h.1.1.0.1.1.1.0))))))
      (choice_more (later_variant (later_variant first_variant)) refl (describes_parts h.1.1.1.0.0 (all_one (texts_described h.1.1.1.0.1.0)))
      (choice_more (later_variant (later_variant (later_variant first_variant))) refl
      (describes_parts h.1.1.1.1.0.0 (all_more (describes_number 1 h.1.1.1.1.0.1.0.0) (all_one (variants_described h.1.1.1.1.0.1.1.0))))
      (choice_more (later_variant (later_variant (later_variant (later_variant first_variant)))) refl (describes_parts h.1.1.1.1.1.0 (all_one (fields_described h.1.1.1.1.1.1.0))) choice_none))))))

  map_described : Holds C definition_map_definitions → Describes (BTreeMap (String Global) Definition) C definition_map map_name
  map_described h =
      describes_contramap (λ m. m.entries)
      (describes_refused_if codec.name.is_zero_width
      (describes_ordered string_cmp h.0 (describes_parts h.1.0.0 (all_more (name_described h.1.0.1.0) (all_one (definition_described h.1.0.1.1.0))))))

  pub container_described : Holds C container_definitions → Describes (String Global × BTreeMap (String Global) Definition) C root_and_map (codes "BorshSchemaContainer")
  container_described h = describes_parts h.0 (all_more (name_described h.1.0) (all_one (map_described h.1.1.0)))

name-lawful : Lawful (String Global) codec.name
name-lawful = contramap-lawful string_bytes text-lawful

definition_map-lawful : Lawful (BTreeMap (String Global) Definition) definition_map
definition_map-lawful =
    contramap-lawful (λ m. m.entries)
    (btree_map-lawful name-lawful (λ a b. text_key (string_bytes a) (string_bytes b)) string_cmp_total (λ a b. texts_ties (string_bytes a) (string_bytes b)) codec.definition-lawful)

pub root_and_map-lawful : Lawful (String Global × BTreeMap (String Global) Definition) root_and_map
root_and_map-lawful = pair-lawful name-lawful definition_map-lawful
