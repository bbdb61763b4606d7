-- What the ghost members of generated implementations name, under one path.
-- codecs and their laws
pub use Rattle.borsh_codec.proofs.Laws.OfParts.{IsKey, contramap, contramap-lawful, contramap_ordered, from, key_facts}
pub use Rattle.borsh_codec.specs.Types.Sums.{option_view, result_view}
pub use Rattle.borsh_codec.specs.Maps.{unit_entries}
-- enums
pub use Rattle.borsh_enums.specs.Cases.{fields, left, right}
pub use Rattle.borsh_codec.proofs.CaseLaws.{enum_lawful_if}
-- schemas
pub use Rattle.borsh_walks.specs.Container.{first_variant, later_variant}
pub use Rattle.borsh_definitions.specs.Types.{unit_struct, unnamed_struct}
pub use Rattle.borsh_schema.specs.Variants.{enum_definitions, enum_definitions_as, name_with}
pub use Rattle.borsh_schema.proofs.DescribedCases.{case_described, case_in, describes_enum, enum_described, fork_described, fork_in}
pub use Rattle.borsh_schema.proofs.DescribedGroups.{all_joined, groups_described, more_groups, no_groups}
pub use Rattle.borsh_definitions.proofs.Laws.Quoted.{named_described, no_fields_described, struct_described, struct_parts, unnamed_described}
pub use Rattle.borsh_definitions.proofs.Laws.Members.{all_more, all_none, all_one, choice_more, choice_none, describes_choice, describes_contramap, describes_elements, describes_ordered, describes_parts, describes_refused_if, describes_row, describes_sorted, describes_stored, describes_unit}
