-- The words that contracts of this crate cite, from where they are defined.
pub use Rattle.borsh_json.specs.Descents.{PrimitivesDescend}
pub use Rattle.borsh_json.specs.Errors.{IsNoJsonReason, IsNoMemberReason, IsNoRowsReason, IsTextReason}
pub use Rattle.borsh_json.specs.Forms.{Form, HasNoBytes, IsByte, IsMap, IsOption, IsUnit, choice, field_bytes, form_of, form_of_struct, forms_in, sequence, shape_of_form, shapes, tuple, unnamed, variant_bytes}
pub use Rattle.borsh_json.specs.Found.{AreEntries, HasForm, IsCollection, IsMapName, IsNamed, IsPrimitiveKind, IsRepeated, IsSetName, SaysBy, TellsKind, forms_of, joined, names_of}
pub use Rattle.borsh_json.specs.Frames.{AddsList, AreKeyed, AreSorted, DeniesKey, DeniesRead, FailsRead, GivesPart, HasBegun, HasEnded, HasEntries, HasFields, HasItems, HasNoNumber, HasPath, HasRead, HaveOneEach, IsArrayOf, IsDoing, IsElementFall, IsEntryKey, IsExpected, IsKeyReason, IsLeft, IsNext, IsNextEntry, IsOf, IsOfRead, IsOpened, IsPath, IsRank, IsUnexpected, IsText, IsUnread, IsVariantAt, NamesVariant, NoneFalls, NoneLeft, Opens, ReadsOn, SaysArray, ShowsRead, Wanted, first_steps, found_step, steps_at, steps_through}
pub use Rattle.borsh_json.specs.NoJson.{ShowsNoJson}
pub use Rattle.borsh_json.specs.InOrder.{InOrder, IsRepresented, NeedsNoCheck, Step, TextRepresents, element as element_step, place as place_step}
pub use Rattle.borsh_json.specs.NoValue.{IsGivenUp, ShowsFall, ShowsNoValue, step_of}
pub use Rattle.borsh_json.specs.Ordered.{AreNumbers, IsSequenceName, IsTreeMapName, OrdersBytes, node_size, variant_of}
pub use Rattle.borsh_json.specs.Ordered.{array as array_order}
pub use Rattle.borsh_json.specs.Orders.{AreOrders, ArePrimitives, ComparesCopies, ComparesFronts, ComparesNumbers, ComparesTexts, DecidesAscent, DecidesFall, FindsBytesAt, FindsCopies, FindsKeysOf, FindsKind, FindsKindAt, FindsNext, FindsNoBytesAt, FindsOrder, HasElements, HasKeyOrder, HasOrderAt, IsCut, IsNotBelow, IsPartAt, KindHasOrder, KindTellsOrder, KnowsNoOrder, NeedNotAscend, OrderedBy, OrdersKeys, TakesBoth, TakesCounts, TakesSame, TellsNoOrder, TellsOrders, TellsOther}
pub use Rattle.borsh_json.specs.Places.{AreKeysOf, IsAt, IsKindAt, IsKindOf, IsRefusalOf, lengths_of}
pub use Rattle.borsh_json.specs.Ranks.{HasRank, IsLeading, HasNoLeadingZero, number_found, rank_of}
pub use Rattle.borsh_json.specs.Represents.{HaveBytes, SaysFirst, TextSays}
pub use Rattle.borsh_json.specs.Table.{AreKeys, Entry, HasKind, InRange, IsHex, IsNullable, IsNumber, IsWhole, Keys, Kind as TableKind, Lengths, MayBeNull, Part as JsonPart, byte_list, entries as map_entries, entries_of, float, float_of, float_size, infinity_of, key_json, list_parts, no_bytes, number_kind, number_types, optional, primitive_kind, raw, texts, truth, utf8, variants as spec_variants, whole}
pub use Rattle.borsh_json.specs.Leaves.{Adds, Holds}
pub use Rattle.borsh_json.specs.Writes.{ArePartsOf, AscendsFrom, BeginsAt, BeginsNext, BeginsStruct, HasNode, IsAbove, IsAwaitingAt, IsBegunOf, IsFull, IsKeyPut, IsLast, IsOfWrite, IsPartWritten, IsWritingAt, IsWrittenNext, NoneFallsIn, RefusesElements, RisesAt, StopsBy, TellsAscent, WritesJson, WritesValueOf, ends_of, write_steps}
pub use Rattle.borsh_json.specs.declared.error.ReadError.TheVariants.{OutOfMemory}
pub use Rattle.borsh_json.specs.declared.error.Refusal.TheVariants.{TooDeep}
pub use Rattle.borsh_json.specs.declared.kinds.Elements.{Elements as FoundElements}
pub use Rattle.borsh_json.specs.declared.kinds.KeyKind.{KeyKind as FoundKeyKind}
pub use Rattle.borsh_json.specs.declared.kinds.KeyKind.TheVariants.{Text as TextKeys}
pub use Rattle.borsh_json.specs.declared.kinds.Kind.TheVariants.{ByteList as FoundBytes, Choice as FoundChoice, List as FoundList, Map as FoundMap, Numbers as FoundNumbers, Object as FoundObject, Optional as FoundOption, Row as FoundRow, Text as FoundText}
pub use Rattle.borsh_json.specs.declared.position.Key.TheVariants.{Entry as EntryOf}
pub use Rattle.borsh_json.specs.declared.position.Part.{Part as FoundPart}
pub use Rattle.borsh_json.specs.declared.position.Place.{Place}
pub use Rattle.json.specs.Json.{null}
pub use Rattle.borsh_json.specs.declared.order.Ordered.{Ordered as FoundOrder}
pub use Rattle.borsh_json.specs.declared.order.Ordered.TheVariants.{Number as NumberOrder, Other as OtherOrder}
pub use Rattle.borsh_json.specs.declared.parts.Next.TheVariants.{Missing as NextMissing, Part as NextPart}
pub use Rattle.borsh_json.specs.declared.position.Parts.TheVariants.{Root}
pub use Rattle.borsh_json.specs.declared.sources.Source.TheVariants.{One as OneSource}
pub use Rattle.borsh_values.specs.Nodes.{packed_size}
pub use Rattle.borsh_values.specs.Tags.{is_negative, magnitude_of}
pub use Rattle.borsh_plan.specs.Plan.{definitions_of, map_of, names_of as plan_names, root_of}
pub use Rattle.borsh_plan.specs.declared.named.Named.{Named as NamedPlace}
pub use Rattle.borsh_walks.specs.Container.{Member, little_endian, references, tag}
pub use Rattle.borsh_walks.specs.Definitions.{definitions_in}
pub use Rattle.borsh_walks.specs.Tables.{mark_of}
pub use Rattle.borsh_walks.specs.TupleNames.{following, tuple_name}
pub use Rattle.json.specs.Find.{BeginsWith, Finds, InItems, InMembers, get_member}
pub use Rattle.json.specs.Json.{Items as JsonItems, Json, Members as JsonMembers, array, document, item, no_items, object, string}
pub use Rattle.std.specs.Fmt.{decimal, signed_decimal}
pub use Rattle.std.specs.declared.cmp.Ordering.TheVariants.{Less}
pub use Rattle.std.specs.Int.{w128}
pub use Rattle.std.specs.Int.RustNames.{FitsSigned}
pub use Rattle.std.specs.List.{IsDistinct}
pub use Rattle.std.specs.List.Sorted.{IsPermutation}
pub use Rattle.std.specs.Ordering.{int_cmp, nat_cmp}
pub use Rattle.std.specs.Str.{bytes_eq}
