use Rattle.std.proofs.Common.{◌≡◌, ◌∙◌, sym, ap, map, subst}
use Rattle.std.specs.Prelude.{string_bytes}
use Rattle.borsh_definitions.specs.Described.{variant_bytes}
use Rattle.borsh_source.specs.Errors.{LeavesTagsOpen}
use Rattle.borsh_source.specs.Forms.{entry}
use Rattle.borsh_source.specs.Meaning.{HaveNone, name_given}
use Rattle.borsh_source.specs.Views.{source_of, stands, used}
use Rattle.borsh_source.specs.declared.tree.ItemKind.TheVariants.{Enum}
use Rattle.borsh_source.proofs.Defining.{struct_brought, enum_brought, within_at}
use Rattle.borsh_source.proofs.Unknown.{undecided}
use Rattle.borsh_source.proofs.items.add_item.Goals as goal

pub returns-in_ok-add_fields-in-Struct : goal.returns-in_ok-add_fields-in-Struct
returns-in_ok-add_fields-in-Struct c =
    let n = (c.in_ok-name.ensures ∙ ap (λ n. name_given n (map stands c.as_slice.result.now)) c.as_str.ensures.value ∙ ap (λ l. name_given (string_bytes c.in-Some.item.now.name) (map stands l)) c.as_slice.ensures.value) in
    let w = (within_at (used c.args.used.now) c.in-Some.item.now (map stands c.as_slice-4.result.now) (map stands c.as_slice-2.result.now) c.as_str-2.result.now (ap (map stands) c.as_slice-4.ensures.value ∙ c.in_ok-given.ensures) (ap (map stands) c.as_slice-2.ensures.value) (c.as_str-2.ensures.value ∙ n)) in
    struct_brought (source_of c.args.context.now) (used c.args.used.now) c.in-Some.item.now (sym c.in-Some.ensures) c.as_slice-3.result.now (map stands c.as_slice-4.result.now) c.as_slice-3.ensures.value w (string_bytes c.in_ok-name.name) c.in-Struct.fields c.in-Struct.is n c.in_ok-add_fields-in-Struct.ensures

pub returns-in_ok-add_all-in-Enum : goal.returns-in_ok-add_all-in-Enum
returns-in_ok-add_all-in-Enum c =
    let n = (c.in_ok-name.ensures ∙ ap (λ n. name_given n (map stands c.as_slice.result.now)) c.as_str.ensures.value ∙ ap (λ l. name_given (string_bytes c.in-Some.item.now.name) (map stands l)) c.as_slice.ensures.value) in
    let w = (within_at (used c.args.used.now) c.in-Some.item.now (map stands c.as_slice-4.result.now) (map stands c.as_slice-2.result.now) c.as_str-2.result.now (ap (map stands) c.as_slice-4.ensures.value ∙ c.in_ok-given.ensures) (ap (map stands) c.as_slice-2.ensures.value) (c.as_str-2.ensures.value ∙ n)) in
    enum_brought (source_of c.args.context.now) (used c.args.used.now) c.in-Some.item.now (sym c.in-Some.ensures) c.as_slice-3.result.now (map stands c.as_slice-4.result.now) c.as_slice-3.ensures.value w (string_bytes c.in_ok-name.name) c.as_str-item_name.result.now c.in-Enum.use_discriminant c.in-Enum.variants c.as_slice-variants.result.now (map variant_bytes c.in_ok-variants-in-Enum.variants.items) c.in-Some-explicit_tags.explicit (map entry c.in_ok-entries-in-Enum.entries.items) c.in-Enum.is c.as_slice-variants.ensures.value c.in-Some-explicit_tags.ensures.0 c.in-Some-explicit_tags.ensures.1 n c.as_str-item_name.ensures.value (ap (map entry) c.in_ok-entries-in-Enum.ensures.items) c.in_ok-variants-in-Enum.ensures c.in_ok-add_all-in-Enum.ensures

pub returns-in_default-explicit_tags : goal.returns-in_default-explicit_tags
returns-in_default-explicit_tags c =
    let S = source_of c.args.context.now in
    let no = c.in_default-explicit_tags.ensures in
    let kind = subst (λ d. c.in-Some.item.now.kind ≡ Enum d c.in-Enum.variants) no.0 c.in-Enum.is in
    let u = undecided S c.args.used.now.item c.in-Some.item.now c.in-Enum.variants (sym c.in-Some.ensures) kind (subst (λ l. HaveNone l → ⊥) c.as_slice-variants.ensures.value no.1) in
    c.refused.ensures.told S (subst (λ n. LeavesTagsOpen S n) (sym c.as_str-item_name.ensures.value) u)
