use Rattle.std.proofs.Common.{◌≡◌, ℕ, length, refl, sym, ◌∙◌, ap, arith, ℤ, List}
use Rattle.std.specs.Prelude.{string_bytes, slice_get, None}
use Rattle.std.proofs.lemmas.List.{length-map}
use Rattle.std.proofs.lemmas.Option.{slice_get_past}
use Rattle.borsh_values.proofs.TagLaws.{unnamed, got, table_nothing, table_several, table_past, table_one, table_other}
use Rattle.borsh_values.proofs.tags.find_in_table.Goals as goal

pub returns-then-is_tag : goal.returns-then-is_tag
returns-then-is_tag c =
    let f = c.in-Some.field-0.now in
    let v = got c.args.variants.now.items _ c.in-One.index f c.deref.ensures.value c.in-Some.ensures.lookup.3.0 c.in-Some.ensures.lookup.1 in
    table_one c.args.tag.now c.requires c.key_of_bytes.result c.key_of_bytes.ensures c.in-One.index (sym c.found_at.ensures ∙ c.in-One.is) f.0 (string_bytes f.2) v.listed (c.if-is_tag.ensures.0 refl)

pub returns-else-is_tag : goal.returns-else-is_tag
returns-else-is_tag c =
    let f = c.in-Some.field-0.now in
    let v = got c.args.variants.now.items _ c.in-One.index f c.deref.ensures.value c.in-Some.ensures.lookup.3.0 c.in-Some.ensures.lookup.1 in
    table_other c.args.tag.now c.requires c.key_of_bytes.result c.key_of_bytes.ensures c.in-One.index (sym c.found_at.ensures ∙ c.in-One.is) f.0 (string_bytes f.2) v.listed (λ q. (let t = c.if-is_tag.ensures.1 q in cc))

pub returns-in-None : goal.returns-in-None
returns-in-None c =
    let items = c.args.variants.now.items in
    let k = length-map {B = ℤ × List ℕ} items (λ v. (v.0, string_bytes v.2)) in
    let d = ap (λ l. length l) c.deref.ensures.value in
    let h = c.in-None.ensures.lookup.3 in
    let none : slice_get (unnamed items) c.in-One.index ≡ None = slice_get_past (unnamed items) c.in-One.index (omega (arith, k, d, h)) in
    absurd (table_past c.args.tag.now c.requires c.key_of_bytes.result c.key_of_bytes.ensures c.in-One.index (sym c.found_at.ensures ∙ c.in-One.is) none)

pub returns-in-Several : goal.returns-in-Several
returns-in-Several c = table_several c.args.tag.now c.requires c.key_of_bytes.result c.key_of_bytes.ensures (sym c.found_at.ensures ∙ c.in-Several.is)

pub returns-in-Nothing : goal.returns-in-Nothing
returns-in-Nothing c = table_nothing c.args.tag.now c.requires c.key_of_bytes.result c.key_of_bytes.ensures (sym c.found_at.ensures ∙ c.in-Nothing.is)
