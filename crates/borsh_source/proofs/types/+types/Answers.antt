use Rattle.std.proofs.Common.{◌≡◌, ◌<◌, [], length, map, Some, sym, ◌∙◌, ap, subst, arith}
use Rattle.std.specs.Prelude.{slice_get, string_bytes}
use Rattle.borsh_source.specs.Container.{Brought, definitions_so_far, uses_in}
use Rattle.borsh_source.specs.Meaning.{MeansAll, Gives, means_none, gives_none, gives_number, gives_type, gives_nothing, IsOwn}
use Rattle.borsh_source.specs.Reading.{reads}
use Rattle.borsh_source.specs.Heads.{IsHead}
use Rattle.borsh_source.specs.Views.{source_of, parameters_of, given_in, stands, texts_of}
use Rattle.borsh_source.proofs.Lists.{item_at, map_snoc, get_some}
use Rattle.borsh_source.proofs.Naming.{named_given, named_form, named_array, named_item, all_more, given_more, array_brought, named_alias, named_own}
use Rattle.borsh_source.proofs.Steps.{brought_none, brought_as}
use Rattle.borsh_source.proofs.Results.{ok_map}
use Rattle.borsh_source.proofs.types.+types.Goals as goal

pub all_named-names-init : goal.all_named-names-init
all_named-names-init t c = subst (λ l. Brought (MeansAll (source_of c.args.context.now) (parameters_of c.args.scope) (given_in c.args.scope) [] l) (definitions_so_far c.args.output.now) (definitions_so_far c.args.output.now) (uses_in c.args.output.now) (uses_in c.args.output.now)) (sym (ap texts_of c.new-names.ensures.items)) (brought_none _ _ means_none)

pub all_named-names-preserved : goal.all_named-names-preserved
all_named-names-preserved t c = all_more (source_of c.args.context.now) (parameters_of c.args.scope) (given_in c.args.scope) c.args.types.now c.names.at-index _ (texts_of c.names.names.items) _ (string_bytes c.in_ok-name.name) (get_some c.args.types.now c.names.at-index 0 c.names-test.true) (ap texts_of c.in_ok-push.ensures.items ∙ map_snoc (λ d. string_bytes d) c.names.names.items c.in_ok-name.name) c.names.invariant c.in_ok-name.ensures

pub all_given-arguments-init : goal.all_given-arguments-init
all_given-arguments-init t c = subst (λ l. Brought (Gives (source_of c.args.context.now) (parameters_of c.args.scope) (given_in c.args.scope) c.args.item.now.kind [] [] l) (definitions_so_far c.args.output.now) (definitions_so_far c.args.output.now) (uses_in c.args.output.now) (uses_in c.args.output.now)) (sym (ap (map stands) c.new-given.ensures.items)) (brought_none _ _ gives_none)

pub all_given-arguments-preserved : goal.all_given-arguments-preserved
all_given-arguments-preserved t c =
    let l = ap length c.deref-parameter-items.ensures.value in
    let p = subst (λ l. slice_get l c.arguments.at ≡ Some c.parameter-item.result) c.deref-parameter-items.ensures.value (item_at c.deref-parameter-items.result.now c.arguments.at c.parameter-item.result c.arguments-test.true c.parameter-item.is) in
    let k : c.arguments.at < length c.args.arguments.now = omega (arith, l, c.len.ensures, c.args.item.now.parameters.ok.0) in
    given_more (source_of c.args.context.now) (parameters_of c.args.scope) (given_in c.args.scope) c.args.item.now.kind c.args.item.now.parameters.items c.args.arguments.now c.arguments.at _ c.parameter-item.result (map stands c.arguments.given.items) _ (stands c.in_ok-stands.stands) p (get_some c.args.arguments.now c.arguments.at 0 k) (ap (map stands) c.in_ok-push.ensures.items ∙ map_snoc stands c.arguments.given.items c.in_ok-stands.stands) c.arguments.invariant c.in_ok-stands.ensures

pub array_named-returns : goal.array_named-returns
array_named-returns t c = ok_map _ c.add_form.result (λ n h. array_brought (source_of c.args.context.now) (parameters_of c.args.scope) (given_in c.args.scope) c.args.element c.args.length c.in_ok-count.count (texts_of c.in_ok-names.names.items) (texts_of c.as_slice.result.now) (string_bytes n) c.in_ok-count.ensures (ap texts_of c.as_slice.ensures.value) c.in_ok-names.ensures h) c.add_form.ensures

pub item_named-returns-in-Alias : goal.item_named-returns-in-Alias
item_named-returns-in-Alias t c = ok_map _ c.named.result (λ n p. named_alias (source_of c.args.context.now) c.args.at c.args.item.now (map stands c.args.given.items) c.in-Alias.to (string_bytes n) c.as_slice.result.now (map stands c.as_slice-in-Alias.result.now) c.in-Alias.is c.as_slice.ensures.value (ap (map stands) c.as_slice-in-Alias.ensures.value) p) c.named.ensures

pub item_named-returns-in-Struct : goal.item_named-returns-in-Struct
item_named-returns-in-Struct t c = ok_map _ c.used_named.result (λ n h. named_own (source_of c.args.context.now) c.args.at c.args.item.now (map stands c.args.given.items) (string_bytes n) (subst (λ k. IsOwn k) (sym c.in-Struct.is) tt) h.0 h.1) c.used_named.ensures

pub item_named-returns-in-Enum : goal.item_named-returns-in-Enum
item_named-returns-in-Enum t c = ok_map _ c.used_named-in-Enum.result (λ n h. named_own (source_of c.args.context.now) c.args.at c.args.item.now (map stands c.args.given.items) (string_bytes n) (subst (λ k. IsOwn k) (sym c.in-Enum.is) tt) h.0 h.1) c.used_named-in-Enum.ensures

pub named-returns-in-Given : goal.named-returns-in-Given
named-returns-in-Given t c = ok_map _ c.given_name.result (λ n e. named_given (source_of c.args.context.now) (parameters_of c.args.scope) (given_in c.args.scope) c.args.at c.in-Some.written.now (sym c.in-Some.ensures) c.in-Given.given (string_bytes n) (definitions_so_far c.args.output.now) (uses_in c.args.output.now) (subst (λ z. IsHead (source_of c.args.context.now) (parameters_of c.args.scope) (given_in c.args.scope) c.in-Some.written.now.kind z) c.in-Given.is c.in_ok-given.ensures) e) c.given_name.ensures

pub named-returns-in_ok-names-in-Format : goal.named-returns-in_ok-names-in-Format
named-returns-in_ok-names-in-Format t c = ok_map _ c.add_form.result (λ n f. named_form (source_of c.args.context.now) (parameters_of c.args.scope) (given_in c.args.scope) c.args.at c.in-Some.written.now (sym c.in-Some.ensures) c.in-Format.stem c.in-Format.kind c.in-Format.parts c.as_slice.result.now (texts_of c.in_ok-names-in-Format.names.items) (texts_of c.as_slice-in-Format.result.now) (string_bytes n) (subst (λ z. IsHead (source_of c.args.context.now) (parameters_of c.args.scope) (given_in c.args.scope) c.in-Some.written.now.kind z) c.in-Format.is c.in_ok-given.ensures) c.as_slice.ensures.value (ap texts_of c.as_slice-in-Format.ensures.value) c.in_ok-names-in-Format.ensures f) c.add_form.ensures

pub named-returns-in-Array : goal.named-returns-in-Array
named-returns-in-Array t c = ok_map _ c.array_named.result (λ n p. named_array (source_of c.args.context.now) (parameters_of c.args.scope) (given_in c.args.scope) c.args.at c.in-Some.written.now (sym c.in-Some.ensures) c.in-Array.element c.in-Array.length (string_bytes n) (subst (λ z. IsHead (source_of c.args.context.now) (parameters_of c.args.scope) (given_in c.args.scope) c.in-Some.written.now.kind z) c.in-Array.is c.in_ok-given.ensures) p) c.array_named.ensures

pub named-returns-in_ok-given-in-Item : goal.named-returns-in_ok-given-in-Item
named-returns-in_ok-given-in-Item t c = ok_map _ c.item_named.result (λ n m. named_item (source_of c.args.context.now) (parameters_of c.args.scope) (given_in c.args.scope) c.args.at c.in-Some.written.now (sym c.in-Some.ensures) c.in-Item.at c.in-Item.item c.in-Item.arguments (map stands c.in_ok-given-in-Item.given.items) (string_bytes n) (subst (λ z. IsHead (source_of c.args.context.now) (parameters_of c.args.scope) (given_in c.args.scope) c.in-Some.written.now.kind z) c.in-Item.is c.in_ok-given.ensures) c.in_ok-given-in-Item.ensures m) c.item_named.ensures

pub one_given-returns-then-parameter : goal.one_given-returns-then-parameter
one_given-returns-then-parameter t c = brought_none _ _ (gives_number c.if-parameter.true c.in_ok-number.ensures)

pub one_given-returns-in_ok-named : goal.one_given-returns-in_ok-named
one_given-returns-in_ok-named t c =
    let e = ap (λ n. reads (source_of c.args.context.now) n c.args.item.now.kind) (sym c.as_str.ensures.value) ∙ sym c.in_ok-reads.ensures ∙ c.if-branch.true in
    brought_as c.in_ok-named.ensures (λ ds us m. gives_type c.if-parameter.false e m)

pub one_given-returns-else-branch : goal.one_given-returns-else-branch
one_given-returns-else-branch t c =
    let e = ap (λ n. reads (source_of c.args.context.now) n c.args.item.now.kind) (sym c.as_str.ensures.value) ∙ sym c.in_ok-reads.ensures ∙ c.if-branch.false in
    brought_none _ _ (gives_nothing c.if-parameter.false e)
