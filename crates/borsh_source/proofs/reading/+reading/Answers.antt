use Rattle.std.proofs.Common.{◌≡◌, sym, ◌∙◌, ap, true, false}
use Rattle.std.specs.Prelude.{codes, string_bytes}
use Rattle.std.specs.Str.{bytes_eq}
use Rattle.std.specs.List.{list_any}
use Rattle.borsh_source.specs.Reading.{names, kind_names, path_names}
use Rattle.borsh_source.specs.Views.{source_of}
use Rattle.borsh_source.proofs.Names.{names_nowhere, names_there, path_phantom, path_other}
use Rattle.borsh_source.proofs.Results.{ok_map}
use Rattle.borsh_source.proofs.reading.+reading.Goals as goal

pub names-returns-in_default : goal.names-returns-in_default
names-returns-in_default t c = sym (names_nowhere (source_of c.args.context.now) c.args.depth c.args.parameter.now c.args.at (sym c.in_default.ensures))

pub names-returns-then-eq : goal.names-returns-then-eq
names-returns-then-eq t c =
    let there = names_there (source_of c.args.context.now) c.args.depth c.in_ok-less.less c.args.parameter.now c.args.at c.in-Some.written.now c.in_ok-less.ensures (sym c.in-Some.ensures) in
    let e : bytes_eq (string_bytes c.in-Path.name) (codes "PhantomData") ≡ true = ap (λ n. bytes_eq n (codes "PhantomData")) (sym c.as_str.ensures.value) ∙ sym c.eq.ensures ∙ c.if-eq.true in
    sym (there ∙ ap (kind_names (names (source_of c.args.context.now) c.in_ok-less.less c.args.parameter.now) c.args.parameter.now) c.in-Path.is ∙ path_phantom (names (source_of c.args.context.now) c.in_ok-less.less c.args.parameter.now) c.args.parameter.now c.in-Path.name c.in-Path.arguments e)

pub names-returns-else-eq : goal.names-returns-else-eq
names-returns-else-eq t c =
    let there = names_there (source_of c.args.context.now) c.args.depth c.in_ok-less.less c.args.parameter.now c.args.at c.in-Some.written.now c.in_ok-less.ensures (sym c.in-Some.ensures) in
    let e : bytes_eq (string_bytes c.in-Path.name) (codes "PhantomData") ≡ false = ap (λ n. bytes_eq n (codes "PhantomData")) (sym c.as_str.ensures.value) ∙ sym c.eq.ensures ∙ c.if-eq.false in
    let as_it_is = sym (there ∙ ap (kind_names (names (source_of c.args.context.now) c.in_ok-less.less c.args.parameter.now) c.args.parameter.now) c.in-Path.is ∙ path_other (names (source_of c.args.context.now) c.in_ok-less.less c.args.parameter.now) c.args.parameter.now c.in-Path.name c.in-Path.arguments e) in
    ok_map _ c.path_names.result (λ b h. h ∙ ap (λ n. path_names (names (source_of c.args.context.now) c.in_ok-less.less c.args.parameter.now) c.args.parameter.now n c.as_slice.result.now) c.as_str-in-Path.ensures.value ∙ ap (λ l. path_names (names (source_of c.args.context.now) c.in_ok-less.less c.args.parameter.now) c.args.parameter.now (string_bytes c.in-Path.name) l) c.as_slice.ensures.value ∙ as_it_is) c.path_names.ensures

pub names-returns-in-Reference : goal.names-returns-in-Reference
names-returns-in-Reference t c =
    let there = names_there (source_of c.args.context.now) c.args.depth c.in_ok-less.less c.args.parameter.now c.args.at c.in-Some.written.now c.in_ok-less.ensures (sym c.in-Some.ensures) in
    ok_map _ c.names.result (λ b h. h ∙ sym (there ∙ ap (kind_names (names (source_of c.args.context.now) c.in_ok-less.less c.args.parameter.now) c.args.parameter.now) c.in-Reference.is)) c.names.ensures

pub names-returns-in-Slice : goal.names-returns-in-Slice
names-returns-in-Slice t c =
    let there = names_there (source_of c.args.context.now) c.args.depth c.in_ok-less.less c.args.parameter.now c.args.at c.in-Some.written.now c.in_ok-less.ensures (sym c.in-Some.ensures) in
    ok_map _ c.names-in-Slice.result (λ b h. h ∙ sym (there ∙ ap (kind_names (names (source_of c.args.context.now) c.in_ok-less.less c.args.parameter.now) c.args.parameter.now) c.in-Slice.is)) c.names-in-Slice.ensures

pub names-returns-in-Array : goal.names-returns-in-Array
names-returns-in-Array t c =
    let there = names_there (source_of c.args.context.now) c.args.depth c.in_ok-less.less c.args.parameter.now c.args.at c.in-Some.written.now c.in_ok-less.ensures (sym c.in-Some.ensures) in
    ok_map _ c.names-in-Array.result (λ b h. h ∙ sym (there ∙ ap (kind_names (names (source_of c.args.context.now) c.in_ok-less.less c.args.parameter.now) c.args.parameter.now) c.in-Array.is)) c.names-in-Array.ensures

pub names-returns-in-Tuple : goal.names-returns-in-Tuple
names-returns-in-Tuple t c =
    let there = names_there (source_of c.args.context.now) c.args.depth c.in_ok-less.less c.args.parameter.now c.args.at c.in-Some.written.now c.in_ok-less.ensures (sym c.in-Some.ensures) in
    ok_map _ c.any_names.result (λ b h. h ∙ ap (λ l. list_any (names (source_of c.args.context.now) c.in_ok-less.less c.args.parameter.now) l) c.as_slice-in-Tuple.ensures.value ∙ sym (there ∙ ap (kind_names (names (source_of c.args.context.now) c.in_ok-less.less c.args.parameter.now) c.args.parameter.now) c.in-Tuple.is)) c.any_names.ensures

pub names-returns-in-Constant : goal.names-returns-in-Constant
names-returns-in-Constant t c =
    let there = names_there (source_of c.args.context.now) c.args.depth c.in_ok-less.less c.args.parameter.now c.args.at c.in-Some.written.now c.in_ok-less.ensures (sym c.in-Some.ensures) in
    sym (there ∙ ap (kind_names (names (source_of c.args.context.now) c.in_ok-less.less c.args.parameter.now) c.args.parameter.now) c.in-Constant.is)
