use Rattle.std.proofs.Common.{refl, sym, ◌∙◌, ap, subst}
use Rattle.borsh_json.specs.declared.kinds.Kind.TheVariants.{Number, Bool as Truth, Text, Bytes, Float, ByteList, Numbers, List as Elements, Map, Row, Object, Optional, Choice, Refused}
use Rattle.borsh_json.specs.Forms.{form_of}
use Rattle.borsh_json.specs.Table.{HasKind, raw}
use Rattle.borsh_compare.specs.Alike.{field_names, forms_of, itself, of_optional, of_raw, of_truth, of_utf8, unsaid}
use Rattle.borsh_compare.proofs.Found.{at_kinds, of_byte_lists, of_choices, of_floats, of_kinds, of_lists, of_maps, of_numbers, of_objects, of_rows, pairing}
use Rattle.borsh_compare.proofs.Parts.{ok_map}
use Rattle.borsh_compare.proofs.alike.kinds_alike.Goals as goal

pub returns-in-Refused-default : goal.returns-in-Refused-default
returns-in-Refused-default c = λ h.
    at_kinds c.args.both.old.now c.args.both.new.now c.args.pairs.now.list.items c.args.at.old c.args.at.new c.args.old.0.now c.args.new.0.now (Refused c.in-Refused-default.field-0-0) c.args.new.1 c.in-Refused-default.is-0 refl
    (λ x y ix iy fx gy p q. unsaid itself p.0)

pub returns-in-Number-Number : goal.returns-in-Number-Number
returns-in-Number-Number c = λ h.
    at_kinds c.args.both.old.now c.args.both.new.now c.args.pairs.now.list.items c.args.at.old c.args.at.new c.args.old.0.now c.args.new.0.now (Number c.in-Number-Number.a) (Number c.in-Number-Number.b) c.in-Number-Number.is-0 c.in-Number-Number.is-1
    (λ x y ix iy fx gy p q. of_numbers c.args.both.old.now c.args.both.new.now c.args.pairs.now.list.items c.args.at.old c.args.at.new x y ix iy (form_of c.args.old.0.now) (form_of c.args.new.0.now) fx gy c.in-Number-Number.a c.in-Number-Number.b (c.numbers_alike.ensures.size h) (c.numbers_alike.ensures.signed h) (c.numbers_alike.ensures.zero h) p q)

pub returns-in-Bool-Bool : goal.returns-in-Bool-Bool
returns-in-Bool-Bool c = λ h.
    at_kinds c.args.both.old.now c.args.both.new.now c.args.pairs.now.list.items c.args.at.old c.args.at.new c.args.old.0.now c.args.new.0.now Truth Truth c.in-Bool-Bool.is-0 c.in-Bool-Bool.is-1
    (λ x y ix iy fx gy p q. of_kinds c.args.both.old.now c.args.both.new.now c.args.pairs.now.list.items c.args.at.old c.args.at.new x y ix iy (form_of c.args.old.0.now) (form_of c.args.new.0.now) fx gy p q of_truth)

pub returns-in-Text-Text : goal.returns-in-Text-Text
returns-in-Text-Text c = λ h.
    at_kinds c.args.both.old.now c.args.both.new.now c.args.pairs.now.list.items c.args.at.old c.args.at.new c.args.old.0.now c.args.new.0.now Text Text c.in-Text-Text.is-0 c.in-Text-Text.is-1
    (λ x y ix iy fx gy p q. of_kinds c.args.both.old.now c.args.both.new.now c.args.pairs.now.list.items c.args.at.old c.args.at.new x y ix iy (form_of c.args.old.0.now) (form_of c.args.new.0.now) fx gy p q (of_utf8 (c.lengths_lie.ensures h)))

pub returns-in-Bytes-Bytes : goal.returns-in-Bytes-Bytes
returns-in-Bytes-Bytes c = λ h.
    at_kinds c.args.both.old.now c.args.both.new.now c.args.pairs.now.list.items c.args.at.old c.args.at.new c.args.old.0.now c.args.new.0.now (Bytes c.in-Bytes-Bytes.m) (Bytes c.in-Bytes-Bytes.n) c.in-Bytes-Bytes.is-0 c.in-Bytes-Bytes.is-1
    (λ x y ix iy fx gy p q. of_kinds c.args.both.old.now c.args.both.new.now c.args.pairs.now.list.items c.args.at.old c.args.at.new x y ix iy (form_of c.args.old.0.now) (form_of c.args.new.0.now) fx gy p (subst (λ r. HasKind (forms_of c.args.both.new.now) y (raw r)) (sym c.if-m-n.true) q) of_raw)

pub returns-in-Float-Float : goal.returns-in-Float-Float
returns-in-Float-Float c = λ h.
    at_kinds c.args.both.old.now c.args.both.new.now c.args.pairs.now.list.items c.args.at.old c.args.at.new c.args.old.0.now c.args.new.0.now (Float c.in-Float-Float.k) (Float c.in-Float-Float.l) c.in-Float-Float.is-0 c.in-Float-Float.is-1
    (λ x y ix iy fx gy p q. of_floats c.args.both.old.now c.args.both.new.now c.args.pairs.now.list.items c.args.at.old c.args.at.new x y ix iy (form_of c.args.old.0.now) (form_of c.args.new.0.now) fx gy c.in-Float-Float.k c.in-Float-Float.l c.if-k-l.true p q)

pub returns-then-lengths_lie : goal.returns-then-lengths_lie
returns-then-lengths_lie c = λ h.
    at_kinds c.args.both.old.now c.args.both.new.now c.args.pairs.now.list.items c.args.at.old c.args.at.new c.args.old.0.now c.args.new.0.now (ByteList c.in-ByteList-ByteList.a) (ByteList c.in-ByteList-ByteList.b) c.in-ByteList-ByteList.is-0 c.in-ByteList-ByteList.is-1
    (λ x y ix iy fx gy p q. of_byte_lists c.args.both.old.now c.args.both.new.now c.args.pairs.now.list.items c.args.at.old c.args.at.new x y ix iy (form_of c.args.old.0.now) (form_of c.args.new.0.now) fx gy c.in-ByteList-ByteList.a c.in-ByteList-ByteList.b (c.lengths_lie-in-ByteList-ByteList.ensures c.if-lengths_lie.true) (c.elements_paired.ensures h) p q)

pub returns-then-lengths_lie-2 : goal.returns-then-lengths_lie-2
returns-then-lengths_lie-2 c = λ h.
    at_kinds c.args.both.old.now c.args.both.new.now c.args.pairs.now.list.items c.args.at.old c.args.at.new c.args.old.0.now c.args.new.0.now (Numbers c.in-Numbers-Numbers.a) (Numbers c.in-Numbers-Numbers.b) c.in-Numbers-Numbers.is-0 c.in-Numbers-Numbers.is-1
    (λ x y ix iy fx gy p q. of_lists c.args.both.old.now c.args.both.new.now c.args.pairs.now.list.items c.args.at.old c.args.at.new x y ix iy (form_of c.args.old.0.now) (form_of c.args.new.0.now) fx gy c.in-Numbers-Numbers.a.at c.in-Numbers-Numbers.b.at (c.lengths_lie-in-Numbers-Numbers.ensures c.if-lengths_lie-2.true) (c.elements_paired-then-lengths_lie-2.ensures h) p.0 q.0)

pub returns-then-lengths_lie-3 : goal.returns-then-lengths_lie-3
returns-then-lengths_lie-3 c = λ h.
    at_kinds c.args.both.old.now c.args.both.new.now c.args.pairs.now.list.items c.args.at.old c.args.at.new c.args.old.0.now c.args.new.0.now (Elements c.in-List-List.a) (Elements c.in-List-List.b) c.in-List-List.is-0 c.in-List-List.is-1
    (λ x y ix iy fx gy p q. of_lists c.args.both.old.now c.args.both.new.now c.args.pairs.now.list.items c.args.at.old c.args.at.new x y ix iy (form_of c.args.old.0.now) (form_of c.args.new.0.now) fx gy c.in-List-List.a.at c.in-List-List.b.at (c.lengths_lie-in-List-List.ensures c.if-lengths_lie-3.true) (c.elements_paired-then-lengths_lie-3.ensures h) p.0 q.0)

pub returns-then-lengths_lie-4 : goal.returns-then-lengths_lie-4
returns-then-lengths_lie-4 c = λ h.
    at_kinds c.args.both.old.now c.args.both.new.now c.args.pairs.now.list.items c.args.at.old c.args.at.new c.args.old.0.now c.args.new.0.now (Map c.in-Map-Map.a c.in-Map-Map.field-1-0) (Map c.in-Map-Map.b c.in-Map-Map.field-1-1) c.in-Map-Map.is-0 c.in-Map-Map.is-1
    (λ x y ix iy fx gy p q. of_maps c.args.both.old.now c.args.both.new.now c.args.pairs.now.list.items c.args.at.old c.args.at.new x y ix iy (form_of c.args.old.0.now) (form_of c.args.new.0.now) fx gy c.in-Map-Map.a c.in-Map-Map.b (c.lengths_lie-in-Map-Map.ensures c.if-lengths_lie-4.true) (c.entries_paired.ensures.kind h) (c.entries_paired.ensures.key h) (c.entries_paired.ensures.value h) p q)

pub returns-in-Row-Row : goal.returns-in-Row-Row
returns-in-Row-Row c = λ h.
    at_kinds c.args.both.old.now c.args.both.new.now c.args.pairs.now.list.items c.args.at.old c.args.at.new c.args.old.0.now c.args.new.0.now (Row c.in-Row-Row.field-0-0) (Row c.in-Row-Row.field-0-1) c.in-Row-Row.is-0 c.in-Row-Row.is-1
    (λ x y ix iy fx gy p q. of_rows c.args.both.old.now c.args.both.new.now c.args.pairs.now.list.items c.args.at.old c.args.at.new x y ix iy (form_of c.args.old.0.now) (form_of c.args.new.0.now) fx gy (c.parts_paired.ensures h) p.0 q.0)

pub returns-then-fields_alike : goal.returns-then-fields_alike
returns-then-fields_alike c = λ h.
    at_kinds c.args.both.old.now c.args.both.new.now c.args.pairs.now.list.items c.args.at.old c.args.at.new c.args.old.0.now c.args.new.0.now (Object c.in-Object-Object.a) (Object c.in-Object-Object.b) c.in-Object-Object.is-0 c.in-Object-Object.is-1
    (λ x y ix iy fx gy p q. of_objects c.args.both.old.now c.args.both.new.now c.args.pairs.now.list.items c.args.at.old c.args.at.new x y ix iy (form_of c.args.old.0.now) (form_of c.args.new.0.now) fx gy c.in-Object-Object.a.now.items c.in-Object-Object.b.now.items (ap field_names (sym c.as_slice.ensures.value) ∙ c.fields_alike.ensures c.if-fields_alike.true ∙ ap field_names c.as_slice-in-Object-Object.ensures.value) (c.parts_paired-then-fields_alike.ensures h) p.0 q.0)

pub returns-in-Optional-Optional : goal.returns-in-Optional-Optional
returns-in-Optional-Optional c = λ h.
    at_kinds c.args.both.old.now c.args.both.new.now c.args.pairs.now.list.items c.args.at.old c.args.at.new c.args.old.0.now c.args.new.0.now (Optional c.in-Optional-Optional.a) (Optional c.in-Optional-Optional.b) c.in-Optional-Optional.is-0 c.in-Optional-Optional.is-1
    (λ x y ix iy fx gy p q. of_kinds c.args.both.old.now c.args.both.new.now c.args.pairs.now.list.items c.args.at.old c.args.at.new x y ix iy (form_of c.args.old.0.now) (form_of c.args.new.0.now) fx gy p.2 q.2 (of_optional (pairing c.args.both.old.now c.args.both.new.now (c.has.ensures.is h) p.1 q.1)))

pub returns-in-Choice-Choice : goal.returns-in-Choice-Choice
returns-in-Choice-Choice c = ok_map _ _ c.variants_alike.result (λ b f h.
    at_kinds c.args.both.old.now c.args.both.new.now c.args.pairs.now.list.items c.args.at.old c.args.at.new c.args.old.0.now c.args.new.0.now (Choice c.in-Choice-Choice.v c.in-Choice-Choice.variants) (Choice c.in-Choice-Choice.w c.in-Choice-Choice.others) c.in-Choice-Choice.is-0 c.in-Choice-Choice.is-1
    (λ x y ix iy fx gy p q. of_choices c.args.both.old.now c.args.both.new.now c.args.pairs.now.list.items c.args.at.old c.args.at.new x y ix iy (form_of c.args.old.0.now) (form_of c.args.new.0.now) fx gy c.in-Choice-Choice.v c.in-Choice-Choice.w c.in-Choice-Choice.variants.now.items c.in-Choice-Choice.others.now.items c.if-v-w.true (f h) q.1 p.0 q.0)) c.variants_alike.ensures
