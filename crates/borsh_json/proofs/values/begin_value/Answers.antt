use Rattle.std.proofs.lemmas.Result.{err_from_is_err_and}
use Rattle.borsh_json.specs.{declared.kinds.Kind.TheVariants.{Text, ByteList, Numbers}, Forms.{form_of}, Found.{forms_of, names_of}}
use Rattle.borsh_json.proofs.WholeLaws.{leaf_whole, primitive_found, primitive_no_list}
use Rattle.borsh_json.proofs.values.begin_value.Goals as goal

pub returns-in_err-write_primitive-in-Number : goal.returns-in_err-write_primitive-in-Number
returns-in_err-write_primitive-in-Number c h x parts i o k =
    let d = c.args.json.now in
    let q = err_from_is_err_and c.from_residual.result c.from_residual.ensures.1 in
    let p = primitive_found (forms_of d) x c.args.node.now.bytes.now (names_of d) (form_of c.args.node.now.definition.now) c.args.kind c.in-Number.is k in
    rw (q.1, q.2) (c.in_err-write_primitive-in-Number.ensures p.1 p.2 (forms_of d) (names_of d) x parts o k).1

pub returns-in_err-write_text-in-Text : goal.returns-in_err-write_text-in-Text
returns-in_err-write_text-in-Text c h x parts i o k =
    let q = err_from_is_err_and c.from_residual-in_err-write_text-in-Text.result c.from_residual-in_err-write_text-in-Text.ensures.1 in
    rw (q.1, q.2) (c.in_err-write_text-in-Text.ensures _ (names_of c.args.json.now) x parts o (rw c.in-Text.is at k)).1

pub returns-in_err-write_byte_list-in-ByteList : goal.returns-in_err-write_byte_list-in-ByteList
returns-in_err-write_byte_list-in-ByteList c h x parts i o k =
    let q = err_from_is_err_and c.from_residual-in_err-write_byte_list-in-ByteList.result c.from_residual-in_err-write_byte_list-in-ByteList.ensures.1 in
    rw (q.1, q.2) (c.in_err-write_byte_list-in-ByteList.ensures _ _ x parts o (rw c.in-ByteList.is at k)).1

pub returns-in_ok-write_primitive-in-Number : goal.returns-in_ok-write_primitive-in-Number
returns-in_ok-write_primitive-in-Number c h x parts i o k =
    let F = forms_of c.args.json.now in
    let ns = names_of c.args.json.now in
    let own = c.args.node.now.bytes.now in
    let f = form_of c.args.node.now.definition.now in
    let p = primitive_found F x own ns f c.args.kind c.in-Number.is k in
    let w = c.in_ok-write_primitive-in-Number.ensures p.1 p.2 F ns x parts o k in
    leaf_whole F x own ns f c.args.kind parts _ _ o w.0 (primitive_no_list F x own ns f c.args.kind p.1 p.2) (rw p.0 w.1)

pub returns-in_ok-write_text-in-Text : goal.returns-in_ok-write_text-in-Text
returns-in_ok-write_text-in-Text c h x parts i o k =
    let w = c.in_ok-write_text-in-Text.ensures _ (names_of c.args.json.now) x parts o (rw c.in-Text.is at k) in
    rw c.in-Text.is (leaf_whole _ x _ (names_of c.args.json.now) _ Text parts _ _ o w.0 (λ es e. cc) w.1)

pub returns-in_ok-write_byte_list-in-ByteList : goal.returns-in_ok-write_byte_list-in-ByteList
returns-in_ok-write_byte_list-in-ByteList c h x parts i o k =
    let w = c.in_ok-write_byte_list-in-ByteList.ensures _ (names_of c.args.json.now) x parts o (rw c.in-ByteList.is at k) in
    rw c.in-ByteList.is (leaf_whole _ x _ (names_of c.args.json.now) _ (ByteList c.in-ByteList.elements) parts _ _ o w.0 (λ es e. cc) w.1)

pub returns-in_ok-write_numbers-in-Numbers : goal.returns-in_ok-write_numbers-in-Numbers
returns-in_ok-write_numbers-in-Numbers c h x parts i o k =
    let w = c.in_ok-write_numbers-in-Numbers.ensures x parts o (rw c.in-Numbers.is at k) in
    rw c.in-Numbers.is (leaf_whole _ x _ (names_of c.args.json.now) _ (Numbers c.in-Numbers.elements) parts _ _ o w.0 (λ es e. cc) w.1)

pub returns-in-List : goal.returns-in-List
returns-in-List c h x parts i o k = rw c.in-List.is (c.begin_list.ensures _ _ c.args.at x parts i o (rw c.in-List.is at k))

pub returns-in-Map : goal.returns-in-Map
returns-in-Map c h x parts i o k = rw c.in-Map.is (c.begin_map.ensures _ _ c.args.at c.in-Map.field-1 x parts i o (rw c.in-Map.is at k))

pub returns-in-Optional : goal.returns-in-Optional
returns-in-Optional c h x parts i o k = rw c.in-Optional.is (c.begin_option.ensures _ _ c.args.at x parts i o (rw c.in-Optional.is at k))

pub returns-in-Choice : goal.returns-in-Choice
returns-in-Choice c h x parts i o k = rw c.in-Choice.is (c.begin_variant.ensures c.in-Choice.field-0 x parts i o (rw c.in-Choice.is at k))
