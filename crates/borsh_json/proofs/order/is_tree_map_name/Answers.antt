use Rattle.std.proofs.Common.{map, string_bytes}
use Rattle.borsh_json.proofs.{FoundLaws.{two_texts}, UnorderedLaws.{tree_decided}}
use Rattle.borsh_json.proofs.order.is_tree_map_name.Goals as goal

pub returns : goal.returns
returns c =
    let ps = c.args.parts.now in
    let k = c.as_str-key.result.now in
    let v = c.as_str-value.result.now in
    let e = two_texts ps c.index-parts-0.result c.index-parts-1.result k v c.if-parts-ne2.false c.index-parts-0.is c.index-parts-1.is c.as_str-key.ensures.value c.as_str-value.ensures.value in
    tree_decided c.args.name.now k v (map (λ p. string_bytes p) ps) e c.is_composed.result c.is_composed.ensures
