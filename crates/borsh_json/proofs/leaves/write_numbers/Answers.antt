use Rattle.std.proofs.{Common.{◌≡◌, inl, inr, ℕ, suc, ◌<◌, List, [], length, ap, arith, refl, subst, sym}, lemmas.Bool.Decides.{nat_tests}}
use Rattle.borsh_json.specs.{Forms.{form_of}, Found.{IsPrimitiveKind, forms_of, names_of}, Leaves.{HasSize}, Places.{lengths_of}, Table.{primitive_kind}}
use Rattle.borsh_json.proofs.{LeafLaws.{primitive_sized}, ListLaws.{IsListing, few, list_refused, listing_end, listing_more, listing_start, no_items_there, no_list, numbers_there, piece_there, one_more, tells_count}}
use Rattle.borsh_json.proofs.leaves.write_numbers.Goals as goal

pub elements-init : goal.elements-init
elements-init c = (inl (refl, refl), λ F e k m p h s some q. listing_start F e c.from-size.result c.elements_of-rest.result.now c.args.out.now c.put.new.self c.in_ok-put.ensures)

pub elements-preserved : goal.elements-preserved
elements-preserved c =
    let size = c.from-size.result in
    let all = c.elements_of-rest.result.now in
    let rest = c.elements.rest.now in
    let n = c.elements.index in
    let bound : length all < 18446744073709551616 = elim c.elements.invariant.0 [
      | inl a ↦ (let e = ap (λ (l : List ℕ). length l) a.1 in omega (arith, e))
      | inr b ↦ b
    ] in (
      inr bound,
      λ F e k m p h s some q.
          let i = c.elements.invariant.1 F e k m p h s some q in
          let full : length rest ≡ 0 → ⊥ = λ z. (let t = c.elements-test.true in let b = c.is_empty.ensures in grind (arith, nat_tests)) in
          let room = one_more F e size all c.args.out.now c.elements.out rest n m q full i in
          let l : length c.split_at.result.0.now ≡ size = omega (arith, c.split_at.ensures.front_len, c.clamp.ensures, room, some) in
          let f = few F e size all c.args.out.now c.elements.out rest n room some i in
          let next : suc n ≡ c.saturating_add-index.result = (let u = c.saturating_add-index.ensures in omega (arith, u, f, bound)) in
          let t = listing_more F e size all c.args.out.now c.elements.out c.put_element.new.out rest c.split_at.result.0.now c.split_at.result.1.now n (c.in-Ok.ensures F e k p h (subst (λ n. HasSize k n) (sym l) s)) c.split_at.ensures.by_index.0 l i in
          subst (λ n. IsListing F e size all c.split_at.result.1.now n c.args.out.now c.put_element.new.out) next t,
    )

pub returns-in-Err : goal.returns-in-Err
returns-in-Err c = λ x parts o i.
    let F = forms_of c.args.json.now in
    let ns = names_of c.args.json.now in
    let n = c.args.node.now in
    let own = n.bytes.now in
    let size = c.from-size.result in
    let all = c.elements_of-rest.result.now in
    let rest = c.elements.rest.now in
    let piece = c.split_at.result.0.now in
    let t = numbers_there F ns x own all parts n.definition.now c.args.elements size o i c.elements_of-rest.ensures c.from-size.ensures in
    let k = primitive_kind t.1 size in
    let s = primitive_sized t.1 size in
    let p : IsPrimitiveKind c.kind_of_primitive-kind.result k = subst (λ m. IsPrimitiveKind c.kind_of_primitive-kind.result (primitive_kind t.1 m)) (sym c.from-size.ensures) (subst (λ (y : List ℕ). IsPrimitiveKind c.kind_of_primitive-kind.result (primitive_kind y c.args.elements.size)) (c.name.ensures t.1 t.2) c.kind_of_primitive-kind.ensures) in
    let g = c.elements.invariant.1 F t.1 k t.5.0 p t.4 s t.6 t.5.4 in
    let full : length rest ≡ 0 → ⊥ = λ z. (let t = c.elements-test.true in let b = c.is_empty.ensures in grind (arith, nat_tests)) in
    let room = one_more F t.1 size all c.args.out.now c.elements.out rest c.elements.index t.5.0 t.5.4 full g in
    let l : length piece ≡ size = omega (arith, c.split_at.ensures.front_len, c.clamp.ensures, room, t.6) in
    let w = lengths_of (form_of n.definition.now) in
    let there = piece_there F t.1 k size t.4 s own all rest piece c.split_at.result.1.now c.args.out.now c.elements.out w c.elements.index g t.5 c.split_at.ensures.by_index.0 l in
    (t.0, list_refused F c.in-Err.error w x t.1 own there.0 piece c.split_at.result.1.now c.elements.index t.3 there.1 there.2 (c.in-Err.ensures F t.1 k p t.4 (subst (λ n. HasSize k n) (sym l) s)) (no_list F t.1 k size t.4 s x own all rest piece c.split_at.result.1.now c.args.out.now c.elements.out (lengths_of (form_of n.definition.now)) c.elements.index g t.3 (tells_count (form_of n.definition.now) o.2) t.5 c.split_at.ensures.by_index.0 l t.6))

pub returns : goal.returns
returns c = λ x parts o i.
    let F = forms_of c.args.json.now in
    let ns = names_of c.args.json.now in
    let n = c.args.node.now in
    let own = n.bytes.now in
    let size = c.from-size.result in
    let all = c.elements_of-rest.result.now in
    let rest = c.elements.rest.now in
    let t = numbers_there F ns x own all parts n.definition.now c.args.elements size o i c.elements_of-rest.ensures c.from-size.ensures in
    let k = primitive_kind t.1 size in
    let s = primitive_sized t.1 size in
    let p : IsPrimitiveKind c.kind_of_primitive-kind.result k = subst (λ m. IsPrimitiveKind c.kind_of_primitive-kind.result (primitive_kind t.1 m)) (sym c.from-size.ensures) (subst (λ (y : List ℕ). IsPrimitiveKind c.kind_of_primitive-kind.result (primitive_kind y c.args.elements.size)) (c.name.ensures t.1 t.2) c.kind_of_primitive-kind.ensures) in
    let g = c.elements.invariant.1 F t.1 k t.5.0 p t.4 s t.6 t.5.4 in
    let none : rest ≡ [] = no_items_there rest (let f = c.elements-test.false in let b = c.is_empty.ensures in grind (arith, nat_tests)) in
    (t.0, listing_end F t.1 size all c.args.out.now c.elements.out c.put-2.new.self x own (lengths_of (form_of n.definition.now)) c.elements.index (subst (λ (r : List ℕ). IsListing F t.1 size all r c.elements.index c.args.out.now c.elements.out) none g) c.in_ok-put-2.ensures t.3 t.5 t.6)
