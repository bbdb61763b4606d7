use Rattle.std.proofs.Common.{◌≡◌, ◌∙◌, ℕ, length, take, List, [], sym, ap, subst, arith, length-take-le, false, ℤ}
use Rattle.std.specs.Prelude.{string_bytes, unwrap_or}
use Rattle.std.specs.{Ordering.nat_cmp, Ordering.is_eq, Map.lookup, BTreeMap.BTreeMap, BTreeMap.is_at}
use Rattle.borsh_values.specs.declared.{tags.Found.Found, tags.Found.TheVariants.Nothing}
use Rattle.std.proofs.lemmas.Bool.Decides.{nat_tests}
use Rattle.std.proofs.lemmas.List.{length-map}
use Rattle.borsh_values.specs.Tags.{IsTagTable, at_key, more_found}
use Rattle.borsh_values.proofs.TagLaws.{unnamed, got, got_none, table_none, table_more}
use Rattle.borsh_values.proofs.tags.table_of.Goals as goal

none_at : (t : BTreeMap ℕ Found) (n : ℕ) → t.entries ≡ [] → at_key t n ≡ Nothing
none_at t n e = ap (λ l. unwrap_or (lookup (is_at (nat_cmp n)) l) Nothing) e

pub loop-discriminant-init : goal.loop-discriminant-init
loop-discriminant-init c = record { within = omega arith; table = table_none c.args.width (at_key c.new-table.result) (λ n. none_at c.new-table.result n c.new-table.ensures.empty) }

other_key : (m n : ℕ) → (m ≡ n → ⊥) → is_eq (nat_cmp n m) ≡ false
other_key m n f = grind (arith, nat_tests)

pub loop-discriminant-preserved : goal.loop-discriminant-preserved
loop-discriminant-preserved c =
    let items = c.args.variants.now.items in
    let vs = unnamed items in
    let n = c.loop-discriminant.index in
    let f = c.in-Some.field-0.now in
    let v = got items _ n f c.deref.ensures.value c.in-Some.ensures.lookup.3.0 c.in-Some.ensures.lookup.1 in
    let k = length-map {B = ℤ × List ℕ} items (λ v. (v.0, string_bytes v.2)) in
    let long : length (take n vs) ≡ n = length-take-le n vs (omega (arith, v.within, k)) in
    let key = c.tag_key-key.result in
    let new = c.insert.new.self in
    let u = c.in_ok-insert.ensures.updates in
    record {
      within = omega (arith, v.within);
      table = subst (λ l. IsTagTable c.args.width l (at_key new)) (sym v.next) (table_more c.loop-discriminant.invariant.table f.0 (string_bytes f.2) key c.tag_key-key.ensures n long
          (ap (λ o. unwrap_or o Nothing) u.1 ∙ c.add-found.ensures ∙ ap (λ f. more_found f n) c.found_at.ensures)
          (λ m g. ap (λ o. unwrap_or o Nothing) (u.2 m (other_key m key g))));
    }

pub returns : goal.returns
returns c =
    let items = c.args.variants.now.items in
    let l = c.in_default.ensures.lookup in
    let whole = got_none items _ c.loop-discriminant.index c.deref.ensures.value l.3 in
    subst (λ l. IsTagTable c.args.width l (at_key c.loop-discriminant.table)) whole c.loop-discriminant.invariant.table
