use Rattle.std.proofs.{Common.{◌≡◌, ◌+◌, ◌≤◌, ◌<◌, ap, sym, ◌∙◌, List, ℕ, suc, subst, length, arith, map, drop, string_bytes, get_or, ℤ, slice_get, Some, String, Global}, lemmas.Slice.Eq.{bytes_eq-Decides}}
use Rattle.borsh_json.specs.Table.{IsVariant}
use Rattle.borsh_json.proofs.{FrameLaws.{get_from, get_map, drop_all, length_map}, OpeningLaws.{variant_here, variant_later, no_variant}}
use Rattle.borsh_json.proofs.opening.first_named.Goals as goal

pub returns-then-eq : goal.returns-then-eq
returns-then-eq c =
    let h = c.in-Some.ensures.lookup in
    let xs = c.args.variants.now.items in
    let i = c.loop-tag.index in
    let a = c.in-Some.field-0.now in
    let f : ℤ × String Global × String Global → ℤ × List ℕ × List ℕ = λ v. (v.0, string_bytes v.1, string_bytes v.2) in
    let l : i < length xs = subst (λ ys. i < length ys) c.deref.ensures.value h.3.0 in
    let g : a ≡ get_or xs i a = h.1 ∙ ap (λ ys. get_or ys i a) c.deref.ensures.value in
    let q = (bytes_eq-Decides c.as_str.result.now c.args.name.now).0 (sym c.if-eq.ensures) in
    let e : string_bytes a.1 ≡ c.args.name.now = sym c.as_str.ensures.value ∙ q in
    let t : slice_get (map f xs) i ≡ Some (a.0, c.args.name.now, string_bytes a.2) = get_map f xs i a (get_from xs i a l g) ∙ ap (λ (n : List ℕ). Some (a.0, n, string_bytes a.2)) e in
    (c.as_str-then-eq.ensures.value ∙ e, string_bytes a.2, t, variant_here a.0 c.args.name.now (string_bytes a.2) (map f xs) i t)

pub loop-tag-preserved : goal.loop-tag-preserved
loop-tag-preserved c =
    let h = c.in-Some.ensures.lookup in
    let xs = c.args.variants.now.items in
    let i = c.loop-tag.index in
    let a = c.in-Some.field-0.now in
    let f : ℤ × String Global × String Global → ℤ × List ℕ × List ℕ = λ v. (v.0, string_bytes v.1, string_bytes v.2) in
    let l : i < length xs = subst (λ ys. i < length ys) c.deref.ensures.value h.3.0 in
    let g : a ≡ get_or xs i a = h.1 ∙ ap (λ ys. get_or ys i a) c.deref.ensures.value in
    let n : string_bytes a.1 ≡ c.args.name.now → ⊥ = (λ e. let q = (bytes_eq-Decides c.as_str.result.now c.args.name.now).1 (c.as_str.ensures.value ∙ e) in let f = c.if-eq.false in let r = c.eq.ensures in cc) in
    let s : suc i ≡ i + 1 = omega arith in
    record {
      within = omega (arith, l);
      later = λ k p v. subst (λ m. IsVariant k c.args.name.now p (drop m (map f xs))) s (variant_later k c.args.name.now p (map f xs) i (f a) (get_map f xs i a (get_from xs i a l g)) n (c.loop-tag.invariant.later k p v));
    }

pub returns : goal.returns
returns c k p v =
    let h = c.in_default.ensures.lookup in
    let xs = c.args.variants.now.items in
    let i = c.loop-tag.index in
    let f : ℤ × String Global × String Global → ℤ × List ℕ × List ℕ = λ v. (v.0, string_bytes v.1, string_bytes v.2) in
    let m : length xs ≤ i = subst (λ ys. length ys ≤ i) c.deref.ensures.value h.3 in
    no_variant k c.args.name.now p (drop i (map f xs)) (drop_all (map f xs) i (let e = length_map f xs in omega (arith, e, m))) (c.loop-tag.invariant.later k p v)
