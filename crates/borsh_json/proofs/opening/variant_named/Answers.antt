use Rattle.std.proofs.{Common.{◌≡◌, ◌<◌, ap, sym, ◌∙◌, List, ℕ, subst, length, map, string_bytes, get_or, ℤ, slice_get, Some, String, Global}, lemmas.Slice.Eq.{bytes_eq-Decides}}
use Rattle.borsh_json.proofs.{FrameLaws.{get_from, get_map}, OpeningLaws.{variant_here}}
use Rattle.borsh_json.proofs.opening.variant_named.Goals as goal

pub returns : goal.returns
returns c =
    let h = c.in-Some-get.ensures.lookup in
    let xs = c.args.variants.now.items in
    let i = c.in-Some.index in
    let a = c.in-Some-get.field-0.now in
    let f : ℤ × String Global × String Global → ℤ × List ℕ × List ℕ = λ v. (v.0, string_bytes v.1, string_bytes v.2) in
    let l : i < length xs = subst (λ ys. i < length ys) c.deref.ensures.value h.3.0 in
    let g : a ≡ get_or xs i a = h.1 ∙ ap (λ ys. get_or ys i a) c.deref.ensures.value in
    let q = (bytes_eq-Decides c.as_str.result.now c.args.name.now).0 (sym c.if-eq.ensures) in
    let e : string_bytes a.1 ≡ c.args.name.now = sym c.as_str.ensures.value ∙ q in
    let t : slice_get (map f xs) i ≡ Some (a.0, c.args.name.now, string_bytes a.2) = get_map f xs i a (get_from xs i a l g) ∙ ap (λ (n : List ℕ). Some (a.0, n, string_bytes a.2)) e in
    (c.as_str-2.ensures.value ∙ e, string_bytes a.2, t, variant_here a.0 c.args.name.now (string_bytes a.2) (map f xs) i t)
