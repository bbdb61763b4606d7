use Rattle.std.proofs.{Common.{◌≡◌, ◌∙◌, ◌+◌, ◌-◌, ◌<◌, ℕ, List, length, get_or, false, refl, sym, ap, subst, arith, below_more}, lemmas.Option.{get_or_from_slice_get}}
use Rattle.borsh_json.proofs.{FrameLaws.{get_from}, RepeatedLaws.{Text, comes_twice, same_text, none_repeated, one_repeated}}
use Rattle.borsh_json.proofs.kinds.repeated_name.Goals as goal

same_at : (ks : List Text) (i j : ℕ) (a b d : Text) → i < length ks → j < length ks → a ≡ get_or ks i a → b ≡ get_or ks j b → same_text (get_or ks i d) (get_or ks j d) ≡ same_text a b
same_at ks i j a b d h l p q =
    ap (λ x. same_text x (get_or ks j d)) (get_or_from_slice_get ks i a d (get_from ks i a h p)) ∙ ap (λ y. same_text a y) (get_or_from_slice_get ks j b d (get_from ks j b l q))

pub returns : goal.returns
returns c =
    let ks = c.sort_unstable.new.self in
    none_repeated c.args.names.items ks.items c.sort_unstable.ensures.permutation c.sort_unstable.ensures.sorted (λ k d h. c.loop-index.invariant k d (let t = c.loop-index-test.false in let e = c.len-index-end.ensures in let o = ks.ok.0 in omega arith))

pub returns-then-eq : goal.returns-then-eq
returns-then-eq c =
    let ks = c.sort_unstable.new.self in
    let i = c.loop-index.index in
    let a = c.index-in-loop-index.result.now in
    let b = c.index.result.now in
    let l : i < length ks.items = (let t = c.loop-index-test.true in let e = c.len-index-end.ensures in let o = ks.ok.0 in omega arith) in
    let m : 1 < i + 1 = (let t = c.loop-index.auto.index in omega arith) in
    let e = same_at ks.items (i - 1) i a b b (omega arith) l c.index-in-loop-index.ensures c.index.ensures ∙ sym c.eq.ensures ∙ c.if-eq.true in
    let p = c.sort_unstable.ensures.permutation in
    let less : i - 1 < i = omega arith in
    (one_repeated c.args.names.items ks.items p (i - 1) i b less l e, comes_twice c.args.names.items ks.items p (i - 1) i b less l c.index.ensures e)

pub loop-index-preserved : goal.loop-index-preserved
loop-index-preserved c =
    let ks = c.sort_unstable.new.self in
    let i = c.loop-index.index in
    let a = c.index-in-loop-index.result.now in
    let b = c.index.result.now in
    let l : i < length ks.items = (let t = c.loop-index-test.true in let e = c.len-index-end.ensures in let o = ks.ok.0 in omega arith) in
    let Q : ℕ → Type 0 = λ m. (k : ℕ) (d : Text) → k + 1 ≡ m → same_text (get_or ks.items k d) (get_or ks.items (k + 1) d) ≡ false in
    let before : (m : ℕ) → m < i → Q m = λ m h k d e. c.loop-index.invariant k d (omega (arith, e, h)) in
    let here : Q i = λ k d e. (
    let q : i - 1 ≡ k = omega (arith, e) in
    let p = subst (λ (n : ℕ). a ≡ get_or ks.items n a) q c.index-in-loop-index.ensures in
    let r = subst (λ (n : ℕ). b ≡ get_or ks.items n b) (sym e) c.index.ensures in
    same_at ks.items k (k + 1) a b d (omega (arith, e, l)) (omega (arith, e, l)) p r ∙ sym c.eq.ensures ∙ c.if-eq.false) in
    λ k d h. below_more Q i before here (k + 1) h k d refl
