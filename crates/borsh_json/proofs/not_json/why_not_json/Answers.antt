use Rattle.std.proofs.Common.{◌≡◌, ◌⊎◌, inl, inr, ℕ, suc, zero, ◌-◌, ◌<◌, List, [], ◌∷◌, ◌++◌, length, Bool, Option, Some, None, refl, sym, ◌∙◌, ap, arith, length-append, IsSome, Vec, vec_len, Global, option_to_list}
use Rattle.json.specs.{Lex.{tokens}, Reads.{token_of}, declared.token.Token.{Token}, declared.token.Token.TheVariants.{BeginObject, EndObject, BeginArray, EndArray, Key, String, Number, Bool as Truth, Null, Bad}}
use Rattle.borsh_json.specs.Errors.{open_after}
use Rattle.borsh_json.proofs.{TextLaws.{read_more}, not_json.why_not_json.Goals.{in-BeginArray+else-len-ge-MAX_DEPTH+in-Ok-push, in-EndArray, in_default-token}}
use Rattle.borsh_json.proofs.not_json.why_not_json.Goals as goal

opens : (n : ℕ) (t : Token) → (t ≡ BeginArray) ⊎ (t ≡ BeginObject) → open_after n (token_of t) ≡ suc n
opens n t (inl e) = ap (λ t. open_after n (token_of t)) e
opens n t (inr e) = ap (λ t. open_after n (token_of t)) e

closes : (n : ℕ) (t : Token) → (t ≡ EndArray) ⊎ (t ≡ EndObject) → open_after n (token_of t) ≡ n - 1
closes n t (inl e) = ap (λ t. open_after n (token_of t)) e
closes n t (inr e) = ap (λ t. open_after n (token_of t)) e

others : (n : ℕ) (t : Token) → (t ≡ BeginObject → ⊥) → (t ≡ EndObject → ⊥) → (t ≡ BeginArray → ⊥) → (t ≡ EndArray → ⊥) → open_after n (token_of t) ≡ n
others n BeginObject a b c d = absurd (a refl)
others n EndObject a b c d = absurd (b refl)
others n BeginArray a b c d = absurd (c refl)
others n EndArray a b c d = absurd (d refl)
others n (Key s) a b c d = refl
others n (String s) a b c d = refl
others n (Number s) a b c d = refl
others n (Truth s) a b c d = refl
others n Null a b c d = refl
others n Bad a b c d = refl

popped : (o : Option Bool) (a : ℕ) (old new : List Bool) → old ≡ new ++ option_to_list o → (0 < a → IsSome o) → a ≡ length old → length old - 1 ≡ length new
popped None zero old new e v q = let l = ap (λ (l : List Bool). length l) e in let k = length-append new [] in omega (arith, l, k, q)
popped None (suc a) old new e v q = let z = v (omega arith) in absurd cc
popped (Some x) a old new e v q = let l = ap (λ (l : List Bool). length l) e in let k = length-append new (x ∷ []) in omega (arith, l, k)

pub returns-then-len-ge-MAX_DEPTH : goal.returns-then-len-ge-MAX_DEPTH
returns-then-len-ge-MAX_DEPTH c =
    let n = length c.loop.open.items in
    let o = opens n c.in-Some.token c.in-BeginArray.is in
    let r = read_more (tokens c.args.text.now) c.loop.reader c.next.new.self n (suc n) (token_of c.in-Some.token) c.in-Some.ensures.value o c.loop.invariant in
    let e = r.2 in
    let l = c.len.ensures in
    let m = c.if-len-ge-MAX_DEPTH.true in
    let k = c.loop.open.ok.0 in
    (refl, (refl, c.new-steps.ensures.items, (r.0, c.next.new.self, r.1, omega (arith, e, l, m, k))))

pub loop-preserved : goal.loop-preserved
loop-preserved c =
    let old = c.loop.open.items in
    let n = length old in
    let m = length c.match-token.open.items in
    let t = c.in-Some.token in
    let more = read_more (tokens c.args.text.now) c.loop.reader c.next.new.self n m (token_of t) c.in-Some.ensures.value in
    let count : Vec Bool Global → ℕ = λ v. length v.items in
    elim c.match-token.branch [
      | in-BeginArray+else-len-ge-MAX_DEPTH+in-Ok-push w ↦ (let l = ap count w.open-is in let k = ap (λ (l : List Bool). length l) w.in-Ok-push.ensures.items in let a = length-append old (w.match-matches-2.matches ∷ []) in more (opens n t w.in-BeginArray.is ∙ omega (arith, l, k, a)) c.loop.invariant)
      | in-EndArray w ↦ more (closes n t w.in-EndArray.is ∙ popped w.pop-closed.result (vec_len c.loop.open) old w.pop-closed.new.self.items w.pop-closed.ensures.items w.pop-closed.ensures.variant.1 c.loop.open.ok.0 ∙ sym (ap count w.open-is)) c.loop.invariant
      | in_default-token w ↦ more (others n t w.in_default-token.not-BeginObject w.in_default-token.not-EndObject w.in_default-token.not-BeginArray w.in_default-token.not-EndArray ∙ sym (ap count w.open-is)) c.loop.invariant
    ]
