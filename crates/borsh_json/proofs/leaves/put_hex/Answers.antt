use Rattle.std.proofs.{Common.{◌∙◌, ◌<◌, [], ◌∷◌, List, ℕ, ap, arith, refl, subst, sym, IsAscii, IsOk, IsUtf8, MatchResult, Result, Ok, Err}, lemmas.Str.{IsUtf8-from_ascii}, lemmas.Str.Ascii.{IsAscii-cons, IsAscii-nil}}
use Rattle.std.specs.List.{AllByRecursion}
use Rattle.hex.proofs.HexLemmas.{IsAscii-encode_with, decode_of-encode_lower}
use Rattle.hex.specs.Hex.{encode_lower, lower_digits}
use Rattle.json.specs.Json.{string}
use Rattle.borsh_json.proofs.leaves.put_hex.Goals as goal

ascii : (bs : List ℕ) → AllByRecursion (λ b. b < 128) bs → IsAscii bs
ascii [] h = IsAscii-nil
ascii (b ∷ bs) h = IsAscii-cons b bs h.0 (ascii bs h.1)

text_is : (own : List ℕ) → IsUtf8 (48 ∷ 120 ∷ encode_lower own)
text_is own = IsUtf8-from_ascii (48 ∷ 120 ∷ encode_lower own) (IsAscii-cons 48 (120 ∷ encode_lower own) (omega arith) (IsAscii-cons 120 (encode_lower own) (omega arith) (IsAscii-encode_with lower_digits own (ascii lower_digits (omega arith)))))

is_ok_if : {A E : Type 0} (P : A → Type 0) (Q : E → Type 0) (U : Type 0) (r : Result A E) → U → MatchResult r P (λ e. (U → ⊥) × Q e) → IsOk r
is_ok_if P Q U (Ok a) u m = refl
is_ok_if P Q U (Err e) u m = absurd (m.0 u)

pub unwrap-text-requires : goal.unwrap-text-requires
unwrap-text-requires c = is_ok_if _ _ (IsUtf8 c.spell.new.text) c.from_utf8.result (subst (λ t. IsUtf8 t) (sym c.spell.ensures) (text_is c.args.own.now)) c.from_utf8.ensures.cases

pub returns : goal.returns
returns c =
    let own = c.args.own.now in
    let t = (rw c.unwrap-text.ensures at c.from_utf8.ensures.cases).0 ∙ c.spell.ensures in
    (c.unwrap-text.result.now, c.in_ok-put.ensures, (encode_lower own, ap string t, decode_of-encode_lower own (λ i. let b = c.type_inv.own i in omega (arith, b))))
