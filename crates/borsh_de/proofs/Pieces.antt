-- A list whose new end was filled.
use Rattle.std.proofs.Common.{◌≡◌, ℕ, ◌+◌, ◌-◌, ◌<◌, ◌≤◌, List, [], ◌∷◌, ◌++◌, zero, suc, length, get_or, take, refl, ◌∙◌, ap, arith, length-append}
use Rattle.std.proofs.lemmas.List.{take-append-le, length-take-le}
use Rattle.std.proofs.lemmas.Slice.{take-put_mid}
use borrow.Rule.Slice.PartMut.{put_mid, post_of}

pub grown : (xs now buf more : List ℕ) (a len : ℕ) → take a now ≡ xs → a ≤ length now → length buf ≡ length now - a → len ≡ length now
    → take len (put_mid a (length now - a) now buf ++ more) ≡ xs ++ buf
grown xs now buf more a len e h l m =
    let k = length now - a in
    let parts : length (put_mid a k now buf) ≡ length (take a now) + (length buf + length (post_of a k now)) =
    length-append (take a now) (buf ++ post_of a k now) ∙ ap (λ n. length (take a now) + n) (length-append buf (post_of a k now)) in
    let enough : len ≤ length (put_mid a k now buf) = omega (arith, h, l, m, parts, length-take-le a now h) in
    take-append-le len (put_mid a k now buf) more enough ∙ take-put_mid a k now buf len (omega (arith, h, l, m)) h ∙ ap (λ z. z ++ buf) e

-- where bytes fit their type, so do those of both lists
pub fits_both : (xs ys : List ℕ) → ((i : ℕ) → get_or xs i 0 < 256) → ((i : ℕ) → get_or ys i 0 < 256) → (i : ℕ) → get_or (xs ++ ys) i 0 < 256
fits_both [] ys p q i = q i
fits_both (x ∷ xs) ys p q zero = p zero
fits_both (x ∷ xs) ys p q (suc i) = fits_both xs ys (λ j. p (suc j)) q i

-- no elements are left
pub none_left : {A : Type 0} (xs : List A) → length xs ≡ 0 → xs ≡ []
none_left [] e = refl
none_left (x ∷ xs) e = absurd (omega arith)
