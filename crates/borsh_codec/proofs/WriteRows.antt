-- Elements that are written one after another.
use Rattle.std.proofs.Common.{◌≡◌, ℕ, ◌+◌, ◌<◌, ◌≤◌, List, [], ◌∷◌, ◌++◌, length, get_or, drop, drop-cons, add-one, suc, Option, None, sym, ◌∙◌, ap, inl}
use Rattle.borsh_codec.specs.Codec.{Codec}
use Rattle.borsh_codec.specs.Shapes.{unsigned_encoding, append_encodings, concat_encodings, length_prefixed}
use Rattle.borsh_codec.proofs.Laws.Lists.{joined_none, joined_nil, joined_assoc}
use Rattle.borsh_codec.proofs.Laws.Numbers.{number_past}

-- what is left of a list begins with the element at hand
pub all_joined-next : {A : Type 0} (f : A → Option (List ℕ)) (xs : List A) (i : ℕ) (a : A) → i < length xs → a ≡ get_or xs i a → concat_encodings f (drop i xs) ≡ append_encodings (f a) (concat_encodings f (drop (i + 1) xs))
all_joined-next f xs i a h e =
    let d : drop i xs ≡ a ∷ drop (i + 1) xs = rw add-one (drop-cons xs i a h ∙ ap (λ z. z ∷ drop (suc i) xs) (sym e)) in
    ap (concat_encodings f) d

pub all_joined-append : {A : Type 0} (f : A → Option (List ℕ)) (xs ys : List A) → concat_encodings f (xs ++ ys) ≡ append_encodings (concat_encodings f xs) (concat_encodings f ys)
all_joined-append f [] ys = sym (joined_nil (concat_encodings f ys))
all_joined-append f (a ∷ xs) ys = ap (append_encodings (f a)) (all_joined-append f xs ys) ∙ sym (joined_assoc (f a) (concat_encodings f xs) (concat_encodings f ys))

-- more elements than a count of four bytes can say
pub counted-long : {A : Type 0} (c : Codec A) (xs : List A) → 4294967296 ≤ length xs → (length_prefixed c).encoding xs ≡ None
counted-long c xs h = joined_none (unsigned_encoding 4 (length xs)) (concat_encodings c.encoding xs) (inl (number_past 4 (length xs) h))
