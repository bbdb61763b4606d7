-- Arrays in a list: their elements lie one after another, and so do the encodings of these.
use Rattle.std.proofs.Common.{◌≡◌, ℕ, length, List, [], ◌∷◌, All, refl, sym, ◌∙◌, ap}
use Rattle.std.specs.List.{flat_map}
use Rattle.std.proofs.lemmas.List.Elements.{All-head, All-tail}
use Rattle.borsh_codec.specs.Codec.{Codec, Lawful}
use Rattle.borsh_codec.specs.Shapes.{append_encodings, concat_encodings, array}
use Rattle.borsh_codec.proofs.Laws.Rows.{row_is}
use Rattle.borsh_codec.proofs.WriteRows.{all_joined-append}

-- arrays of so many elements each have the encodings of all elements
pub arrays_joined : {A : Type 0} (n : ℕ) {c : Codec A} → Lawful A c → (xs : List (List A)) → All (λ x. length x ≡ n) xs → concat_encodings (array n c).encoding xs ≡ concat_encodings c.encoding (flat_map (λ x. x) xs)
arrays_joined n l [] h = refl
arrays_joined n {c} l (x ∷ xs) h =
    ap (λ o. append_encodings o (concat_encodings (array n c).encoding xs)) (row_is n l x (All-head (λ x. length x ≡ n) x xs h) refl)
    ∙ ap (append_encodings (concat_encodings c.encoding x)) (arrays_joined n l xs (All-tail (λ x. length x ≡ n) x xs h))
    ∙ sym (all_joined-append c.encoding x (flat_map (λ x. x) xs))
