-- A list in two parts.
use Rattle.std.proofs.Common.{◌≡◌, ℕ, ◌+◌, List, ◌++◌, length, Option, sym, ◌∙◌, ap, arith, length-append}
use Rattle.borsh_codec.specs.Shapes.{unsigned_encoding, append_encodings, concat_encodings}
use Rattle.borsh_codec.proofs.WriteRows.{all_joined-append}

-- the count of both parts is that of the list
pub parts_count : {A : Type 0} (front back items : List A) (n : ℕ) → front ++ back ≡ items → length front + length back ≡ n → unsigned_encoding 4 n ≡ unsigned_encoding 4 (length items)
parts_count front back items n e l = ap (unsigned_encoding 4) (omega (arith, ap length e, length-append front back))

-- the bytes of both parts are those of the list
pub parts_joined : {A : Type 0} (f : A → Option (List ℕ)) (front back items : List A) → front ++ back ≡ items → append_encodings (concat_encodings f front) (concat_encodings f back) ≡ concat_encodings f items
parts_joined f front back items e = sym (all_joined-append f front back) ∙ ap (concat_encodings f) e
