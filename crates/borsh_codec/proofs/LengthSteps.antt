-- How many bytes encodings have that stand one behind another.
use Rattle.std.proofs.Common.{◌≡◌, ℕ, ◌+◌, ◌<◌, List, ◌++◌, length, get_or, take, Option, subst, arith, length-append}
use Rattle.borsh_codec.specs.Shapes.{append_encodings, concat_encodings}
use Rattle.borsh_codec.specs.Writing.{IsLength, TellsLength}
use Rattle.borsh_codec.proofs.Laws.Lists.{joined_is}
use Rattle.borsh_codec.proofs.PutSteps.{all_joined-more}

-- the same encoding, by another name
pub length_is : {o p : Option (List ℕ)} {n : ℕ} → o ≡ p → IsLength o n → IsLength p n
length_is {n = n} e l = subst (λ q. IsLength q n) e l

pub tells_is : {o p : Option (List ℕ)} (r : Option ℕ) → o ≡ p → TellsLength o r → TellsLength p r
tells_is r e l = subst (λ q. TellsLength q r) e l

-- two encodings
pub length_joined : {o p : Option (List ℕ)} {n m : ℕ} → IsLength o n → IsLength p m → IsLength (append_encodings o p) (n + m)
length_joined {o = o} {p = p} a b = record {
  bytes = a.bytes ++ b.bytes;
  is = joined_is o p a.bytes b.bytes a.is b.is;
  long = omega (arith, a.long, b.long, length-append a.bytes b.bytes);
}

-- the first elements and one more
pub length_more : {A : Type 0} (f : A → Option (List ℕ)) (xs : List A) (i : ℕ) (a : A) {n m : ℕ} → i < length xs → a ≡ get_or xs i a → IsLength (concat_encodings f (take i xs)) n → IsLength (f a) m → IsLength (concat_encodings f (take (i + 1) xs)) (n + m)
length_more f xs i a h e l p = length_is (all_joined-more f xs i a h e) (length_joined l p)
