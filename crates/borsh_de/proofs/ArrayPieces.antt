-- Arrays whose elements are taken from pieces of their bytes.
use Rattle.std.proofs.Common.{◌≡◌, ℕ, zero, suc, ◌+◌, ◌*◌, ◌<◌, ◌≤◌, true, List, [], ◌∷◌, ◌++◌, length, replicate, Option, Result, Ok, Err, IfOk, IfErr, refl, sym, ◌∙◌, ap, subst, append-nil, append_assoc, arith, length-append}
use Rattle.std.specs.List.{All}
use Rattle.std.proofs.lemmas.List.{length-replicate}
use Rattle.std.proofs.lemmas.List.Elements.{All-nil, All-cons}
use Rattle.std.proofs.Math.Nat.{mul-le-mul_right}
use Rattle.borsh_arrays.specs.Made.{MadeInOrder, IsMade, IsGivenUp}
use Rattle.borsh_codec.specs.Codec.{Codec}
use Rattle.borsh_codec.specs.Shapes.{DecodesEach, array}
use Rattle.borsh_codec.proofs.Laws.Lists.{nil_of_length}
use Rattle.std.specs.Result.{result_ok}
use Rattle.borsh_de.specs.FixedWidth.{IsFixedWidth, TakesPiece, GetsValue}
use Rattle.borsh_de.proofs.FixedWidth.{bytes_zero, same_count, element_width}

-- the bytes of an array of fixed width can be cut
pub parts_of_array : {A : Type 0} (c : Codec A) (n m : ℕ) → IsFixedWidth (array n c) m → (w : ℕ) × (m ≡ n * w)
parts_of_array c zero m f =
    let z = f.all (replicate m 0) (bytes_zero m) (length-replicate m 0) in
    (0, sym (length-replicate m 0) ∙ none (replicate m 0) z.0 z.1.long z.1.parts)
  where
    none : (x : List ℕ) (xs : List _) → length xs ≡ 0 → DecodesEach (c.decodes true) x xs → length x ≡ 0 * 0
    none x [] l p = ap length p ∙ omega arith
    none x (a ∷ xs) l p = absurd (omega arith)
parts_of_array c (suc n) m f = let e = element_width c n m f in (e.width, e.whole)

-- a maker in the state s has `rest s` left, and takes `width s` bytes each time
module _ {S A : Type 0} (width : S → ℕ) (rest : S → List ℕ) (c : Codec A) where
  abbrev pub ByPiece : S → A → S → Type 0
  ByPiece s x t = TakesPiece c (width s) (rest s) (width t) (rest t) x

  record Cuts (s t : S) (xs : List A) : Type 0 where
    front : List ℕ
    whole : rest s ≡ front ++ rest t
    long : length front ≡ length xs * width s
    parts : DecodesEach (c.decodes true) front xs
    made : All c.made xs
    same_width : width t ≡ width s

  cuts_of : (s t : S) (xs : List A) → MadeInOrder ByPiece s xs t → Cuts s t xs
  cuts_of s t [] m = record { front = []; whole = ap rest m; long = omega arith; parts = refl; made = All-nil c.made; same_width = ap width (sym m) }
  cuts_of s t (x ∷ xs) m =
      let p = m.1 in
      let r = cuts_of m.0 t xs m.2 in
      record {
        front = p.piece ++ r.front;
        whole = p.whole ∙ ap (λ z. p.piece ++ z) r.whole ∙ sym (append_assoc p.piece r.front (rest t));
        long = (let e : length xs * width m.0 ≡ length xs * width s = ap (λ k. length xs * k) p.same_width in omega (arith, length-append p.piece r.front, p.long, r.long, e));
        parts = record { first = p.piece; second = r.front; whole = refl; left = p.decodes; right = r.parts };
        made = All-cons c.made x xs p.made r.made;
        same_width = r.same_width ∙ p.same_width;
      }

  pub array_made : {n : ℕ} {s t : S} {xs : List A} → length (rest s) ≡ n * width s → IsMade ByPiece n s xs t → (array n c).decodes true (rest s) xs
  array_made {n = n} {s = s} {t = t} {xs = xs} l m =
      let r = cuts_of s t xs m.in_order in
      let e : length xs * width s ≡ n * width s = ap (λ k. k * width s) m.count in
      let none : rest t ≡ [] = nil_of_length (rest t) (omega (arith, l, e, r.long, ap length r.whole, length-append r.front (rest t))) in
      let all : r.front ≡ rest s = sym (r.whole ∙ ap (λ z. r.front ++ z) none ∙ append-nil r.front) in
      record { long = m.count; parts = subst (λ z. DecodesEach (c.decodes true) z xs) all r.parts }

  pub array_given_up : {n : ℕ} {s t : S} → length (rest s) ≡ n * width s → IsGivenUp ByPiece (λ u v. IsFixedWidth c (width u) → length (rest u) < width u) n s t → IsFixedWidth (array n c) (length (rest s)) → ⊥
  array_given_up {n = zero} {s = s} l m f = absurd (omega (arith, m.few))
  array_given_up {n = suc n} {s = s} l m f =
      let r = cuts_of s m.last m.made m.in_order in
      let e = element_width c n (length (rest s)) f in
      let w : e.width ≡ width m.last = same_count e.width (width s) (suc n) (omega arith) (omega (arith, e.whole, l)) ∙ sym r.same_width in
      let short : length (rest m.last) < width m.last = m.stopped (subst (IsFixedWidth c) w e.fixed) in
      let more : (length m.made + 1) * width s ≤ suc n * width s = mul-le-mul_right (width s) (omega (arith, m.few)) in
      absurd (omega (arith, l, r.long, r.same_width, short, more, ap length r.whole, length-append r.front (rest m.last)))

  -- what is answered then
  pub array_gets : {E : Type 0} {n : ℕ} {s : S} (t : S) (r : Result (List A) E) (o : Option (List A)) → length (rest s) ≡ n * width s
      → IfOk r (λ xs. IsMade ByPiece n s xs t) → IfErr r (λ _. IsGivenUp ByPiece (λ u v. IsFixedWidth c (width u) → length (rest u) < width u) n s t) → o ≡ result_ok r → GetsValue (array n c) (rest s) o
  array_gets {n = n} {s = s} t (Ok xs) o l m u e = subst (GetsValue (array n c) (rest s)) (sym e) (record { value = array_made l m; made = (cuts_of s t xs m.in_order).made })
  array_gets {n = n} {s = s} t (Err x) o l m u e = subst (GetsValue (array n c) (rest s)) (sym e) (record { value = λ f. array_given_up l u f; made = tt })
