-- Encodings that are put over a room, one behind another.
use Rattle.std.proofs.Common.{◌≡◌, ℕ, ◌+◌, ◌<◌, ◌≤◌, Bool, false, true≢false, List, [], ◌∷◌, ◌++◌, length, get_or, take, drop, add-one, Option, Some, None, Result, Err, refl, sym, ◌∙◌, ap, subst, arith, length-append}
use Rattle.std.specs.Result.{IsErrAnd}
use Rattle.std.proofs.Math.Seq.{take-suc}
use Rattle.std.proofs.lemmas.List.{length-take, length-take-le, length-drop, take-take, take-append-drop, drop-drop}
use borrow.Rule.Slice.PartMut.{mid_of, put_mid, post_of, same_len_mid, take_put}
use Rattle.borsh_io.specs.declared.error.Error.{Error}
use Rattle.borsh_io.specs.Errors.{error_kind}
use Rattle.borsh_io.specs.Sink.{WriterModel, WriterLaws}
use Rattle.borsh_io.proofs.ReadLaws.{take-filled}
use Rattle.borsh_codec.specs.Shapes.{append_encodings, concat_encodings}
use Rattle.borsh_codec.specs.Writing.{Puts, Written, NotWritten, WritesEncoding}
use Rattle.borsh_codec.proofs.Laws.Lists.{joined_is, joined_nil, joined_last, joined_assoc}
use Rattle.borsh_codec.proofs.WriteSteps.{WritesSoFar, so_far_none, so_far_more}
use Rattle.borsh_codec.proofs.WriteOutcomes.{writes_is, writes_own, so_far_exit, so_far_rest}
use Rattle.borsh_codec.proofs.WriteRows.{all_joined-append}

-- nothing was put
pub puts_none : {o : Option (List ℕ)} {old new : List ℕ} → length new ≡ length old → Puts o old new None
puts_none e = record { same = e; put = tt }

-- an encoding of no bytes
pub puts_nothing : (room : List ℕ) → Puts (Some []) room room (Some 0)
puts_nothing room = record { same = refl; put = (omega arith, refl) }

-- the same encoding, by another name
pub puts_is : {o p : Option (List ℕ)} {old new : List ℕ} {r : Option ℕ} → o ≡ p → Puts o old new r → Puts p old new r
puts_is {old = old} {new = new} {r = r} e q = subst (λ s. Puts s old new r) e q

-- n bytes at the front, and m bytes over what is behind them
pub put_fits : (n m k : ℕ) (xs ys : List ℕ) → n ≤ length xs → m ≤ length ys → n + m ≤ length (put_mid n k xs ys)
put_fits n m k xs ys h l = omega (arith, h, l, length-append (take n xs) (ys ++ post_of n k xs), length-append ys (post_of n k xs), length-take-le n xs h)

-- a second encoding is put behind the first
pub puts_then : {o p : Option (List ℕ)} (n m k : ℕ) (old new part : List ℕ) → Puts o old new (Some n) → Puts p (mid_of n k new) part (Some m) → Puts (append_encodings o p) old (put_mid n k new part) (Some (n + m))
puts_then {o = o} {p = p} n m k old new part a b = record {
  same = same_len_mid n k new part b.same ∙ a.same;
  put = (
    put_fits n m k new part a.put.0 b.put.0,
    joined_is o p (take n new) (take m part) a.put.1 b.put.1 ∙ ap Some (sym (take-filled n k m new part a.put.0 b.put.0)),
  );
}

-- the second encoding was not put
pub puts_none_then : {o p q : Option (List ℕ)} (n k : ℕ) (old new part : List ℕ) {r : Option ℕ} → Puts o old new r → Puts p (mid_of n k new) part None → Puts q old (put_mid n k new part) None
puts_none_then n k old new part a b = puts_none (same_len_mid n k new part b.same ∙ a.same)

-- what was put stays where nothing is put behind it
pub puts_kept : {o : Option (List ℕ)} (n k : ℕ) (old new part : List ℕ) → Puts o old new (Some n) → length part ≡ length (mid_of n k new) → Puts o old (put_mid n k new part) (Some n)
puts_kept n k old new part a e =
    let long = same_len_mid n k new part e in
    record { same = long ∙ a.same; put = (omega (arith, long, a.put.0), a.put.1 ∙ ap Some (sym (take_put n k new part a.put.0))) }

-- the first elements and one more
pub all_joined-more : {A : Type 0} (f : A → Option (List ℕ)) (xs : List A) (i : ℕ) (a : A) → i < length xs → a ≡ get_or xs i a → append_encodings (concat_encodings f (take i xs)) (f a) ≡ concat_encodings f (take (i + 1) xs)
all_joined-more f xs i a h e =
    let t : take (i + 1) xs ≡ take i xs ++ (a ∷ []) = rw add-one (take-suc xs i a h ∙ ap (λ z. take i xs ++ (z ∷ [])) (sym e)) in
    sym (ap (concat_encodings f) t ∙ all_joined-append f (take i xs) (a ∷ []) ∙ ap (append_encodings (concat_encodings f (take i xs))) (joined_last (f a)))

-- what is left of a list begins with the first of its next m elements
pub all_joined-front : {A : Type 0} (f : A → Option (List ℕ)) (xs : List A) (i m n : ℕ) → n ≤ length (take m (drop i xs)) → concat_encodings f (drop i xs) ≡ append_encodings (concat_encodings f (take n (take m (drop i xs)))) (concat_encodings f (drop (i + n) xs))
all_joined-front f xs i m n h =
    let rest = drop i xs in
    let within : n ≤ m = omega (arith, h, length-take m rest) in
    let first : take n (take m rest) ≡ take n rest = take-take n m rest within in
    ap (concat_encodings f) (sym (take-append-drop n rest))
    ∙ all_joined-append f (take n rest) (drop n rest)
    ∙ ap (λ z. append_encodings z (concat_encodings f (drop n rest))) (ap (concat_encodings f) (sym first))
    ∙ ap (λ z. append_encodings (concat_encodings f (take n (take m rest))) (concat_encodings f z)) (drop-drop n i xs)

-- so many elements are there
pub front_within : {A : Type 0} (xs : List A) (i m n : ℕ) → i ≤ length xs → n ≤ length (take m (drop i xs)) → i + n ≤ length xs
front_within xs i m n h l = omega (arith, h, l, length-take m (drop i xs), length-drop i xs)

-- ---- parts in a loop that holds some back

-- of the encoding `whole` the bytes `held` and then the part `left` are still to be written, and all before them was
pub record HeldSoFar {W : Type 0} (w : WriterModel W) (old now : W) (whole : Option (List ℕ)) (held : List ℕ) (left : Option (List ℕ)) : Type 0 where
  pub so_far : WritesSoFar w old now whole (append_encodings (Some held) left)

module _ {W : Type 0} {w : WriterModel W} (laws : WriterLaws W w) {whole : Option (List ℕ)} where
  held_nothing : {a b : W} {left : Option (List ℕ)} → WritesSoFar w a b whole left → HeldSoFar w a b whole [] left
  held_nothing {a = a} {b = b} {left = left} s = record { so_far = subst (WritesSoFar w a b whole) (sym (joined_nil left)) s }

  -- nothing was written yet, and nothing is held back
  pub held_none : (a : W) → HeldSoFar w a a whole [] whole
  held_none a = held_nothing (so_far_none laws a whole)

  -- one more part is put behind those in the room
  pub held_put : {a b : W} {left part more : Option (List ℕ)} (n m k : ℕ) (room new : List ℕ) → n ≤ length room → HeldSoFar w a b whole (take n room) left → left ≡ append_encodings part more → Puts part (mid_of n k room) new (Some m) → HeldSoFar w a b whole (take (n + m) (put_mid n k room new)) more
  held_put {a = a} {b = b} {left = left} {part = part} {more = more} n m k room new h s e p =
      let front : append_encodings (Some (take n room)) left ≡ append_encodings (Some (take n room ++ take m new)) more =
      ap (append_encodings (Some (take n room))) (e ∙ ap (λ o. append_encodings o more) p.put.1) ∙ sym (joined_assoc (Some (take n room)) (Some (take m new)) more) in
      let held : append_encodings (Some (take n room ++ take m new)) more ≡ append_encodings (Some (take (n + m) (put_mid n k room new))) more =
      ap (λ l. append_encodings (Some l) more) (sym (take-filled n k m room new h p.put.0)) in
      record { so_far = subst (WritesSoFar w a b whole) (front ∙ held) s.so_far }

  -- what is in the room stays there where the next part isn't put
  pub held_kept : {a b : W} {left : Option (List ℕ)} (n k : ℕ) (room new : List ℕ) → n ≤ length room → HeldSoFar w a b whole (take n room) left → HeldSoFar w a b whole (take n (put_mid n k room new)) left
  held_kept {a = a} {b = b} {left = left} n k room new h s = subst (λ l. HeldSoFar w a b whole l left) (sym (take_put n k room new h)) s

  -- what was held back was written
  pub held_written : {a b c : W} {left : Option (List ℕ)} {held : List ℕ} → HeldSoFar w a b whole held left → Written w b c (Some held) → HeldSoFar w a c whole [] left
  held_written s d = held_nothing (so_far_more laws s.so_far refl d)

  -- the next part was written at once
  pub held_more : {a b c : W} {left part more : Option (List ℕ)} → HeldSoFar w a b whole [] left → left ≡ append_encodings part more → Written w b c part → HeldSoFar w a c whole [] more
  held_more {left = left} s e d = held_nothing (so_far_more laws s.so_far (joined_nil left ∙ e) d)

  -- what was held back was not written
  pub held_exit : {a b c : W} {left : Option (List ℕ)} {held : List ℕ} {own : Bool} (e : Error) {r : Result (Unit {0}) Error} → IsErrAnd r (λ y. y ≡ e) → HeldSoFar w a b whole held left → WritesEncoding w b c false false (Some held) (Err e) → WritesEncoding w a c own false whole r
  held_exit {left = left} e is s f = writes_own (λ t. absurd (true≢false (sym t))) (so_far_exit laws left e is s.so_far refl f.err)

  -- the next part was not written
  pub held_more_exit : {a b c : W} {left part : Option (List ℕ)} (more : Option (List ℕ)) {own : Bool} (e : Error) {r : Result (Unit {0}) Error} → IsErrAnd r (λ y. y ≡ e) → HeldSoFar w a b whole [] left → left ≡ append_encodings part more → NotWritten own w b c part (error_kind e) → WritesEncoding w a c own false whole r
  held_more_exit {left = left} more e is s n f = so_far_exit laws more e is s.so_far (joined_nil left ∙ n) f

  -- nothing is left, and what was held back is tried
  pub held_last : {a b c : W} {left : Option (List ℕ)} {held : List ℕ} {own : Bool} {r : Result (Unit {0}) Error} → HeldSoFar w a b whole held left → left ≡ Some [] → WritesEncoding w b c false false (Some held) r → WritesEncoding w a c own false whole r
  held_last {held = held} s e q = writes_own (λ t. absurd (true≢false (sym t))) (so_far_rest laws s.so_far (writes_is (sym (ap (append_encodings (Some held)) e ∙ joined_last (Some held))) q))
