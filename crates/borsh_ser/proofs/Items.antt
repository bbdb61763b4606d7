-- Items of an iterator that are written one after another.
use Rattle.std.specs.Prelude.{map, length, take, suc}
use Rattle.std.proofs.Common.{◌≡◌, ◌∙◌, ℕ, ◌+◌, ◌≤◌, Bool, false, true, List, [], ◌∷◌, Option, Some, None, Result, Err, refl, sym, ap}
use Rattle.std.specs.Map.Iter.{TakesFirst}
use Rattle.std.specs.Result.{IsErrAnd}
use Rattle.std.specs.Iterator.{AlwaysYields}
use borrow.Rule.Slice.PartMut.{mid_of, put_mid}
use Rattle.borsh_io.specs.declared.error.Error.{Error}
use Rattle.borsh_io.specs.declared.error.ErrorKind.TheVariants.{InvalidData}
use Rattle.borsh_io.specs.Errors.{error_kind}
use Rattle.borsh_io.specs.Sink.{WriterModel, WriterLaws}
use Rattle.borsh_codec.specs.Codec.{Codec}
use Rattle.borsh_codec.specs.Shapes.{append_encodings, concat_encodings, unsigned_encoding, length_prefixed, refused_if}
use Rattle.borsh_codec.specs.Writing.{Puts, Written, NotWritten, WritesEncoding, Writes, TellsLength}
use Rattle.borsh_codec.proofs.LengthSteps.{tells_is}
use Rattle.borsh_codec.proofs.WriteOutcomes.{writes_is, writes_exit, writes_refused_if}
use Rattle.borsh_codec.proofs.PutSteps.{HeldSoFar, held_none, held_put, held_kept, held_written, held_exit, held_more, held_more_exit, held_last}

abbrev pub Encodings : Type 0
Encodings = List (Option (List ℕ))

module _ {I A W : Type 0} (steps : I → Option A → I → Type 0) (encoding : A → Option (List ℕ)) (w : WriterModel W) where
  -- of what the iterator gives some was written, some is held back, and the rest is left
  pub record ItemsLeft (first now : I) (held : List ℕ) (old new : W) : Type 0 where
    pub left : (es : Encodings) → AlwaysYields steps encoding first es → (fs : Encodings) × AlwaysYields steps encoding now fs × HeldSoFar w old new (concat_encodings (λ e. e) es) held (concat_encodings (λ e. e) fs)

module _ {I A : Type 0} (steps : I → Option A → I → Type 0) (encoding : A → Option (List ℕ)) where
  -- what is left begins with the item that came
  pub next_of : {now next : I} {x : A} (fs : Encodings) → AlwaysYields steps encoding now fs → steps now (Some x) next → (gs : Encodings) × AlwaysYields steps encoding next gs × (concat_encodings (λ e. e) fs ≡ append_encodings (encoding x) (concat_encodings (λ e. e) gs))
  next_of {next = next} {x = x} [] y s = absurd (y x next s)
  next_of {next = next} {x = x} (e ∷ fs) y s = let p = y.1 x next s in (fs, p.1, ap (λ o. append_encodings o (concat_encodings (λ e. e) fs)) (sym p.0))

  -- nothing is left where no item came
  pub end_of : {now next : I} (fs : Encodings) → AlwaysYields steps encoding now fs → steps now None next → concat_encodings (λ e. e) fs ≡ Some []
  end_of [] y s = refl
  end_of {next = next} (e ∷ fs) y s = absurd (y.0 next s)

module _ {I A W : Type 0} {steps : I → Option A → I → Type 0} {encoding : A → Option (List ℕ)} {w : WriterModel W} (laws : WriterLaws W w) where
  pub items_none : (first : I) (old : W) → ItemsLeft steps encoding w first first [] old old
  items_none first old = record { left = λ es y. (es, y, held_none laws old) }

  -- one more item is put behind those in the room
  pub items_put : {first now next : I} {x : A} {old new : W} (n m k : ℕ) (room part : List ℕ) → n ≤ length room → ItemsLeft steps encoding w first now (take n room) old new → steps now (Some x) next → Puts (encoding x) (mid_of n k room) part (Some m) → ItemsLeft steps encoding w first next (take (n + m) (put_mid n k room part)) old new
  items_put n m k room part h i s p = record { left = λ es y. (let l = i.left es y in let x = next_of steps encoding l.0 l.1 s in (x.0, x.1, held_put laws n m k room part h l.2 x.2 p)) }

  -- what is in the room stays there where the next item isn't put
  pub items_kept : {first now : I} {old new : W} (n k : ℕ) (room part : List ℕ) → n ≤ length room → ItemsLeft steps encoding w first now (take n room) old new → ItemsLeft steps encoding w first now (take n (put_mid n k room part)) old new
  items_kept n k room part h i = record { left = λ es y. (let l = i.left es y in (l.0, l.1, held_kept laws n k room part h l.2)) }

  -- what was held back was written
  pub items_written : {first now : I} {old mid new : W} {held : List ℕ} → ItemsLeft steps encoding w first now held old mid → Written w mid new (Some held) → ItemsLeft steps encoding w first now [] old new
  items_written i d = record { left = λ es y. (let l = i.left es y in (l.0, l.1, held_written laws l.2 d)) }

  -- it was not written
  pub items_held_exit : {first now : I} {old mid new : W} {held : List ℕ} {own : Bool} (e : Error) {r : Result (Unit {0}) Error} (es : Encodings) → ItemsLeft steps encoding w first now held old mid → WritesEncoding w mid new false false (Some held) (Err e) → IsErrAnd r (λ y. y ≡ e) → AlwaysYields steps encoding first es → WritesEncoding w old new own false (concat_encodings (λ e. e) es) r
  items_held_exit e es i f is y = let l = i.left es y in held_exit laws e is l.2 f

  -- one more item was written
  pub items_more : {first now next : I} {x : A} {old mid new : W} → ItemsLeft steps encoding w first now [] old mid → steps now (Some x) next → Written w mid new (encoding x) → ItemsLeft steps encoding w first next [] old new
  items_more i s d = record { left = λ es y. (let l = i.left es y in let n = next_of steps encoding l.0 l.1 s in (n.0, n.1, held_more laws l.2 n.2 d)) }

  -- an item was not written
  pub items_exit : {first now next : I} {x : A} {old mid new : W} {own : Bool} (e : Error) {r : Result (Unit {0}) Error} (es : Encodings) → ItemsLeft steps encoding w first now [] old mid → steps now (Some x) next → NotWritten own w mid new (encoding x) (error_kind e) → IsErrAnd r (λ y. y ≡ e) → AlwaysYields steps encoding first es → WritesEncoding w old new own false (concat_encodings (λ e. e) es) r
  items_exit e es i s f is y = let l = i.left es y in let n = next_of steps encoding l.0 l.1 s in held_more_exit laws _ e is l.2 n.2 f

  -- no item is left, and what was held back is tried
  pub items_done : {first now next : I} {old mid new : W} {held : List ℕ} {own : Bool} {r : Result (Unit {0}) Error} (es : Encodings) → ItemsLeft steps encoding w first now held old mid → steps now None next → WritesEncoding w mid new false false (Some held) r → AlwaysYields steps encoding first es → WritesEncoding w old new own false (concat_encodings (λ e. e) es) r
  items_done es i s q y = let l = i.left es y in held_last laws l.2 (end_of steps encoding l.0 l.1 s) q

concat_map : {X : Type 0} (f : X → Option (List ℕ)) (xs : List X) → concat_encodings (λ e. e) (map f xs) ≡ concat_encodings f xs
concat_map f [] = refl
concat_map f (x ∷ xs) = ap (append_encodings (f x)) (concat_map f xs)

-- an iterator that shows what is left of a list
module _ {S A X : Type 0} (steps : S → Option A → S → Type 0) (shows : A → X) (rest : S → List X) (none : (s t : S) → steps s None t → length (rest s) ≡ 0) (some : (s t : S) (a : A) → steps s (Some a) t → rest s ≡ shows a ∷ rest t) where
  always_shown : (f : X → Option (List ℕ)) (xs : List X) (s : S) → rest s ≡ xs → AlwaysYields steps (λ a. f (shows a)) s (map f xs)
  always_shown f [] s r = λ x j e. (let h : rest s ≡ shows x ∷ rest j = some s j x e in cc)
  always_shown f (y ∷ ys) s r = (
    (λ j e. (let h : suc (length ys) ≡ 0 = sym (ap length r) ∙ none s j e in cc)),
    (λ x j e. (let h : rest s ≡ shows x ∷ rest j = some s j x e in let y : shows x ≡ y = cc in let t : rest j ≡ ys = cc in (ap f y, always_shown f ys j t))),
  )

  -- the count and what is left are the encoding of the list
  pub shown_is : {n : ℕ} (c : Codec X) (xs : List X) → n ≡ length xs → append_encodings (unsigned_encoding 4 n) (concat_encodings (λ e. e) (map c.encoding xs)) ≡ (length_prefixed c).encoding xs
  shown_is c xs n = ap (λ m. append_encodings (unsigned_encoding 4 m) (concat_encodings (λ e. e) (map c.encoding xs))) n ∙ ap (append_encodings (unsigned_encoding 4 (length xs))) (concat_map c.encoding xs)

  -- what is written of it, after the count, is the list
  pub writes_shown : {W : Type 0} {w : WriterModel W} {old new : W} {n : ℕ} {r : Result (Unit {0}) Error} (c : Codec X) (xs : List X) (s : S) → rest s ≡ xs → n ≡ length xs → ((es : Encodings) → AlwaysYields steps (λ a. c.encoding (shows a)) s es → WritesEncoding w old new c.encoding_allocates false (append_encodings (unsigned_encoding 4 n) (concat_encodings (λ e. e) es)) r) → Writes (length_prefixed c) xs w old new r
  writes_shown c xs s e n h = writes_is (shown_is c xs n) (h (map c.encoding xs) (always_shown c.encoding xs s e))

  -- how many bytes these are is the list's length
  pub tells_shown : {n : ℕ} (r : Option ℕ) (c : Codec X) (xs : List X) (s : S) → rest s ≡ xs → n ≡ length xs → ((es : Encodings) → AlwaysYields steps (λ a. c.encoding (shows a)) s es → TellsLength (append_encodings (unsigned_encoding 4 n) (concat_encodings (λ e. e) es)) r) → TellsLength ((length_prefixed c).encoding xs) r
  tells_shown r c xs s e n h = tells_is r (shown_is c xs n) (h (map c.encoding xs) (always_shown c.encoding xs s e))

-- the same where the state is the list
pub writes_first : {A X W : Type 0} {w : WriterModel W} {old new : W} {n : ℕ} {r : Result (Unit {0}) Error} (shows : A → X) (c : Codec X) (s xs : List X) → s ≡ xs → n ≡ length xs → ((es : Encodings) → AlwaysYields (TakesFirst shows) (λ a. c.encoding (shows a)) s es → WritesEncoding w old new c.encoding_allocates false (append_encodings (unsigned_encoding 4 n) (concat_encodings (λ e. e) es)) r) → Writes (length_prefixed c) xs w old new r
writes_first shows c s xs = writes_shown (TakesFirst shows) shows (λ t. t) (λ t u e. ap length e.0) (λ t u a e. e) c xs s

pub tells_first : {A X : Type 0} {n : ℕ} (r : Option ℕ) (shows : A → X) (c : Codec X) (s xs : List X) → s ≡ xs → n ≡ length xs → ((es : Encodings) → AlwaysYields (TakesFirst shows) (λ a. c.encoding (shows a)) s es → TellsLength (append_encodings (unsigned_encoding 4 n) (concat_encodings (λ e. e) es)) r) → TellsLength ((length_prefixed c).encoding xs) r
tells_first r shows c s xs = tells_shown (TakesFirst shows) shows (λ t. t) (λ t u e. ap length e.0) (λ t u a e. e) r c xs s

-- keys or elements whose encodings are empty were refused
pub refused_exit : {A W : Type 0} {w : WriterModel W} (laws : WriterLaws W w) (refused : Bool) (c : Codec A) (v : A) (a : W) (e : Error) {r : Result (Unit {0}) Error} → IsErrAnd r (λ y. y ≡ e) → (refused ≡ true) × (error_kind e ≡ InvalidData) → Writes (refused_if refused c) v w a a r
refused_exit laws refused c v a e is p = writes_exit e is (writes_refused_if laws refused c v a p.0 p.1)
