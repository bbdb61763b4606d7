-- Values that a maker made one after another, each by a reading.
use Rattle.std.proofs.Common.{◌≡◌, ℕ, List, [], ◌∷◌, ◌++◌, sym, ◌∙◌, ap, subst, append-nil, append_assoc, Result, Ok, Err, IfOk, IfErr}
use Rattle.borsh_io.specs.declared.error.ErrorKind.{ErrorKind}
use Rattle.borsh_io.specs.Stream.{ReaderState}
use Rattle.borsh_codec.specs.Codec.{Codec, Lawful}
use Rattle.borsh_codec.specs.Shapes.{array}
use Rattle.borsh_codec.specs.Reading.{Decoded, NotDecoded}
use Rattle.borsh_codec.proofs.ReadRows.{RowSoFar, row_none, row_more, row_all, denied_row}
use Rattle.borsh_arrays.specs.Made.{MadeInOrder, IsMade, IsGivenUp}

-- they were read behind those that were read before
pub row_made : {S A : Type 0} (look : S → ReaderState) {c : Codec A} {makes : S → A → S → Type 0} → ((s t : S) (x : A) → makes s x t → Decoded A c (look s) (look t) x)
    → (u : ReaderState) (s t : S) (ys xs : List A) → RowSoFar A c u (look s) ys → MadeInOrder makes s xs t → RowSoFar A c u (look t) (ys ++ xs)
row_made {A = A} look {c = c} reads u s t ys [] p m =
    subst (RowSoFar A c u (look t)) (sym (append-nil ys)) (subst (λ r. RowSoFar A c u (look r) ys) m p)
row_made {A = A} look {c = c} reads u s t ys (y ∷ xs) p m =
    subst (RowSoFar A c u (look t)) (append_assoc ys (y ∷ []) xs) (row_made look reads u m.0 t (ys ++ y ∷ []) xs (row_more p (reads s m.0 y m.1)) m.2)

-- what each step keeps is kept
pub made_keeps : {S A B : Type 0} (look : S → B) {makes : S → A → S → Type 0} → ((s t : S) (x : A) → makes s x t → look t ≡ look s)
    → (s t : S) (xs : List A) → MadeInOrder makes s xs t → look t ≡ look s
made_keeps look keeps s t [] m = ap look (sym m)
made_keeps look keeps s t (x ∷ xs) m = made_keeps look keeps m.0 t xs m.2 ∙ keeps s m.0 x m.1

-- a maker in the state s reads at `look s`, and each step keeps `name`
module _ {S A B : Type 0} (look : S → ReaderState) (name : S → B) (c : Codec A) where
  abbrev pub ByReading : S → A → S → Type 0
  ByReading s x t = (name t ≡ name s) × Decoded A c (look s) (look t) x

  pub row_is_made : {n : ℕ} {s t : S} {xs : List A} → IsMade ByReading n s xs t → (name t ≡ name s) × Decoded (List A) (array n c) (look s) (look t) xs
  row_is_made {s = s} {t = t} {xs = xs} m =
      (made_keeps name (λ _ _ _ p. p.0) s t xs m.in_order, row_all m.count (row_made look (λ _ _ _ p. p.1) (look s) s t [] xs (row_none c (look s)) m.in_order))

  module _ {E : Type 0} (kind : E → ErrorKind) where
    abbrev pub ByRefusal : S → E → S → Type 0
    ByRefusal s e t = (name t ≡ name s) × NotDecoded A c (look s) (look t) (kind e)

    pub row_is_given_up : {n : ℕ} {s t : S} {e : E} → Lawful A c → IsGivenUp ByReading (λ u v. ByRefusal u e v) n s t → (name t ≡ name s) × NotDecoded (List A) (array n c) (look s) (look t) (kind e)
    row_is_given_up {s = s} {t = t} l m = (
      m.stopped.0 ∙ made_keeps name (λ _ _ _ p. p.0) s m.last m.made m.in_order,
      denied_row l (row_made look (λ _ _ _ p. p.1) (look s) s m.last [] m.made (row_none c (look s)) m.in_order) m.few m.stopped.1,
    )

-- what holds in either case
pub in_either_case : {X Y Z : Type 0} (r : Result X Y) (P : X → Type 0) (Q : Y → Type 0) → ((x : X) → P x → Z) → ((y : Y) → Q y → Z) → IfOk r P → IfErr r Q → Z
in_either_case (Ok x) P Q f g p q = f x p
in_either_case (Err y) P Q f g p q = g y q
