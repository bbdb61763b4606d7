-- A value that fits into a slice is written there.
use Rattle.std.proofs.Common.{◌≡◌, ℕ, ◌≤◌, Bool, false, ◌||◌, List, length, Option, Some, refl, sym, ◌∙◌, ap, Ok, Err, arith, eqb-true, true≢false}
use Rattle.std.proofs.lemmas.List.{length-drop}
use Rattle.borsh_io.specs.declared.error.ErrorKind.{ErrorKind}
use Rattle.borsh_io.specs.Sink.{overwriting}
use Rattle.borsh_codec.specs.Codec.{Codec}
use Rattle.borsh_codec.specs.Writing.{WriteFailure}
use Rattle.borsh_codec.specs.Writing.WriteFailure.{no_encoding, no_memory, full, writer_failed}
use Rattle.borsh_codec.proofs.ReadWhole.{no_fault}
use Rattle.borsh.specs.Room.{FitsIntoRoom}

module _ {W : Type 0} (room : W → List ℕ) {own : Bool} {encoding : Option (List ℕ)} {bytes front : List ℕ} {old new : W} {kind : ErrorKind} (quiet : own ≡ false) (is : encoding ≡ Some bytes) (fits : length bytes ≤ length (room old)) where
  none_fails : (overwriting room).wrote old new front → WriteFailure own (overwriting room) old new encoding front kind → ⊥
  none_fails w (no_encoding k f e) = absurd (let none = sym is ∙ e in cc)
  none_fails w (no_memory k f e) = true≢false (sym e ∙ ap (λ b. b || false) quiet)
  none_fails w (full k f e short) =
      let empty : length (room new) ≡ 0 = eqb-true (length (room new)) 0 e in
      let fewer = short bytes is in
      omega (arith, empty, fewer, fits, ap length w.1, length-drop (length front) (room old))
  none_fails w (writer_failed f) = no_fault f

pub fits_into_room : {A W : Type 0} (c : Codec A) (room : W → List ℕ) → FitsIntoRoom c room
fits_into_room c room v bytes old new (Ok u) quiet is fits d = refl
fits_into_room c room v bytes old new (Err e) quiet is fits d = absurd (none_fails room quiet is fits d.err.wrote d.err.why)
