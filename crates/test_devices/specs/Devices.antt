-- What the reader and the writer for tests mean.
use Rattle.std.specs.Prelude.{◌≡◌, ℕ, List, ◌++◌, length, Some, true, ◌==◌}
use Rattle.std.proofs.Common.{sym, ◌∙◌, ap, append-nil, append_assoc}
use Rattle.borsh.specs.Stream.{ReaderState}
use Rattle.borsh.specs.Sink.{WriterModel, WriterLaws}
use Rattle.test_devices.specs.declared.course.Course.{Course}

-- no failure was counted between two states of a course
abbrev pub SameFailures : Course → Course → Type 0
SameFailures before after = (after.faults ≡ before.faults) × (after.last_failure ≡ before.last_failure)

-- bytes in memory, of which a device gives pieces as its course says
abbrev pub slice_stream : List ℕ → Course → ReaderState
slice_stream xs c = record { bytes = Some xs; faults = c.faults; last_failure = c.last_failure; interruptions = c.interruptions; reads_left = length xs; strict_order = true }

-- bytes go to the end of a list, while there is room
abbrev pub room_writing : {W : Type 0} → (W → List ℕ) → (W → ℕ) → (W → ℕ) → (W → ℕ) → WriterModel W
room_writing items room faults interruptions = record {
  wrote = λ a b xs. items b ≡ items a ++ xs;
  sink = λ a. record { faults = faults a; interruptions = interruptions a; full = room a == 0 };
  allocates = true;
}

pub room-laws : {W : Type 0} (items : W → List ℕ) (room faults interruptions : W → ℕ) → WriterLaws W (room_writing items room faults interruptions)
room-laws items room faults interruptions = record {
  none = λ a. sym (append-nil (items a));
  more = λ a b c x y p q. q ∙ ap (λ z. z ++ y) p ∙ append_assoc (items a) x y;
}
