-- What a text in colours has, and what `show` writes.
use Rattle.std.specs.Prelude.{◌≡◌, ◌++◌, ℕ, Bool, List, [], Option, OnOk, Result}
use Rattle.borsh_io.specs.Sink.{WriterModel}
use Rattle.borsh_walks.specs.Container.{Shape}
use Rattle.borsh_tool_commands.specs.Colors.{IsPainted}
use Rattle.borsh_tool_commands.specs.Failures.{IsNotShown}
use Rattle.borsh_tool_commands.specs.Many.{IsWriteFailure}
use Rattle.borsh_tool_commands.specs.declared.failure.Failure.{Failure}
use Rattle.borsh_tool_commands.specs.declared.colors.ColoredText.{ColoredText}

-- the bytes of a text, with the codes of its colours
abbrev pub printed_colors : ColoredText → List ℕ
printed_colors t = t.text.items

-- whether it may have colours
abbrev pub has_colors : ColoredText → Bool
has_colors t = t.is_colored

-- what was written begins a text that has no codes but those of colours; after a success it is one
pub record Paints {W A E : Type 0} (w : WriterModel W) (colored : Bool) (old new : W) (result : Result A E) : Type 0 where
  pub written : List ℕ
  pub lost : List ℕ
  pub wrote : w.wrote old new written
  pub painted : IsPainted colored (written ++ lost)
  pub whole : OnOk result (lost ≡ [])

-- why `show` fails: there are no rows for a reason, unless the writer failed
abbrev pub IsShowFailure : (List ℕ → Option Shape) → (root path bytes : List ℕ) → Failure → Type 0
IsShowFailure C root path bytes f = (IsWriteFailure f → ⊥) → IsNotShown C root path bytes f
