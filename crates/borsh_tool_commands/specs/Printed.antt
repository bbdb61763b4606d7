-- What a text that is printed has.
use Rattle.std.specs.Prelude.{◌≡◌, ◌++◌, ℕ, List, OnOk, Result}
use Rattle.borsh_tool_commands.specs.declared.plain_text.PlainText.{PlainText}

-- the bytes of a text
abbrev pub printed : PlainText → List ℕ
printed t = t.text.items

-- a text was added, unless an allocation failed
abbrev pub AddsPrinted : {T E : Type 0} → PlainText → PlainText → Result T E → List ℕ → Type 0
AddsPrinted old new result text = OnOk result (printed new ≡ printed old ++ text)
