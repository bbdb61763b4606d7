-- How the errors of other crates become refusals.
use Rattle.std.specs.Prelude.{◌≡◌, ◌++◌, ⊤, ℕ, List, codes, string_bytes}
use Rattle.std.specs.Borrow.{Bor}
use Rattle.borsh_io.specs.declared.error.ErrorKind.{ErrorKind}
use Rattle.borsh_io.specs.declared.error.ErrorKind.TheVariants.{OutOfMemory as NoRoom}
use Rattle.borsh_json.specs.declared.error.JsonError.{JsonError}
use Rattle.borsh_json.specs.declared.error.JsonError.TheVariants.{Ambiguous}
use Rattle.borsh_c.specs.Answers.{IsNo, IsShort, offset_in, unclear_text}
use Rattle.borsh_c.specs.declared.refusal.NoAnswer.{NoAnswer}
use Rattle.borsh_c.specs.declared.refusal.NoAnswer.TheVariants.{No, Malformed, OutOfMemory, Undecided}

-- no container, for a reason that isn't want of memory
abbrev pub TellsUnread : ErrorKind → List ℕ → Type 0
TellsUnread kind text = (kind ≡ NoRoom → ⊥) × ((why : List ℕ) × (text ≡ codes "not a schema container: " ++ why) × IsShort why)

-- no, with the error's offset, or undecided where a name is undecided
abbrev pub TellsNoValue : JsonError → NoAnswer → Type 0
TellsNoValue e (No t) = (t.offset ≡ offset_in e) × IsNo e × IsShort (string_bytes t.text)
TellsNoValue e (Malformed t) = ⊥
TellsNoValue e OutOfMemory = ⊤
TellsNoValue e (Undecided t) = (name : Bor (List ℕ)) × (e ≡ Ambiguous name) × (string_bytes t ≡ unclear_text name.now)
