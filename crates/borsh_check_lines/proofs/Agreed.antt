-- No name of a word's type has two definitions.
use Rattle.std.proofs.Common.{List, ℕ, Option, Some, None, MatchOption, refl, inl, inr}
use Rattle.std.specs.Bool.{⊤}
use Rattle.std.specs.Fmt.{digits}
use Rattle.borsh_schema.proofs.Laws.Agreeing.{Agree, no_clash}
use Rattle.borsh_check_lines.specs.declared.words.Word.{Word}
use Rattle.borsh_check_lines.specs.declared.words.Word.TheVariants as word
use Rattle.borsh_check_lines.specs.Schemas.{Schema, AnswersSchema, AnswersSchemaOrClash}
use Rattle.borsh_check_lines.specs.Words.{meaning}

schemas_agree : (word : Word) → MatchOption (meaning word).schema ⊤ (λ s. Agree s.1)
unfolding digits
schemas_agree word.U8 = refl
schemas_agree word.U32 = refl
schemas_agree word.U64 = refl
schemas_agree word.Bool = refl
schemas_agree word.OptionU8 = refl
schemas_agree word.String = refl
schemas_agree word.ListU8 = refl
schemas_agree word.U128 = refl
schemas_agree word.Isize = refl
schemas_agree word.NonZeroI16 = refl
schemas_agree word.Unit = refl
schemas_agree word.ResultU8 = refl
schemas_agree word.ArrayOption = refl
schemas_agree word.Ranges = refl
schemas_agree word.ListString = refl
schemas_agree word.ListOption = refl
schemas_agree word.ListUnit = refl
schemas_agree word.ListBoxUnit = refl
schemas_agree word.ListZero = refl
schemas_agree word.DequeU8 = refl
schemas_agree word.LinkedU8 = refl
schemas_agree word.SetU8 = refl
schemas_agree word.HashSetU8 = refl
schemas_agree word.MapU8 = refl
schemas_agree word.HashMapU8 = refl
schemas_agree word.MapSet = refl
schemas_agree word.MapUnit = refl
schemas_agree word.Ip = refl
schemas_agree word.BoxU8 = refl
schemas_agree word.RcString = refl
schemas_agree word.Container = refl
schemas_agree word.Readme = refl
schemas_agree word.MyEnum = refl
schemas_agree word.IndexMapU8 = tt
schemas_agree word.IndexSetU8 = tt
schemas_agree word.Bytes = tt
schemas_agree word.Uuid = tt
schemas_agree word.Socket = tt
schemas_agree word.SocketV6 = tt
schemas_agree word.MyStruct = tt
schemas_agree word.OneOrZero = tt
schemas_agree word.ListOne = tt

without_clash : (o : Option Schema) (out : List ℕ) → MatchOption o ⊤ (λ s. Agree s.1) → AnswersSchemaOrClash o out → AnswersSchema o out
without_clash None out a p = p
without_clash (Some s) out a (inl p) = p
without_clash (Some s) out a (inr h) = absurd (no_clash s.1 a h.name h.clash)

pub never_clashes : (word : Word) (out : List ℕ) → AnswersSchemaOrClash (meaning word).schema out → AnswersSchema (meaning word).schema out
never_clashes word out p = without_clash (meaning word).schema out (schemas_agree word) p
