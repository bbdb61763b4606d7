-- Texts and their bytes.
use Rattle.std.proofs.Common.{◌≡◌, ℕ, Bool, true, List, sym, ◌∙◌, ap, subst}
use Rattle.std.specs.Str.{IsUtf8, is_utf8, chars}
use Rattle.std.proofs.lemmas.Str.{IsUtf8-from_is_utf8, is_utf8-from_IsUtf8, chars-encodes}
use lib.Utf8.{scalars, encodes}
use Rattle.borsh_codec.specs.Shapes.{unsigned, length_prefixed}
use Rattle.borsh_codec.specs.Types.Texts.{text}
use Rattle.borsh_codec.proofs.Laws.Exact.{passed_is}

-- what is written of the bytes of a text
pub text_encoding : (bytes string : List ℕ) → bytes ≡ string → IsUtf8 bytes → (length_prefixed (unsigned 1)).encoding bytes ≡ text.encoding string
text_encoding bytes string e utf8 = sym (passed_is (is_utf8 string) (is_utf8-from_IsUtf8 string (subst IsUtf8 e utf8)) (sym (ap (length_prefixed (unsigned 1)).encoding e)))

-- bytes that are decoded to a text are those of characters
pub text_spells : (strict : Bool) (x bytes : List ℕ) → text.decodes strict x bytes → IsUtf8 bytes
text_spells strict x bytes p = IsUtf8-from_is_utf8 bytes p.passed

-- and no other characters
pub text_spells_one : (cs ds : List ℕ) → scalars cs ≡ true → scalars ds ≡ true → encodes cs ≡ encodes ds → cs ≡ ds
text_spells_one cs ds p q e = sym (chars-encodes cs p) ∙ ap chars e ∙ chars-encodes ds q
