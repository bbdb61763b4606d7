-- Texts: the bytes of their characters, in UTF-8.
use Rattle.std.specs.Prelude.{ℕ, true, List}
use Rattle.std.specs.Str.{is_utf8}
use Rattle.borsh_codec.specs.Codec.{Codec}
use Rattle.borsh_codec.specs.Shapes.{unsigned, length_prefixed, filtered}

-- a count of four bytes and that many bytes, which are UTF-8
abbrev pub text : Codec (List ℕ)
text = filtered true is_utf8 (length_prefixed (unsigned 1))
