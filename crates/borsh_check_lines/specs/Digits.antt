-- Bytes as hexadecimal digits.
use Rattle.std.specs.Prelude.{ℕ, ◌==◌, List, [], ◌∷◌, length, Option, Some, None, if◌then◌else◌, codes, nat_eq}
use Rattle.std.specs.Cmp.Lexicographic.{pointwise}
use Rattle.std.specs.Result.{result_ok}
use Rattle.hex.specs.Hex.{decode_of, encode_lower}

-- the bytes that are written so: by an even number of digits of either case, at least two, or by `-` for none
abbrev pub bytes_written : List ℕ → Option (List ℕ)
bytes_written digits =
    if pointwise nat_eq digits (codes "-") then Some [] else (if length digits == 0 then None else result_ok (decode_of digits))

-- how bytes are written in an answer
abbrev pub digits_of : List ℕ → List ℕ
digits_of [] = codes "-"
digits_of (b ∷ bytes) = encode_lower (b ∷ bytes)
