-- A line.
use Rattle.std.specs.Prelude.{◌≢◌, ℕ, All, List}

-- bytes without a line feed
abbrev pub IsLine : List ℕ → Type 0
IsLine bytes = All (λ b. b ≢ 10) bytes
