-- How many lines an answerer has answered.
use Rattle.std.specs.Prelude.{ℕ}
use Rattle.borsh_check_lines.specs.declared.answerer.Answerer.{Answerer}

-- how many lines it has answered
abbrev pub line_count : Answerer → ℕ
line_count a = a.count
