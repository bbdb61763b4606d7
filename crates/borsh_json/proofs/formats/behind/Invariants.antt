use Rattle.std.proofs.Common.{◌≡◌, ◌++◌, take}
use denote.Shadow.{shadow}
use denote.Text.{Utf8}
use Rattle.borsh_json.specs.Found.{joined}
use Rattle.borsh_json.proofs.formats.behind.Given as goal

abbrev pub invariant-loop-piece : goal.invariant-loop-piece
invariant-loop-piece l = (l.name ≡ joined (take l.piece-index l.pieces) ++ l.rest) × shadow (Utf8 l.rest)
