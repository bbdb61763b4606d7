use Rattle.std.proofs.Common.{◌≡◌, ◌++◌, take, map, string_bytes}
use denote.Shadow.{shadow}
use denote.Text.{Utf8}
use Rattle.borsh_walks.specs.TupleNames.{following}
use Rattle.borsh_json.proofs.order.behind_parts.Given as goal

abbrev pub invariant-loop-part : goal.invariant-loop-part
invariant-loop-part l = (l.text ≡ following (take l.part-index (map (λ p. string_bytes p) l.parts)) ++ l.rest) × shadow (Utf8 l.rest)
