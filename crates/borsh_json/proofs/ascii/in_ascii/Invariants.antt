use Rattle.std.proofs.Common.{◌++◌, IsUtf8, All}
use Rattle.borsh_json.specs.Ascii.{IsInLine, IsPlain, IsSameJson}
use Rattle.borsh_json.proofs.ascii.in_ascii.Given as goal

abbrev pub invariant-loop-character : goal.invariant-loop-character
invariant-loop-character l =
    IsSameJson l.fn.json (l.text.items ++ l.character-iterator.rest.now)
    × IsUtf8 l.character-iterator.rest.now
    × All IsPlain l.text.items
    × (All IsInLine l.fn.json → All IsInLine l.text.items × All IsInLine l.character-iterator.rest.now)
