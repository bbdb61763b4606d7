use Rattle.std.proofs.Common.{subst, string_bytes}
use Rattle.borsh_walks.specs.Answers.{SaysSize, words_of}
use Rattle.borsh_walks.specs.Definitions.{definitions_in}
use Rattle.borsh_walks.proofs.Spoken.{size_plain}
use Rattle.borsh_tool_commands.proofs.Told.{line_said}
use Rattle.borsh_tool_commands.proofs.answers.answer_to.Goals as goal

pub returns-in_ok-text-in-Size : goal.returns-in_ok-text-in-Size
returns-in_ok-text-in-Size c =
    let s = c.in_ok-size-in-Size in
    let w = words_of s.words in
    let C = definitions_in c.args.schema.now.definitions in
    let says = subst (λ root. SaysSize C root s.size w) c.deref-in-Size.ensures s.ensures in
    rw c.in-Size.is (s.size, c.is_some.ensures, line_said (SaysSize C (string_bytes c.args.schema.now.root) s.size) w says (size_plain C (string_bytes c.args.schema.now.root) s.size w says) c.in_ok-text-in-Size.ensures)
