use Rattle.std.proofs.Common.{rules, ◌≡◌, ◌∷◌, [], All, List, ℕ, subst, sym}
use Rattle.json.specs.Json.{string}
use Rattle.json.specs.Print.{print}
use Rattle.json.specs.Token as token
use Rattle.borsh_json.specs.Ascii.{IsInLine}
use Rattle.borsh_json.proofs.LineLaws.{compact_line}
use Rattle.borsh_tool_commands.proofs.many.quoted.Goals as goal

pub returns-in-Ok-clause-line : goal.returns-in-Ok-clause-line
returns-in-Ok-clause-line c =
    let tokens : c.string.new.self.tokens ≡ token.string c.args.text.now ∷ [] = search rules in
    let before : c.string.new.self.before ≡ [] = search rules in
    let text : c.as_str.result.now ≡ print (token.string c.args.text.now ∷ []) = search rules in
    c.in_ascii.ensures.line (subst (λ (bytes : List ℕ). All IsInLine bytes) (sym text) (compact_line (string c.args.text.now) tt))
