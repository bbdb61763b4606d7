use Rattle.std.proofs.Common.{◌≡◌, ◌∙◌, All, Some, ap, string_bytes, subst, sym}
use Rattle.json.specs.{Json.{document}, Lex.{tokens}, Tree.{json_tokens}}
use Rattle.borsh_plan.specs.Plan.{map_of, root_of}
use Rattle.borsh_json.specs.{Ascii.{IsInLine}, Printed.{laid_out}}
use Rattle.borsh_json.proofs.{LineLaws.{compact_line}, WritingLaws.{json_read, quoted_numbers, text_represents}}
use Rattle.borsh_json.proofs.table.Table.to_json.Goals as goal

pub text_of-requires : goal.text_of-requires
text_of-requires c = let w = c.in_ok-out.ensures.written in c.in-Some.ensures.utf8 (json_tokens w.0) w.1

pub returns-clause-says : goal.returns-clause-says
returns-clause-says c =
    let l = c.args.self.now.plan.now in
    let w = c.in_ok-out.ensures.written in
    let t = text_represents (map_of l) (root_of l) c.args.bytes.now c.in_ok-out.out w c.in_ok-out.ensures.member c.in-Some.text.items (c.in-Some.ensures.tokens (json_tokens w.0) w.1) in
    (t.0, c.in_ok-in_characters.ensures.same t.0 (subst (λ s. document s ≡ Some t.0) (sym c.text_of.ensures) t.1), t.2, t.3, t.4)

pub returns-clause-line : goal.returns-clause-line
returns-clause-line c = λ e.
    let w = c.in_ok-out.ensures.written in
    let p = c.in-Some.ensures.layout (json_tokens w.0) w.1 ∙ ap (λ l. laid_out l (json_tokens w.0)) e in
    c.in_ok-in_characters.ensures.line (subst (λ s. All IsInLine s) (sym (c.text_of.ensures ∙ p)) (compact_line w.0 w.2))

pub returns-clause-printed : goal.returns-clause-printed
returns-clause-printed c = λ e.
    let w = c.in_ok-out.ensures.written in
    let same = c.in_ok-in_characters.ensures.kept e ∙ c.text_of.ensures in
    let p = c.in-Some.ensures.layout (json_tokens w.0) w.1 ∙ ap (λ ts. laid_out c.args.style.layout ts) (sym (c.in-Some.ensures.tokens (json_tokens w.0) w.1)) in
    same ∙ p ∙ ap (λ b. laid_out c.args.style.layout (tokens b)) (sym same)

pub returns-clause-quoted : goal.returns-clause-quoted
returns-clause-quoted c = λ e.
    let l = c.args.self.now.plan.now in
    let w = c.in_ok-out.ensures.written in
    let read = json_read c.in-Some.text.items w.0 (c.in-Some.ensures.tokens (json_tokens w.0) w.1) w.2 w.3 in
    let same = c.in_ok-in_characters.ensures.same w.0 (subst (λ s. document s ≡ Some w.0) (sym c.text_of.ensures) read) in
    quoted_numbers (map_of l) (root_of l) c.args.bytes.now c.in_ok-out.out w c.in_ok-out.ensures.member c.args.style.long_numbers (string_bytes c.in_ok-in_characters.field-0) c.in-Some.ensures.long e same
