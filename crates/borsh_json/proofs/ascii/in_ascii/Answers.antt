use Rattle.std.proofs.{Common.{◌≡◌, List, ℕ, ◌++◌, sym, subst, append_assoc, IsUtf8, All, Some}, lemmas.Str.{IsUtf8-past_char}}
use Rattle.json.specs.Json.{document}
use Rattle.borsh_json.specs.Ascii.{IsInLine, IsPlain, character_text}
use Rattle.borsh_json.proofs.{EscapeLaws.{first_scalar, kept_character}, LineLaws.{added_line, added_plain, character_line}}
use Rattle.borsh_json.proofs.ascii.in_ascii.Goals as goal

pub loop-character-preserved : goal.loop-character-preserved
loop-character-preserved c =
    let i = c.loop-character.invariant in
    let old = c.loop-character.text.items in
    let all = c.loop-character.character-iterator.rest.now in
    let rest = c.next.new.self.rest.now in
    let x = c.in-Some.character in
    let e = c.in-Some.ensures.steps.0 in
    let added = sym c.in_ok-put_character.ensures in (
      λ j d. subst (λ (l : List ℕ). document (l ++ rest) ≡ Some j) added
          (subst (λ (l : List ℕ). document l ≡ Some j) (sym (append_assoc old (character_text x) rest)) (kept_character old x rest j (first_scalar x rest (subst IsUtf8 e i.1)) (subst (λ (l : List ℕ). document (old ++ l) ≡ Some j) e (i.0 j d)))),
      IsUtf8-past_char all rest x i.1 e,
      subst (λ (l : List ℕ). All IsPlain l) added (added_plain x old i.2),
      λ a. let k = i.3 a in let l = character_line x all rest e k.1 in (subst (λ (l : List ℕ). All IsInLine l) added (added_line x old l.0 k.0), l.1),
    )
