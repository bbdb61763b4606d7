use Rattle.std.proofs.{Common.{◌≡◌, ◌∙◌, ◌∷◌, [], List, ℕ, MatchBool, eqb, length, map, string_bytes, sym, subst}, lemmas.List.{length-map}}
use Rattle.borsh_walks.specs.declared.definition.Fields.TheVariants.{UnnamedFields}
use Rattle.borsh_json.specs.Forms.{form_of_struct, unnamed}
use Rattle.borsh_json.proofs.FoundLaws.{newtype_is}
use Rattle.borsh_json.proofs.formats.has_one_unnamed.Goals as goal

pub returns-in-UnnamedFields : goal.returns-in-UnnamedFields
returns-in-UnnamedFields c =
    let ps = c.in-UnnamedFields.parts in
    let f = UnnamedFields ps in
    let l : length (map (λ p. string_bytes p) ps.items) ≡ c.len.result = length-map ps.items (λ p. string_bytes p) ∙ sym (c.len.ensures ∙ ps.ok.0) in
    subst (λ f. MatchBool (eqb c.len.result 1) ((x : List ℕ) × (form_of_struct f ≡ unnamed (x ∷ []))) ((p : List ℕ) → form_of_struct f ≡ unnamed (p ∷ []) → ⊥)) (sym c.in-UnnamedFields.is)
    (subst (λ n. MatchBool (eqb n 1) ((x : List ℕ) × (form_of_struct f ≡ unnamed (x ∷ []))) ((p : List ℕ) → form_of_struct f ≡ unnamed (p ∷ []) → ⊥)) l (newtype_is (map (λ p. string_bytes p) ps.items)))
