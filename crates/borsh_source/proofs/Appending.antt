-- Definitions that are put at the end of a list, one step after another.
use Rattle.std.proofs.Common.{◌≡◌, ℕ, List, [], ◌∷◌, ◌++◌, map, ◌∙◌, ap, append_assoc, String, Global}
use Rattle.borsh_walks.specs.declared.definition.Definition.{Definition}
use Rattle.borsh_definitions.specs.Described.{Form}
use Rattle.borsh_source.specs.Forms.{Entry, Appends, entry}

pub appends_then : (a b c : List (String Global × Definition)) (es fs : List Entry) → Appends a b es → Appends b c fs → Appends a c (es ++ fs)
appends_then a b c es fs p q = q ∙ ap (λ l. l ++ fs) p ∙ append_assoc (map entry a) es fs

-- the same by what the definition says
pub appends_as : (a b : List (String Global × Definition)) (n : List ℕ) {d e : Form} → Appends a b ((n, d) ∷ []) → d ≡ e → Appends a b ((n, e) ∷ [])
appends_as a b n p q = p ∙ ap (λ z. map entry a ++ (n, z) ∷ []) q
