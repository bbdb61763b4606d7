-- A definition is put into a map, as an entry.
use Rattle.std.proofs.Common.{◌≡◌, ℕ, List, [], ◌∷◌, Some, None, ◌⊎◌, sym, ◌∙◌, ap, inl, inr, Global, String, string_bytes}
use Rattle.std.specs.BTreeMap.{BTreeMap, get_by_text, UpdatesBy}
use Rattle.std.specs.String.{string_cmp}
use Rattle.std.specs.Ordering.{nat_cmp}
use Rattle.std.specs.Cmp.Lexicographic.{slice_cmp}
use Rattle.borsh_walks.specs.declared.definition.Definition.{Definition}
use Rattle.borsh_definitions.specs.Described.{Form, form_of, DefinitionMap, forms_in}
use Rattle.borsh_definitions.proofs.Laws.Adding.{keeps, defined_now, known_or_new}
use Rattle.borsh_source.specs.Lists.{IsListed}
use Rattle.borsh_source.specs.Forms.{Entry}
use Rattle.borsh_source.specs.Container.{Adds}

-- the definition is there already
pub added_known : (a : DefinitionMap) (n : List ℕ) (d : Form) → a n ≡ Some d → Adds a a ((n, d) ∷ [])
added_known a n d h = record {
  keeps = λ m e k. k;
  has = λ m e k. elim k [ inl p ↦ ap (λ q. a q.0) (sym p) ∙ h ∙ ap (λ q. Some q.1) p | inr p ↦ absurd p ];
  only = λ m e k. inl k;
}

module _ (m n : BTreeMap (String Global) Definition) (bs : List ℕ) (v : Definition) (absent : get_by_text m bs ≡ None) (u : UpdatesBy string_cmp (λ k. slice_cmp nat_cmp bs (string_bytes k)) m n (Some v)) where
  has : (q : List ℕ) (d : Form) → IsListed {A = Entry} (q, d) ((bs, form_of v) ∷ []) → forms_in n q ≡ Some d
  has q d (inl k) = defined_now m n bs v absent u q (ap (λ e. e.0) k) ∙ ap (λ e. Some e.1) k
  has q d (inr k) = absurd k

  only : (q : List ℕ) (d : Form) → forms_in n q ≡ Some d → (forms_in m q ≡ Some d) ⊎ IsListed {A = Entry} (q, d) ((bs, form_of v) ∷ [])
  only q d h = elim (known_or_new m n bs v absent u q d h) [ inl p ↦ inl p | inr p ↦ inr (inl (let e = p.1 in let b = p.0 in cc)) ]

  -- the name was free, and has the definition now
  pub added_new : Adds (forms_in m) (forms_in n) ((bs, form_of v) ∷ [])
  added_new = record { keeps = keeps m n bs v absent u; has = has; only = only }
