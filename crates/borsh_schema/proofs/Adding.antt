-- A definition is put into a map, as a union.
use Rattle.std.proofs.Common.{◌≡◌, ℕ, List, Option, Some, None, refl, sym, ◌∙◌, ap, inl, inr, Global, String, string_bytes}
use Rattle.std.specs.BTreeMap.{BTreeMap, get_by_text, UpdatesBy}
use Rattle.std.specs.String.{string_cmp}
use Rattle.std.specs.Ordering.{nat_cmp}
use Rattle.std.specs.Cmp.Lexicographic.{slice_cmp}
use Rattle.borsh_walks.specs.declared.definition.Definition.{Definition}
use Rattle.borsh_schema.specs.declared.definitions.SchemaBuildError.TheVariants.{Redefinition}
use Rattle.borsh_definitions.specs.Described.{Form, form_of, DefinitionMap, forms_in, none, defined, IsInTree}
use Rattle.borsh_definitions.proofs.Laws.Adding.{keeps, defined_now, known_or_new}
use Rattle.borsh_schema.specs.Joined.{IsDefinedIn, IsUnion, UnionFails}

module _ (a : DefinitionMap) (n : List ℕ) (d : Form) (h : a n ≡ Some d) where
  known_part : (m : List ℕ) (e : Form) → IsInTree m e (defined n d none) → a m ≡ Some e
  known_part m e (inl k) = ap a (sym k.0) ∙ h ∙ ap Some k.1
  known_part m e (inr k) = absurd k

  -- the definition is there already
  pub joined_known : IsUnion a (defined n d none) a
  joined_known = record { keeps = λ m e k. k; has = known_part; only = λ m e k. inl k }

-- the name has another definition
pub not_joined_known : (a : DefinitionMap) {k d : Form} (m : String Global) → a (string_bytes m) ≡ Some k → (k ≡ d → ⊥) → UnionFails a (defined (string_bytes m) d none) a (Redefinition m)
not_joined_known a {k = k} {d = d} m h apart = record {
  partly = record { keeps = λ n e i. i; only = λ n e i. inl i };
  fault = record { first = k; second = d; has_first = inl h; has_second = inr (inl (refl, refl)); apart = apart };
}

-- what is found under a name is one
pub found_once : {k d : Form} {o : Option Form} → o ≡ Some k → o ≡ Some d → d ≡ k
found_once f g = let e = sym f in let h = g in cc

module _ (m n : BTreeMap (String Global) Definition) (bs : List ℕ) (v : Definition) (absent : get_by_text m bs ≡ None) (u : UpdatesBy string_cmp (λ k. slice_cmp nat_cmp bs (string_bytes k)) m n (Some v)) where
  has : (q : List ℕ) (d : Form) → IsInTree q d (defined bs (form_of v) none) → forms_in n q ≡ Some d
  has q d (inl k) = defined_now m n bs v absent u q k.0 ∙ ap Some k.1
  has q d (inr k) = absurd k

  only : (q : List ℕ) (d : Form) → forms_in n q ≡ Some d → IsDefinedIn (forms_in m) (defined bs (form_of v) none) q d
  only q d h = elim (known_or_new m n bs v absent u q d h) [ inl p ↦ inl p | inr p ↦ inr (inl p) ]

  -- the name was free, and has the definition now
  pub joined_new : IsUnion (forms_in m) (defined bs (form_of v) none) (forms_in n)
  joined_new = record { keeps = keeps m n bs v absent u; has = has; only = only }
