-- A definition is put into a map.
use Rattle.std.proofs.Common.{◌≡◌, ℕ, true, false, cond, List, [], Option, Some, None, ◌⊎◌, refl, sym, ◌∙◌, ap, inl, inr, true≢false, Global, String, string_bytes, option_map}
use Rattle.std.specs.Str.{bytes_eq}
use Rattle.std.specs.BTreeMap.{BTreeMap, get_by_text, is_at, UpdatesBy}
use Rattle.std.specs.Map.{lookup}
use Rattle.std.specs.String.{string_cmp}
use Rattle.std.specs.Ordering.{nat_cmp}
use Rattle.std.specs.Cmp.Lexicographic.{slice_cmp}
use Rattle.std.proofs.lemmas.Slice.Eq.{bytes_eq-Decides}
use Rattle.std.proofs.lemmas.Map.Text.{btree_map_updates_text}
use Rattle.borsh_walks.specs.declared.definition.Definition.{Definition}
use Rattle.borsh_definitions.specs.Described.{Form, form_of, forms_in, nothing_defined}

-- nothing is in a map without entries
pub nothing_in : (m : BTreeMap (String Global) Definition) → m.entries ≡ [] → forms_in m ≡ nothing_defined
nothing_in m e = ap (λ es n. option_map form_of (lookup (is_at (λ k. slice_cmp nat_cmp n (string_bytes k))) es)) e

-- what a look-up by a text found is what the text's bytes have
pub found_at : (m : BTreeMap (String Global) Definition) (bs cs : List ℕ) {o : Option Definition} → o ≡ get_by_text m bs → bs ≡ cs → forms_in m cs ≡ option_map form_of o
found_at m bs cs e p = ap (forms_in m) (sym p) ∙ ap (option_map form_of) (sym e)

pub absent_at : (m : BTreeMap (String Global) Definition) (bs cs : List ℕ) → None ≡ get_by_text m bs → bs ≡ cs → get_by_text m cs ≡ None
absent_at m bs cs e p = ap (get_by_text m) (sym p) ∙ sym e

module _ (m n : BTreeMap (String Global) Definition) (bs : List ℕ) (v : Definition) (absent : get_by_text m bs ≡ None) (u : UpdatesBy string_cmp (λ k. slice_cmp nat_cmp bs (string_bytes k)) m n (Some v)) where
  -- a name is the new one, or it has what it had
  abbrev After : List ℕ → Type 0
  After q = ((bs ≡ q) × (forms_in n q ≡ Some (form_of v))) ⊎ ((bs ≡ q → ⊥) × (forms_in n q ≡ forms_in m q))

  at_name : (q : List ℕ) → forms_in n q ≡ option_map form_of (cond (bytes_eq bs q) (Some v) (get_by_text m q))
  at_name q = ap (option_map form_of) (btree_map_updates_text bs m n (Some v) u q)

  after : (q : List ℕ) → After q
  after q = elim (bytes_eq bs q) as (λ b. bytes_eq bs q ≡ b → After q) [
    | true ↦ λ e. inl ((bytes_eq-Decides bs q).0 e, at_name q ∙ ap (λ b. option_map form_of (cond b (Some v) (get_by_text m q))) e)
    | false ↦ λ e. inr (λ p. true≢false (sym ((bytes_eq-Decides bs q).1 p) ∙ e), at_name q ∙ ap (λ b. option_map form_of (cond b (Some v) (get_by_text m q))) e)
  ] refl

  nothing : forms_in m bs ≡ None
  nothing = ap (option_map form_of) absent

  -- what was defined stays
  pub keeps : (q : List ℕ) (d : Form) → forms_in m q ≡ Some d → forms_in n q ≡ Some d
  keeps q d h = elim (after q) [
    | inl p ↦ (let e = ap (forms_in m) p.0 in let z = nothing in absurd (cc))
    | inr p ↦ p.1 ∙ h
  ]

  -- the name was free, and has the definition now
  pub defined_now : (q : List ℕ) → bs ≡ q → forms_in n q ≡ Some (form_of v)
  defined_now q e = elim (after q) [ inl p ↦ p.1 | inr p ↦ absurd (p.0 e) ]

  -- and nothing else is new
  pub known_or_new : (q : List ℕ) (d : Form) → forms_in n q ≡ Some d → (forms_in m q ≡ Some d) ⊎ ((bs ≡ q) × (form_of v ≡ d))
  known_or_new q d h = elim (after q) [ inl p ↦ inr (p.0, (let e = p.1 in cc)) | inr p ↦ inl (sym p.1 ∙ h) ]
