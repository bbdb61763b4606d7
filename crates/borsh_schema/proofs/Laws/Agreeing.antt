-- Parts that agree: no name has two definitions.
use Rattle.std.specs.Str.{bytes_eq}
use Rattle.std.proofs.Common.{◌≡◌, ℕ, List, cond, sym, ◌∙◌, ap, inl, inr}
use Rattle.borsh_definitions.specs.Described.{Form, no_fields, DefinitionTree, none, defined, both, nothing_defined, IsInTree}
use Rattle.borsh_schema.specs.Joined.{IsDefinedIn, Conflicts}

-- the first definition of the name, or `d` where it has none
abbrev pub first_in : DefinitionTree → List ℕ → Form → Form
first_in none n d = d
first_in (defined m e ps) n d = cond (bytes_eq m n) e (first_in ps n d)
first_in (both ps qs) n d = first_in ps n (first_in qs n d)

-- the parts, where each name is given the definition that `f` has for it
abbrev pub redefined : (List ℕ → Form) → DefinitionTree → DefinitionTree
redefined f none = none
redefined f (defined n d ps) = defined n (f n) (redefined f ps)
redefined f (both ps qs) = both (redefined f ps) (redefined f qs)

-- each definition is the first one of its name; for parts that are written out this computes
abbrev pub Agree : DefinitionTree → Type 0
Agree ps = redefined (λ n. first_in ps n no_fields) ps ≡ ps

-- a definition among the parts is the one that `f` has for its name
part_redefined : (f : List ℕ → Form) (ps : DefinitionTree) → redefined f ps ≡ ps → (n : List ℕ) (d : Form) → IsInTree n d ps → f n ≡ d
part_redefined f none a n d h = absurd h
part_redefined f (defined m e ps) a n d (inl h) = let e : f m ≡ e = cc in ap f (sym h.0) ∙ e ∙ h.1
part_redefined f (defined m e ps) a n d (inr h) = part_redefined f ps (cc) n d h
part_redefined f (both ps qs) a n d (inl h) = part_redefined f ps (cc) n d h
part_redefined f (both ps qs) a n d (inr h) = part_redefined f qs (cc) n d h

given_redefined : (f : List ℕ → Form) (ps : DefinitionTree) → redefined f ps ≡ ps → (n : List ℕ) (d : Form) → IsDefinedIn nothing_defined ps n d → f n ≡ d
given_redefined f ps a n d (inl h) = absurd (cc)
given_redefined f ps a n d (inr h) = part_redefined f ps a n d h

-- parts that agree have no name with two definitions
pub no_clash : (ps : DefinitionTree) → Agree ps → (n : List ℕ) → Conflicts nothing_defined ps n → ⊥
no_clash ps a n h =
    let f : List ℕ → Form = λ n. first_in ps n no_fields in
    h.apart (sym (given_redefined f ps a n h.first h.has_first) ∙ given_redefined f ps a n h.second h.has_second)
