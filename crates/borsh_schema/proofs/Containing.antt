-- The container of a type, from the answers of its calls.
use Rattle.std.proofs.Common.{◌≡◌, ℕ, Bool, List, Some, length, subst, ◌∙◌, sym, ap, inl, inr, Decides, String, Global, string_bytes}
use Rattle.std.specs.BTreeMap.{BTreeMap, IsOrdered, btree_map_len}
use Rattle.std.specs.String.{string_cmp}
use Rattle.std.proofs.lemmas.List.{length-map}
use Rattle.borsh_walks.specs.declared.definition.Definition.{Definition}
use Rattle.borsh_schema.specs.declared.container.BorshSchemaContainer.{BorshSchemaContainer}
use Rattle.borsh_definitions.specs.Described.{Form, DefinitionTree, forms_in, nothing_defined}
use Rattle.borsh_schema.specs.Joined.{AreConsistent, IsDefinedIn, IsUnion}
use Rattle.borsh_schema.specs.Containers.{declaration_of, defined_in, map_of, IsContainerOf}
use Rattle.borsh_schema.proofs.Laws.Sameness.{said_entry, SayTheSame, container_as, container_once}

pub container_made : {name : List ℕ} {ps : DefinitionTree} (m n : BTreeMap (String Global) Definition) {d : String Global} (c : BorshSchemaContainer)
    → forms_in m ≡ nothing_defined → IsUnion (forms_in m) ps (forms_in n) → string_bytes d ≡ name → declaration_of c ≡ d → map_of c ≡ n → IsContainerOf name ps c
container_made {ps = ps} m n c e j f g h = record {
  root = ap string_bytes g ∙ f;
  definitions = subst (λ a. IsUnion a ps (forms_in (map_of c))) e (subst (λ k. IsUnion (forms_in m) ps (forms_in k)) (sym h) j);
}

-- two containers by ascending name are compared, first by how many definitions they have
module _ {name : List ℕ} {ps : DefinitionTree} (own sent : BorshSchemaContainer) (is : IsContainerOf name ps own) (o : IsOrdered string_cmp (map_of own)) (s : IsOrdered string_cmp (map_of sent)) where
  pub compared_long : (b : Bool) → Decides b (SayTheSame sent own) → Decides b (IsContainerOf name ps sent)
  compared_long b d = (λ e. container_as sent own (d.0 e) is, λ h. d.1 (container_once sent own s o h is))

  pub compared_short : (btree_map_len (map_of sent) ≡ btree_map_len (map_of own) → ⊥) → IsContainerOf name ps sent → ⊥
  compared_short f h =
      f (sym (length-map (map_of sent).entries said_entry) ∙ ap length (container_once sent own s o h is).1 ∙ length-map (map_of own).entries said_entry)

-- a type that has a container gives no name two definitions
module _ {name : List ℕ} {ps : DefinitionTree} (c : BorshSchemaContainer) (is : IsContainerOf name ps c) where
  has : (n : List ℕ) (d : Form) → IsDefinedIn nothing_defined ps n d → defined_in c n ≡ Some d
  has n d (inl h) = absurd (cc)
  has n d (inr h) = is.definitions.has n d h

  pub consistent : AreConsistent ps
  consistent n two =
      let one : Some two.first ≡ Some two.second = sym (has n two.first two.has_first) ∙ has n two.second two.has_second in
      two.apart (cc)
