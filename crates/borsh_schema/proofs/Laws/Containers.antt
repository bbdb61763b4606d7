-- A container that holds a type's definitions describes the type.
use Rattle.std.proofs.Common.{◌≡◌, ℕ, List, Option, Some, refl, sym, ◌∙◌, ap, subst, inl, inr, String, Global, option_map}
use Rattle.std.specs.BTreeMap.{BTreeMap}
use Rattle.borsh_codec.specs.Codec.{Codec}
use Rattle.borsh_walks.specs.declared.definition.Definition.{Definition}
use Rattle.borsh_walks.specs.Container.{Shape, Member}
use Rattle.borsh_walks.specs.Definitions.{definitions_in}
use Rattle.borsh_walks.proofs.Forms.{shapes_are}
use Rattle.borsh_definitions.specs.Described.{Form, shape_of_form, forms_in, DefinitionTree, none, defined, both, IsInTree}
use Rattle.borsh_definitions.specs.Language.{Holds, Describes}
use Rattle.borsh_schema.specs.declared.container.BorshSchemaContainer.{BorshSchemaContainer}
use Rattle.borsh_schema.specs.Containers.{map_of, language_of, IsContainerOf, DescribesRoot}

-- what is in a map is in its language
pub shape_at : (m : BTreeMap (String Global) Definition) (n : List ℕ) (d : Form) → forms_in m n ≡ Some d → definitions_in m n ≡ Some (shape_of_form d)
shape_at m n d e = ap (λ C. C n) (sym (shapes_are m)) ∙ ap (option_map shape_of_form) e

-- a map with all of the parts holds them
pub holds_parts : (m : BTreeMap (String Global) Definition) (ps : DefinitionTree) → ((n : List ℕ) (d : Form) → IsInTree n d ps → forms_in m n ≡ Some d) → Holds (definitions_in m) ps
holds_parts m none has = tt
holds_parts m (defined n d ps) has = (shape_at m n d (has n d (inl (refl, refl))), holds_parts m ps (λ k e h. has k e (inr h)))
holds_parts m (both ps qs) has = (holds_parts m ps (λ k e h. has k e (inl h)), holds_parts m qs (λ k e h. has k e (inr h)))

-- the container of a type describes the type, where each container that holds the type's definitions does
pub describes_root : {A : Type 0} (c : Codec A) (name : List ℕ) (ps : DefinitionTree) (container : BorshSchemaContainer) → ((C : List ℕ → Option Shape) → Holds C ps → Describes A C c name) → IsContainerOf name ps container → DescribesRoot c container
describes_root c name ps container law h =
    let d = law (language_of container) (holds_parts (map_of container) ps h.definitions.has) in
    λ a x e. subst (λ n. Member (language_of container) n x) (sym h.root) (d.member a x e)
