-- The size of a type.
use Rattle.std.specs.Prelude.{◌≡◌, ℕ, ◌≤◌, List, length, Some, Err, ◌⊎◌, Result, IfOk}
use Rattle.borsh_codec.specs.Codec.{Codec}
use Rattle.borsh_walks.specs.SizeOutcome.{AnswersSize}
use Rattle.borsh_walks.specs.declared.error.SchemaMaxSerializedSizeError.{SchemaMaxSerializedSizeError}
use Rattle.borsh_schema.specs.declared.container.BorshSchemaContainer.{BorshSchemaContainer}
use Rattle.borsh_schema.specs.declared.definitions.SchemaBuildError.{SchemaBuildError}
use Rattle.borsh_schema.specs.Errors.{size_error}
use Rattle.borsh_definitions.specs.Described.{DefinitionTree, nothing_defined}
use Rattle.borsh_schema.specs.Joined.{BuildFault}
use Rattle.borsh_schema.specs.Containers.{language_of, root_of, IsContainerOf}

-- the result is that of the type's container
pub record IsSizeOf (name : List ℕ) (ps : DefinitionTree) (r : Result ℕ SchemaMaxSerializedSizeError) : Type 0 where
  pub container : BorshSchemaContainer
  pub is : IsContainerOf name ps container
  pub size : AnswersSize (language_of container) (root_of container) r

-- the container was refused
pub record IsNotBuilt (ps : DefinitionTree) (r : Result ℕ SchemaMaxSerializedSizeError) : Type 0 where
  pub error : SchemaBuildError
  pub fault : BuildFault nothing_defined ps error
  pub is : r ≡ Err (size_error error)

-- the outcome of a call that computes a type's greatest size
pub record AnswersTypeSize {A : Type 0} (c : Codec A) (name : List ℕ) (ps : DefinitionTree) (r : Result ℕ SchemaMaxSerializedSizeError) : Type 0 where
  -- the result is that of the type's container, or the container was refused
  pub of_type : IsSizeOf name ps r ⊎ IsNotBuilt ps r
  -- no encoding is longer than a returned size
  pub bounds : IfOk r (λ n. (a : A) (x : List ℕ) → c.encoding a ≡ Some x → length x ≤ n)
