-- The refusals of schemas.
use Rattle.borsh_walks.specs.declared.error.SchemaMaxSerializedSizeError.{SchemaMaxSerializedSizeError}
use Rattle.borsh_walks.specs.declared.error.SchemaMaxSerializedSizeError.TheVariants.{Redefinition, OutOfMemory}
use Rattle.borsh_schema.specs.declared.definitions.SchemaBuildError.{SchemaBuildError}
use Rattle.borsh_schema.specs.declared.definitions.SchemaBuildError.TheVariants.{Redefinition as Clash, OutOfMemory as NoMemory}

-- a refusal to build a container, as one to size it
abbrev pub size_error : SchemaBuildError → SchemaMaxSerializedSizeError
size_error (Clash m) = Redefinition m
size_error NoMemory = OutOfMemory
