-- Re-exports from the schema crates.
pub use Rattle.borsh_walks.specs.Container
pub use Rattle.borsh_walks.specs.SizeAnswer
pub use Rattle.borsh_walks.specs.SizeOutcome
pub use Rattle.borsh_walks.specs.RulesAnswer
pub use Rattle.borsh_definitions.specs.Described
pub use Rattle.borsh_schema.specs.Joined
pub use Rattle.borsh_definitions.specs.Language
pub use Rattle.borsh_definitions.specs.Names
pub use Rattle.borsh_definitions.specs.Types
pub use Rattle.borsh_definitions.proofs.Laws
pub use Rattle.borsh_schema.specs.Containers
pub use Rattle.borsh_schema.specs.Questions
pub use Rattle.borsh_schema.specs.Sized
pub use Rattle.borsh_schema.specs.Variants
pub use Rattle.borsh_schema.proofs.DescribedCases as Cases
