mod Inserted
mod Lengths
mod Room
mod Signing
mod WellFormed
mod WithSchema
-- re-exports: the steps of readers and writers
pub use Rattle.borsh_io.proofs.ReadLaws
pub use Rattle.borsh_io.proofs.WriteLaws
pub use Rattle.borsh_codec.proofs.ReadSteps
pub use Rattle.borsh_codec.proofs.ReadParts
pub use Rattle.borsh_codec.proofs.ReadBytes
pub use Rattle.borsh_codec.proofs.ReadSums
pub use Rattle.borsh_codec.proofs.ReadRows
pub use Rattle.borsh_codec.proofs.ReadWhole
pub use Rattle.borsh_codec.proofs.WriteSteps
pub use Rattle.borsh_codec.proofs.PutSteps
pub use Rattle.borsh_codec.proofs.WriteOutcomes
pub use Rattle.borsh_codec.proofs.WriteRows
pub use Rattle.borsh_codec.proofs.DecodeOutcomes
pub use Rattle.borsh_codec.proofs.DecodeVariants
pub use Rattle.borsh_codec.proofs.DecodeViews
pub use Rattle.borsh_codec.proofs.DecodeSums
pub use Rattle.borsh_codec.proofs.NumberBytes
-- a definition that was added, under an equal name
pub use Rattle.borsh_schema.proofs.Built
