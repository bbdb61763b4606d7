pub mod Codec
pub mod Shapes
pub mod Maps
pub mod Types
pub mod Reading
pub mod RawBytes
pub mod Writing
pub mod Untouched
pub mod Variants
-- re-exports from borsh_io
pub use Rattle.borsh_io.specs.Errors
pub use Rattle.borsh_io.specs.Stream
pub use Rattle.borsh_io.specs.Sink
