-- What the implementation of a type by its parts cites.
pub use Rattle.borsh_codec.specs.Shapes.{contramap}
pub use Rattle.borsh_codec.proofs.Laws.Exact.{contramap-lawful}
pub use Rattle.borsh_codec.proofs.Laws.Conditional.{from}
pub use Rattle.borsh_codec.proofs.Laws.OrderedKeys.{contramap_ordered, IsKey, IsIndexKey, key_facts}
