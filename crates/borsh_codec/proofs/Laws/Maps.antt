-- The laws of maps and sets.
pub mod Counted
pub mod Entries
pub mod Sorted
pub mod Ordered
pub mod Inserted
pub mod Types
