pub mod Described
pub mod Language
pub mod Names
pub mod Types
pub mod Addresses
pub mod Own
pub mod Codecs
