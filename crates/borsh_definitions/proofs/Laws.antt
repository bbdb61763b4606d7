-- The laws of describing.
pub mod Members
pub mod Quoted
pub mod Own
pub mod Equality
pub mod Adding
