-- The meanings of the types, and their laws, a file for each family.
pub mod Sums
pub mod Floats
pub mod Texts
pub mod Addresses
