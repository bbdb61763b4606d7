-- The laws of each shape, proved once for every part.
pub mod Lists
pub mod Exact
pub mod Numbers
pub mod Pairs
pub mod Variants
pub mod Rows
pub mod Maps
pub mod Keys
pub mod AddressKeys
pub mod Conditional
pub mod OrderedKeys
pub mod OfParts
pub mod Types
