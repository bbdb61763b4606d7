pub mod MyEnum
pub mod One
pub mod OneOrZero
pub mod Schemas
