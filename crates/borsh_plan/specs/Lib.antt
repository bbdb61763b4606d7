pub mod Names
pub mod Sizes
pub mod Zeros
pub mod Plan
