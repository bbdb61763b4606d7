pub mod ArrayLaws
pub mod Halves
pub mod ItemLengths
pub mod Items
