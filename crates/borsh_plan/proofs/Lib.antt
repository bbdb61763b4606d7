pub mod NameLaws
pub mod Building
pub mod Places
pub mod SizesLaws
pub mod ZeroLaws
pub mod Laws
