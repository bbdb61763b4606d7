pub mod Numbers
pub mod FixedWidth
