pub mod Laws
pub mod Adding
pub mod Equality
pub mod Containing
pub mod Built
pub mod Outcomes
mod Counted
pub mod DescribedCases
pub mod DescribedGroups
mod Steps
