pub mod Together
pub mod Walks
pub mod Indexed
pub mod Corresponding
pub mod Answers
pub mod Alike
