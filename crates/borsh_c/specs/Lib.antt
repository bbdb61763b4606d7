pub mod Room
pub mod Places
pub mod Answers
pub mod Texts
pub mod Many
pub mod Types
pub mod Pairs
