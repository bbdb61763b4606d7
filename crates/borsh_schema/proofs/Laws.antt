-- The laws of joining definitions, and of containers.
pub mod Joining
pub mod Containers
pub mod Sameness
pub mod Agreeing
