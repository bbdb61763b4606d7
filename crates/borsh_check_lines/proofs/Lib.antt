mod OneLineSteps
mod Asked
mod Agreed
mod LineSteps
pub mod Turns
