pub mod Made
pub mod Room
pub mod Rows
pub mod Calls
pub mod Views
