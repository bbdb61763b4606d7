pub mod Errors
pub mod Lines
pub mod Stream
pub mod Sink
pub mod SinkLaws
pub mod Adapters
pub mod Unordered
pub mod Buffered
