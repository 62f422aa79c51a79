-- The bytes of document 01's drive as definitions. A reader starts at Step and follows the names.
pub mod Types
pub mod Bytes
pub mod Moves
pub mod Reply
pub mod Step
pub mod Alike
pub mod Requests
