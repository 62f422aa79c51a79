-- What a command is decided to, as definitions.
pub mod Types
pub mod Plan
pub mod Decision
pub mod Flushing
pub mod Run
