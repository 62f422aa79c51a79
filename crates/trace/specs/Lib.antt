-- Document 01's records. A reader starts at Record.
pub mod Types
pub mod Record
pub mod Whole
