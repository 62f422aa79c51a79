-- Document 01's commands as definitions, one topic a file. A reader starts at Judge and follows the names.
pub mod Types
pub mod Conclusion
pub mod Holder
pub mod Flush
pub mod Read
pub mod Write
pub mod Reserve
pub mod Close
pub mod Judge
