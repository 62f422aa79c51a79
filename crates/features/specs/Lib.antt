-- What GET CONFIGURATION says. A reader starts at Feature and Configuration.
pub mod Types
pub mod Bytes
pub mod Feature
pub mod Configuration
