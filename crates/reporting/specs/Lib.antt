-- What the reports say of a disc, and what the drive says it is.
pub mod Types
pub mod Reports
pub mod Identity
