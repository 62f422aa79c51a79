-- One file a topic.
pub mod Recorded
pub mod Plan
pub mod Keep
pub mod Counts
pub mod Pending
pub mod Outcome
pub mod Accepts
pub mod Cut
pub mod Run
pub mod Judge
pub mod Lent
