-- Whole sequences of commands. A reader starts at Demand, the statement, and goes on to Kept, Brought and Past; Cases has them at work.
pub mod Types
pub mod Sequence
pub mod Forms
pub mod Cut
pub mod Demand
pub mod Account
pub mod Kept
pub mod Brought
pub mod Past
pub mod Stale
pub mod Wide
pub mod Examples
pub mod Witness
pub mod Cases
