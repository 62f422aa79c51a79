-- One file a topic, named as in specs/, and two beside them: the session's part of Close, and what an effect makes of a disc.
pub mod Flush
pub mod Read
pub mod Write
pub mod Reserve
pub mod Close
pub mod Session
pub mod Effect
pub mod Holder
pub mod Judge
