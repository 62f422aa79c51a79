-- What every decision of a command has: the blocks that its plan records, what it asks of the lent buffers, the run that a READ hands out.
pub mod Types
pub mod Run
pub mod Recorded
pub mod Lent
