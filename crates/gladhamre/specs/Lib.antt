-- The C face as definitions. A reader starts at Face; Image is the layout of a state in memory, Used what the code tests of it,
-- Update what a change makes of it, Served what is told of a command that was served or refused.
pub mod Types
pub mod Image
pub mod Used
pub mod Update
pub mod Face
pub mod Served
