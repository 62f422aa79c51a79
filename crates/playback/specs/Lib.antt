-- What replaying a trace prints. A reader starts at Text.
pub mod Types
pub mod Text
pub mod Line
pub mod Replay
pub mod Transcript
pub mod Output
