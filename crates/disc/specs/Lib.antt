-- Document 01's disc as definitions, one topic a file. A reader starts at Records, the list, and Sound, its rules.
pub mod Types
pub mod Records
pub mod Sound
pub mod Rules
pub mod Blank
pub mod Ready
pub mod Verdict
pub mod Apply
