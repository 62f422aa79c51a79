-- What document 01's commands say and how they are answered. A reader starts at Command and Answer.
pub mod Types
pub mod Answer
pub mod Command
pub mod Lengths
pub mod Reply
pub mod Inquiry
pub mod Reports
