-- The reader of GET CONFIGURATION's replies. A reader starts at Reading; what holds of it stands in Theorems.
pub mod Types
pub mod Reading
pub mod First
pub mod Theorems
pub mod Face
pub mod Examples
