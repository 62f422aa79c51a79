-- The table of contents of a fragment list: its closed sessions, and the bytes that READ TOC says of them. A reader starts at Contents.
pub mod Types
pub mod Sessions
pub mod Entry
pub mod Contents
