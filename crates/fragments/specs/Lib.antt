-- Document 01's numbers and one record of its fragment list, and the list without the disc. A reader starts at Fragment.
pub mod Types
pub mod Address
pub mod Fragment
pub mod List
pub mod Entry
pub mod Tail
pub mod Check
