-- Examples that the definitions of `disc` compute. A reader starts at Shift, document 01's own.
pub mod Types
pub mod Shift
pub mod States
pub mod Tour
pub mod Full
pub mod Values
pub mod Discs
pub mod Reads
pub mod Forms
pub mod Identity
pub mod Searches
