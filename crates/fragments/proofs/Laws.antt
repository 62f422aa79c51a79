-- One file a topic, named as in specs/.
pub mod Bool
pub mod Numbers
pub mod Address
pub mod List
pub mod Tail
pub mod Check
