-- One file a topic, named as in specs/.
pub mod Record
pub mod Whole
pub mod Parts
