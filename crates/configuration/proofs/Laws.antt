-- One file a topic, named as in specs/.
pub mod Reading
pub mod Theorems
pub mod Face
