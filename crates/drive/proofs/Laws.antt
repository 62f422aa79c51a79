-- One file a topic, named as in specs/.
pub mod Bytes
pub mod Agree
pub mod Moves
pub mod Gather
pub mod Kept
pub mod Reply
pub mod Step
pub mod Alike
pub mod Cut
pub mod Reads
