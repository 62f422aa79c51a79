-- One file a topic, named as in specs/.
pub mod Texts
pub mod Lines
pub mod Replays
pub mod Served
pub mod Inputs
pub mod Outputs
