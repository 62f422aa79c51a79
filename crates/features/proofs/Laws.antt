-- One file a topic, named as in specs/.
pub mod Bytes
pub mod Feature
pub mod Configuration
