-- One file a topic, named as in specs/.
pub mod Stored
pub mod Sessions
pub mod Contents
