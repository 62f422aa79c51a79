-- One file a topic, named as in specs/.
pub mod Run
