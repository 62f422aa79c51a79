-- One file a topic, named as in specs/.
pub mod Answer
pub mod Lengths
pub mod Reports
pub mod Reply
