-- One file a topic, named as in specs/.
pub mod Image
pub mod Used
pub mod Update
pub mod Face
