-- One file a topic, named as in specs/.
pub mod Records
pub mod Check
pub mod Rules
pub mod Sound
pub mod Grow
pub mod Order
pub mod Onward
pub mod Readable
pub mod Blank
pub mod Verdict
pub mod Apply
