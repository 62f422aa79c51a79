-- Laws about every decision, for proofs in this crate and above it.
pub mod Laws
