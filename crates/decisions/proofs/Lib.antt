-- Laws about the definitions of specs/, for proofs in this crate and above it.
pub mod Laws
