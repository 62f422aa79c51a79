-- The search by halving as a definition that counts its looks.
pub mod Types
pub mod Search
