-- The theorems of specs/.
pub mod Laws
