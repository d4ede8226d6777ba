-- The words of this crate's private contracts.
pub mod Going
pub mod Again
pub mod Claims
