-- The words of this crate's contracts.
pub mod Denoted
pub mod Turns
pub mod Open
pub mod Claims
