-- The words of this crate's private contracts.
pub mod Machine
pub mod Atoms
pub mod Rows
pub mod Steps
pub mod Frames
pub mod Statements
pub mod Heads
pub mod Wholes
