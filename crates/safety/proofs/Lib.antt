-- The proofs of the demands.
pub mod Region
pub mod TwoRuns
pub mod Demand1
pub mod Demand3
pub mod Transparent
pub mod Least
pub mod Permissive
pub mod Explained
pub mod Bounds
pub mod Examples
pub mod Calls
pub mod Claims
