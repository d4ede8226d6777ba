-- The demands, and the words that they use.
pub mod Stations
pub mod Demands
pub mod Examples
pub mod Calls
pub mod Claims
