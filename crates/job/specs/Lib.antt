pub mod Limits
pub mod Jobs
pub mod Faults
pub mod Cases
pub mod Read
pub mod Claims
