pub mod Reports
pub mod Written
pub mod Putting
pub mod Cases
pub mod Claims
