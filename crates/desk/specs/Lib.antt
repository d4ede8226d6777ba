pub mod Desk
pub mod Read
pub mod Cases
pub mod Claims
