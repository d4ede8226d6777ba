-- What this crate's contracts cite besides what a number is as bytes.
pub mod Read
