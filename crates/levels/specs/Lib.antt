-- What this crate's contracts cite besides the rules.
pub mod Found
pub mod Pending
