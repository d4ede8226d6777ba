-- The laws of this crate.
pub mod CopyLaws
pub mod OperatorLaws
