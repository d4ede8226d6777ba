-- The laws of this crate.
mod ValuedLaws
pub mod SaidLaws
