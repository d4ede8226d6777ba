-- The laws of this crate.
mod FoundLaws
mod PendingLaws
mod AdviceLaws
