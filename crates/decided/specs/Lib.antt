-- What it is for a contract to decide the answer, and for which functions that is so.
pub mod Decided
pub mod NoSecondAnswer
