-- The laws of going on with a run.
pub mod GoingLaws
pub mod CallLaws
pub mod AgainLaws
pub mod Claims
