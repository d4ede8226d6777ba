pub mod Evaluation
pub mod DeskLaws
pub mod Claims
