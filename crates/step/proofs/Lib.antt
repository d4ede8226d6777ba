-- The laws of the arrays and of each kind of step.
pub mod ArrayLaws
pub mod StepLaws
pub mod ArmLaws
pub mod OpenLaws
pub mod Claims
