pub mod Evaluation
pub mod WriteLaws
pub mod ReportLaws
pub mod Claims
