-- The laws of recipes as text.
pub mod Unambiguous
pub mod OneAnswer
pub mod KnownWords
pub mod RowCounts
pub mod RecipeRows
pub mod TableLaws
pub mod Faults
mod Declared
pub mod Answered
mod FaultCases
pub mod Evaluation
pub mod SaidLaws
pub mod Claims
