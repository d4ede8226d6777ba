-- The proof that no second answer meets a contract.
pub mod NoSecondAnswer
