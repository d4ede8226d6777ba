pub mod Evaluation
pub mod FillLaws
pub mod JobLaws
pub mod ToldLaws
pub mod RoundTrip
pub mod Claims
