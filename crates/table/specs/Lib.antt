-- What the judge's parts answer, in terms of the rules.
pub mod Refused
pub mod Parents
