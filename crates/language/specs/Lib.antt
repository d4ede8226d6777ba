-- Recipes as text: their words, what each word is, which words are a recipe, and the table of a recipe. Nothing here says how a
-- text is read.
pub mod Limits
pub mod Words
pub mod Tokens
pub mod Recipes
pub mod Tables
pub mod Said
pub mod Readings
pub mod Answers
pub mod Cases
pub mod Claims
