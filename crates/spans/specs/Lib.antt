-- What this crate's contracts cite besides the language.
pub mod Cut
