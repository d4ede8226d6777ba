pub mod FieldLaws
pub mod ErrLaws
