-- The laws of reading a recipe's text.
pub mod RunLaws
pub mod FaultLaws
pub mod KeyLaws
pub mod StartLaws
pub mod SpellLaws
pub mod RowLaws
pub mod AtomLaws
pub mod PlaceLaws
pub mod NameLaws
pub mod FrameLaws
pub mod TurnLaws
pub mod StatementLaws
pub mod HeadLaws
pub mod WholeLaws
pub mod TextLaws
pub mod ErrLaws
