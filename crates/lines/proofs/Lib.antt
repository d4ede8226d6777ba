pub mod NumberLaws
pub mod LineLaws
pub mod DecimalLaws
pub mod LineTrip
