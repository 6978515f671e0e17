pub mod MarkLaws
pub mod LineLaws
