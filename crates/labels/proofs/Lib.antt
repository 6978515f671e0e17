pub mod MarkLaws
pub mod MarkSearch
