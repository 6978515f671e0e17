pub mod PrintLaws
pub mod WriteLaws
