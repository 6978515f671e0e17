pub mod SearchLaws
pub mod ResolveLaws
