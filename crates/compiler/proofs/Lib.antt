pub mod CompileLaws
pub mod Demands
