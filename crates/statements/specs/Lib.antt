pub mod Stmt
