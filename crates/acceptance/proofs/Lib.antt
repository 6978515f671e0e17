pub mod Stmts
