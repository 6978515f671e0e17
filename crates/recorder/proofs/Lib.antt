pub mod Bools
pub mod Laws
pub mod Words
