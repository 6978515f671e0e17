pub mod Carried
pub mod Standing
pub mod Names
pub mod Together
