pub mod ClosingLaws
pub mod Nearest
pub mod OnePass
