pub mod Items
pub mod Carries
pub mod Standing
pub mod Names
