pub mod Size
pub mod Bounded
pub mod Finished
pub mod Uncut
