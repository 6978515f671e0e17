pub mod MarkWords
pub mod MarksIn
pub mod Chains
pub mod Indexed
