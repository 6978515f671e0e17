pub mod Answered
pub mod Inside
pub mod Demanded
