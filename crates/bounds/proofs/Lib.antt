pub mod Tally
pub mod Grows
pub mod GrowsProgram
pub mod SheetWords
pub mod SheetSize
pub mod Suffices
pub mod Finished
pub mod Uncut
