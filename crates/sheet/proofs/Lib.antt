pub mod Walks
pub mod Shapes
pub mod Numbers
pub mod Cases
pub mod Names
pub mod Lists
