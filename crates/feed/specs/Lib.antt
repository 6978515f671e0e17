pub mod Format
pub mod Text
