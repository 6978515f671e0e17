pub mod Form
pub mod Note
pub mod Text
