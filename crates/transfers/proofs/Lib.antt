pub mod OpenLaws
pub mod LoadLaws
