pub mod Checked
pub mod Ops
pub mod Ground
pub mod GroundLaws
