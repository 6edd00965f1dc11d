pub mod Ruled
pub mod Counted
