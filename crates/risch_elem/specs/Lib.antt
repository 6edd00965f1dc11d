pub mod Runs
pub mod Items
pub mod Accessors
