pub mod Over
pub mod Levels
pub mod Laws
pub mod Tower
pub mod Accessors
pub mod Parts
