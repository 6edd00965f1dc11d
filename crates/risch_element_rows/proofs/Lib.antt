pub mod Coefficients
pub mod Members
