pub mod Newton
pub mod Logarithms
