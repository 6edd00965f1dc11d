pub mod Poly
pub mod Polynomial
pub mod Modular
pub mod Negatives
