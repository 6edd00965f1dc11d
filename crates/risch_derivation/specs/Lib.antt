pub mod Derivation
pub mod Rates
