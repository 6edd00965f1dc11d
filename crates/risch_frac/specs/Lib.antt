pub mod Gcd
pub mod Fraction
pub mod Meaning
