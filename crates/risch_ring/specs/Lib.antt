pub mod CommRing
pub mod Integers
pub mod Operators
pub mod Lists
pub mod Sums
pub mod LogarithmicDerivative
