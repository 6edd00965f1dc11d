pub mod Polynomial
pub mod PolynomialLaws
pub mod PolynomialRing
pub mod Degree
pub mod Division
pub mod PolynomialOperators
pub mod SquareFreeParts
pub mod SplittingFactorization
