pub mod ResidueRing
pub mod ResidueField
pub mod PolynomialMap
pub mod LinearFactors
pub mod Extension
pub mod SymmetricFunctions
pub mod Trace
pub mod NewtonPolynomial
