pub mod PolynomialShapes
pub mod PolynomialValues
pub mod FractionValues
pub mod Monomials
pub mod Derivatives
