pub mod Fraction
pub mod FractionLaws
pub mod FractionField
pub mod Representation
pub mod Order
pub mod FractionDerivation
pub mod DifferentialField
