pub mod Equation
pub mod Constants
pub mod WeakNormalization
pub mod CharacteristicPolynomial
pub mod NormalDenominator
pub mod DegreeBound
pub mod Combination
