pub mod LiftedPolynomials
pub mod VariablePolynomial
