pub mod LevelDerivation
pub mod LevelElements
pub mod NormalPolynomials
