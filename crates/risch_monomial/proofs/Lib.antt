pub mod MonicPolynomials
pub mod LevelPolynomials
pub mod LevelElements
pub mod LowestTerms
