pub mod PolynomialMeaning
pub mod ModularMeaning
pub mod ElementMeaning
pub mod LevelMeaning
pub mod WholeTower
pub mod ElementPolynomials
pub mod DerivationMeaning
pub mod ElementDerivation
