pub mod RefusalSteps
pub mod SameLevels
pub mod TowerLevels
pub mod Pushes
pub mod PolynomialDerivatives
pub mod LevelPlaces
