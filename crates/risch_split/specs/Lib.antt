pub mod Splitting
pub mod Canonical
pub mod SplittingMeaning
pub mod SplittingSteps
