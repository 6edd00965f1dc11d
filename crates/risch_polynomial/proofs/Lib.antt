pub mod CoefficientLists
pub mod CoefficientSteps
