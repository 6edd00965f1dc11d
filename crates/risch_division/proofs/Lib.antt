pub mod DivisionSteps
pub mod ModularSteps
