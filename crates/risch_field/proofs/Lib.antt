pub mod CheckedSteps
