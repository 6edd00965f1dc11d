pub mod RuledSteps
pub mod CountedSteps
