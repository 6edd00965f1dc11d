-- Worked texts.
mod ReadingExamples
-- Reading.
pub mod Taking
pub mod Numbers
pub mod Chains
pub mod Atoms
pub mod Rules
pub mod KnownNames
-- Values.
pub mod Constants
pub mod Evaluations
pub mod Powers
pub mod Runs
pub mod Standing
pub mod EvaluationMeaning
