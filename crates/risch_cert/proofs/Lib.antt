-- Worked texts.
pub mod PrintingExamples
pub mod AnswerExamples
-- The laws that the proofs of the calls use.
pub mod TextSteps
pub mod TermSteps
pub mod LevelSteps
pub mod LineSteps
