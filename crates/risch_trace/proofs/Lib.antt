pub mod Remainders
pub mod TraceRules
pub mod TraceSteps
