-- The laws that the proofs of the calls use.
pub mod VerdictSteps
pub mod Results
pub mod TraceCosts
pub mod SquareFreeDenominators
pub mod EndLaws
