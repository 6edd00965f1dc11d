pub mod Laws
pub mod Expression
pub mod NormalForm
pub mod Soundness
pub mod Solver
pub mod FieldLaws
pub mod Fields
pub mod Domains
pub mod Lists
pub mod Sums
pub mod RingMaps
pub mod Derivations
pub mod QuotientRule
mod DifferenceOfSquares
mod Examples
mod FieldExamples
