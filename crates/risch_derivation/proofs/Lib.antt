pub mod DerivationExamples
