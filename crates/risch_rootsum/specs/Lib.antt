pub mod Algebra
pub mod AlgebraMeaning
pub mod Derivative
pub mod DerivativeMeaning
