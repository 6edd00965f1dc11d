pub mod BivariatePolynomial
pub mod RemainderSequence
pub mod Residue
pub mod Logarithm
pub mod LogarithmArgument
pub mod RuleLogarithm
