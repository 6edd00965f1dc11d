-- Laws of polynomials and elements.
pub mod PolynomialVariables
pub mod PolynomialConstants
pub mod IntegerLaws
pub mod FieldClosure
pub mod PowerLaws
-- Laws of derivations and towers.
pub mod DerivationLaws
pub mod LogarithmicDerivative
pub mod Levels
pub mod LevelKinds
pub mod LongerTowers
pub mod ConstantLaws
pub mod DerivationUniqueness
pub mod Sound
-- Laws of polynomials in one variable, and the step from a field to the next.
pub mod UnivariateLaws
pub mod RationalPolynomials
pub mod AlgebraLaws
pub mod Maps
pub mod Step
pub mod Subfield
-- Laws of answers and equations.
pub mod AnswerLaws
pub mod Solutions
pub mod LiouvilleLaws
-- The definitions at closed terms: what must hold, and what must not.
pub mod ExampleTerms
mod ElementExamples
mod TowerExamples
mod WrittenExamples
mod UnivariateExamples
mod AlgebraExamples
mod AnswerExamples
mod EquationExamples
mod ResidueExamples
mod ChainExamples
mod LiouvilleExamples
