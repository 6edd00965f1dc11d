-- In reading order: polynomials in x as elements, what they stand for; their integral with a budget; runs with a budget, and stops at their steps; the integral of a rational function; what it means.
pub mod Elements
pub mod Meaning
pub mod Procedure
pub mod Limited
pub mod Budgets
pub mod Halts
pub mod RationalFunctions
pub mod AnswerMeaning
