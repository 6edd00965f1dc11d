-- Polynomials in x as elements.
pub mod Numbers
pub mod ElementsInX
-- The procedure for polynomials.
pub mod Unlimited
pub mod ProcedureMeaning
pub mod SmallQuotients
pub mod SmallIntegrands
-- The round.
pub mod BudgetSteps
pub mod HaltSteps
pub mod PreparationSteps
pub mod BranchSteps
pub mod OtherElements
pub mod CheckSteps
pub mod TopSteps
