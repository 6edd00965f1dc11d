pub mod PowerTraceRules
pub mod PowerTraceSteps
pub mod PushSteps
pub mod RemainderRules
pub mod RemainderSteps
pub mod SquareFreeParts
pub mod SquareFreeRules
pub mod SquareFreeSteps
