pub mod SquareFree
pub mod SquareFreeMeaning
pub mod PowerTraces
pub mod PowerTracesMeaning
pub mod RemainderSequence
