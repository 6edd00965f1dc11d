-- In reading order: bytes and what stands at their front, faults; trees and the grammar; steps; what the code takes and reads; values.
pub mod Words
pub mod Fault
pub mod Results
pub mod Tree
pub mod Grammar
pub mod Program
pub mod Taken
pub mod Reading
pub mod Evaluation
