pub mod FieldBelow
pub mod LogarithmElements
