pub mod HermiteReduction
pub mod HermiteMeaning
