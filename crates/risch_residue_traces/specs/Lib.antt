pub mod ResidueTraces
pub mod TracesMeaning
