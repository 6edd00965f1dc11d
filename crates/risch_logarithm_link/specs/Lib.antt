pub mod ResidueLogarithms
