pub mod ResiduesMeaning
pub mod Residues
