-- In reading order: what is said of a certificate; the conditions at the end of a refutation; what they mean.
pub mod Verdict
pub mod End
pub mod EndMeaning
