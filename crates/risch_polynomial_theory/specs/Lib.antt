pub mod Meaning
pub mod FractionMeaning
pub mod Replaced
