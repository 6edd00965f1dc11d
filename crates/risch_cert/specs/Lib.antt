-- In reading order: texts; fractions, polynomials and elements; certificates and answers.
pub mod Texts
pub mod Printing
pub mod Answers
