-- In reading order: lines, files and their trees; values; what is answered; and how the code's programs and answers stand to these.
pub mod Lines
pub mod File
pub mod Certified
pub mod Problem
pub mod Values
pub mod Read
pub mod ReadCertified
pub mod Programs
pub mod Reading
pub mod Meaning
