-- In reading order: the form of a certificate, and what it claims; the conditions on it; what is answered of it; what is printed.
pub mod Certificates
pub mod Checked
pub mod Answers
pub mod Printing
