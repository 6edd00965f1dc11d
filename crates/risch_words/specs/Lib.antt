pub mod Fault
pub mod Line
pub mod Numbers
pub mod Words
