pub mod CommonDivisor
pub mod Signs
pub mod Lowest
pub mod Rules
pub mod Multiples
pub mod Units
