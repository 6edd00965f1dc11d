-- The laws that the proofs of the calls use.
pub mod ZeroTests
-- What holds where a certificate is accepted.
pub mod Accepted
-- What stops a check of an integral.
pub mod IntegralStops
