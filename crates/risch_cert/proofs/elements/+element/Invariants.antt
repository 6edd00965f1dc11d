-- An element prints polynomials of one variable less, and a polynomial elements of as many variables.
use Rattle.std.proofs.Common.{◌≡◌, ◌+◌, ◌*◌, string_bytes, drop}
use Rattle.risch_cert.specs.Printing as spec
use Rattle.risch_cert.proofs.elements.+element.Given as goal

abbrev pub decreases-print_below : goal.decreases-print_below
decreases-print_below l = 3 * l.n

abbrev pub decreases-print_ratio : goal.decreases-print_ratio
decreases-print_ratio l = 3 * l.level + 2

abbrev pub decreases-print_polynomial : goal.decreases-print_polynomial
decreases-print_polynomial l = 3 * l.n + 1

-- The terms of the exponents from this one on are written.
abbrev pub invariant-print_polynomial-loop-exponent : goal.invariant-print_polynomial-loop-exponent
invariant-print_polynomial-loop-exponent l =
    string_bytes l.terms ≡ spec.print_terms (spec.print_below l.n) l.name l.exponent (drop l.exponent l.coefficients)
