-- The laws of each rule of the polynomials over the whole tower together: it keeps them polynomials, is the operation of K[t], and leads to no new variable.
use Rattle.risch_element_theory.proofs.ElementPolynomials.{trimmed-is_polynomial, trimmed-stands, same-stands, zero-stands, degree-stands, coefficient-stands, sum-is_polynomial, sum-stands, product-is_polynomial, product-stands, scaled-is_polynomial, scaled-stands, negatives-is_polynomial, negatives-stands, partial-is_polynomial, partial-stands, monic-is_polynomial, monic-stands, quotient-is_polynomial, remainder-is_polynomial, gcd-is_polynomial, inverse-is_polynomial, left_solution-is_polynomial, right_solution-is_polynomial, solution_exists}
use Rattle.risch_element_theory.proofs.PolynomialsWithin.{trimmed-within, coefficient-within, sum-within, product-within, scaled-within, negatives-within, partial-within, monic-within, quotient-within, remainder-within, gcd-within, inverse-within, left_solution-within, right_solution-within}

pub ruleset lists = (trimmed-is_polynomial, trimmed-stands, trimmed-within)

pub ruleset tests = (same-stands, zero-stands)

pub ruleset parts = (degree-stands, coefficient-stands, coefficient-within)

pub ruleset sums = (sum-is_polynomial, sum-stands, sum-within)

pub ruleset products = (product-is_polynomial, product-stands, product-within)

pub ruleset multiples = (scaled-is_polynomial, scaled-stands, scaled-within)

pub ruleset negatives = (negatives-is_polynomial, negatives-stands, negatives-within)

pub ruleset derivatives = (partial-is_polynomial, partial-stands, partial-within)

pub ruleset monics = (monic-is_polynomial, monic-stands, monic-within)

pub ruleset divisions = (quotient-is_polynomial, remainder-is_polynomial, quotient-within, remainder-within)

pub ruleset divisors = (gcd-is_polynomial, gcd-within)

pub ruleset inverses = (inverse-is_polynomial, inverse-within)

pub ruleset solutions = (left_solution-is_polynomial, right_solution-is_polynomial, solution_exists, left_solution-within, right_solution-within)
