-- The files in reading order. Those named ..Laws prove what a definition after them needs; all other laws stand in proofs/.

-- polynomials
-- lists of exponents
pub mod ExponentLists
pub mod ExponentListLaws
-- exponents of a monomial
pub mod Exponents
pub mod ExponentLaws
-- sums of terms and their normal form
pub mod Terms
pub mod TermLaws
pub mod ProductLaws
-- polynomials in x, t1, t2, .. over the whole numbers
pub mod Polynomial
pub mod PolynomialLaws
pub mod PolynomialDomain
-- elements
-- pairs (N, M) with M ≠ 0 over any domain
pub mod Pairs
pub mod PairLaws
-- the field of fractions of any domain
pub mod Fractions
pub mod FractionLaws
-- the elements: fractions of polynomials; the fields of a tower
pub mod Element
pub mod ElementFieldLaws
-- the field of the elements, and powers
pub mod ElementField
pub mod ElementLaws
-- towers
-- the quotient rule on fractions of polynomials
pub mod QuotientRule
pub mod QuotientRuleLaws
-- the derivation of elements
pub mod Derivation
-- towers of logarithms and exponentials, their derivation, the kinds of their levels
pub mod Tower
-- rational elements, sound towers
pub mod Constants
-- expressions
-- the value of a written expression
pub mod Written
-- answers, equations, chains
-- polynomials in one variable over any ring
pub mod Univariate
-- their algebra modulo a monic one: product, trace, inverse
pub mod Algebra
-- both over the field of the elements
pub mod ElementPolynomials
-- answers, their derivatives, integrals
pub mod Answer
-- Risch differential equations and their solutions
pub mod Equation
-- independence and span of solutions
pub mod Vectors
-- residues that are not constant
pub mod Residues
-- chains of exact reductions
pub mod Chain
-- Liouville's form
pub mod Liouville
