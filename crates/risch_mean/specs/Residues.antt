-- Residues of a simple fraction a/d at a level of the tower, by their power sums: the residues are the values of ρ = a/Dd at the roots of d, and the trace of ρ^i modulo d is the sum of their i-th powers.
use Rattle.std.specs.Prelude.{◌≡◌, ℕ, ◌≤◌, ◌<◌, List, length}
use Rattle.risch_mean.specs.Element.{Element, zero, field_below, AllInField}
use Rattle.risch_mean.specs.Tower.{Tower, derive_in}
use Rattle.risch_mean.specs.Constants.{IsRational}
use Rattle.risch_mean.specs.ElementPolynomials.{polynomial_derivative, monic_polynomial, remainder_modulo, times_modulo, power_modulo, trace_modulo, IsInverseModulo}

-- a and d are polynomials in the variable of level n over the field below, d monic and given by its coefficients below the leading one, and deg a < deg d.
-- a and Dd are invertible modulo d
pub record SimplePart (tower : Tower) (n : ℕ) (a d : List Element) : Type 0 where
  pub below_a : AllInField (field_below n) a
  pub below_d : AllInField (field_below n) d
  pub degree : length a ≤ length d
  pub positive : 1 ≤ length d
  pub inverse_a : List Element
  pub is_inverse_a : IsInverseModulo d a inverse_a
  pub inverse_derivative : List Element
  pub is_inverse_derivative : IsInverseModulo d (remainder_modulo d (polynomial_derivative tower n (monic_polynomial d))) inverse_derivative

-- ρ: the product of a and the inverse of Dd modulo d
abbrev pub residue_of : {tower : Tower} {n : ℕ} {a d : List Element} → SimplePart tower n a d → List Element
residue_of {tower} {n} {a} {d} part = times_modulo d a part.inverse_derivative

-- the residues are not constant, with power i and trace p: the traces of ρ, .., ρ^(i-1) are rational, that of ρ^i is p, and Dp ≠ 0
pub record NotConstant (tower : Tower) (n : ℕ) (a d : List Element) (power : ℕ) (p : Element) : Type 0 where
  pub part : SimplePart tower n a d
  pub at_least_one : 1 ≤ power
  pub lower_traces : (j : ℕ) → 1 ≤ j → j < power → IsRational (trace_modulo d (power_modulo d (residue_of part) j))
  pub is_trace : trace_modulo d (power_modulo d (residue_of part) power) ≡ p
  pub not_constant : ¬ (derive_in tower p ≡ zero)
