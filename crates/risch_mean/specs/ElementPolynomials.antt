-- Polynomials in one variable with elements as coefficients, and their algebra modulo a monic one: the operations over any ring, at the field of the elements.
use Rattle.std.specs.Prelude.{ℕ, List}
use Rattle.risch_mean.specs.Element.{Element, variable}
use Rattle.risch_mean.specs.ElementField.{elements}
use Rattle.risch_mean.specs.Univariate.{value_at, coefficient_at, derivative_of_list}
use Rattle.risch_mean.specs.Algebra.{times_z, times_mod, power_mod, remainder, trace, IsInverse, IsInvertible, with_leading_one, derivative_by_z}
use Rattle.risch_mean.specs.Tower.{Tower, derive_in, kind_of, derivative_of}

-- the coefficient at an exponent, 0 past the end
abbrev pub coefficient : ℕ → List Element → Element
coefficient i cs = coefficient_at elements.ring i cs

-- the value at the variable of level n
abbrev pub at_variable : ℕ → List Element → Element
at_variable n cs = value_at elements.ring (variable n) cs

-- Dp for a polynomial p in the variable of level n over the field below
abbrev pub polynomial_derivative : Tower → ℕ → List Element → List Element
polynomial_derivative tower n p = derivative_of_list elements.ring (derive_in tower) (derivative_of (kind_of tower n)) p

-- ---- modulo the monic polynomial d, which is given by its coefficients below the leading one
-- d itself, with its leading coefficient
abbrev pub monic_polynomial : List Element → List Element
monic_polynomial d = with_leading_one elements.ring d

-- d', the derivative by z
abbrev pub derivative_of_modulus : List Element → List Element
derivative_of_modulus d = derivative_by_z elements.ring d

-- the remainder of p
abbrev pub remainder_modulo : List Element → List Element → List Element
remainder_modulo d p = remainder elements.ring d p

-- u·v
abbrev pub times_modulo : List Element → List Element → List Element → List Element
times_modulo d u v = times_mod elements.ring d u v

-- z·u
abbrev pub z_times_modulo : List Element → List Element → List Element
z_times_modulo d u = times_z elements.ring d u

-- u^n
abbrev pub power_modulo : List Element → List Element → ℕ → List Element
power_modulo d u n = power_mod elements.ring d u n

-- the trace of u
abbrev pub trace_modulo : List Element → List Element → Element
trace_modulo d u = trace elements.ring d u

-- u·v = 1
abbrev pub IsInverseModulo : List Element → List Element → List Element → Type 0
IsInverseModulo d u v = IsInverse elements.ring d u v

-- u has an inverse
abbrev pub IsInvertibleModulo : List Element → List Element → Type 0
IsInvertibleModulo d u = IsInvertible elements.ring d u
