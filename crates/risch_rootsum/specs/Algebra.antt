-- The algebra of polynomials in z over the elements, modulo a monic polynomial R of degree m with rational coefficients: the rules of the inverse, the product and the trace, in the order in which they form values.
-- Its members are lists of at most m coefficients from exponent 0; a shorter list stands for the one with zeros at the end.
use Rattle.std.specs.Prelude.{◌≡◌, ℕ, ◌-◌, ◌≤◌, List, ◌++◌, map, length, replicate, Option, option_map, Ok}
use Rattle.risch_frac.specs.Fraction.{Fraction}
use Rattle.risch_field.specs.Checked.{Checked, and_then}
use Rattle.risch_field.specs.Ground.{ground}
use Rattle.risch_polynomial.specs.Poly as poly
use Rattle.risch_polynomial.specs.Modular as modular
use Rattle.risch_level.specs.Levels.{Element, element}
use Rattle.risch_level.specs.Accessors.{number}
use Rattle.risch_trace.specs.Traces as polynomials

-- m
abbrev pub degree : List Fraction → ℕ
degree R = length R - 1

-- R is monic, of degree from 1 to 255
pub record IsModulus (R : List Fraction) : Type 0 where
  pub monic : poly.last ground R ≡ ground.one
  pub some : 2 ≤ length R
  pub small : length R ≤ 256

-- u has at most m coefficients, of weight at most 65536
pub record IsMember (R : List Fraction) (u : List Element) : Type 0 where
  pub degree_small : length u ≤ degree R
  pub weight_small : poly.weight element u ≤ 65536

-- R over the elements
abbrev pub modulus : List Fraction → List Element
modulus R = map (number 5) R

-- u, with zeros at the end up to m coefficients
abbrev pub filled : ℕ → List Element → List Element
filled m u = u ++ replicate (m - length u) element.zero

-- v with u·v = 1, and none where there is none
unfoldable pub inverse : List Fraction → List Element → Checked (Option (List Element))
inverse R u =
    and_then (modular.inverse element (poly.trimmed element u) (modulus R)) (λ v.
    Ok (option_map (filled (degree R)) v))

-- u·v
unfoldable pub product : List Fraction → List Element → List Element → Checked (List Element)
product R u v =
    and_then (poly.product element (poly.trimmed element u) (poly.trimmed element v)) (λ p.
    and_then (polynomials.remainder p (modulus R)) (λ r.
    Ok (filled (degree R) r)))

-- the trace of u
abbrev pub trace : List Fraction → List Element → Checked Element
trace R u = polynomials.trace (modulus R) (poly.trimmed element u)
