-- The derivative of a polynomial in x over the fractions, in every tower.
use Rattle.std.proofs.Common.{◌≡◌, ◌<◌, ◌^◌, List, map, length, Ok, sym, ◌∙◌}
use Rattle.risch_frac.specs.Fraction.{Fraction, IsLowest}
use Rattle.risch_mean.specs.Element.{variable}
use Rattle.risch_mean.specs.Tower.{Tower, derive_in}
use Rattle.risch_mean.proofs.RationalPolynomials.{derive-rational_polynomial}
use Rattle.risch_field.specs.Ground.{ground}
use Rattle.risch_polynomial.specs.Poly as poly
use Rattle.risch_polynomial_theory.specs.Meaning.{AllValid}
use Rattle.risch_polynomial_theory.specs.FractionMeaning.{fraction_meaning, polynomial_value}
use Rattle.risch_polynomial_theory.proofs.PolynomialValues.{partial-means}
use Rattle.risch_polynomial_theory.proofs.FractionValues.{ground_means, fractions-rational}

-- D(p(x)) = (dp/dx)(x)
pub derivative-means : (tower : Tower) (p r : List Fraction) → length p < 2 ^ 16 → AllValid IsLowest p → poly.partial ground p ≡ Ok r →
    derive_in tower (polynomial_value p (variable 0)) ≡ polynomial_value r (variable 0)
derivative-means tower p r small all e =
    derive-rational_polynomial tower (map fraction_meaning p) (fractions-rational p all) ∙ sym ((partial-means ground_means p r small all e).value_is (variable 0))
