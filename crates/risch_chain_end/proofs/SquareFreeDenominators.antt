-- A polynomial d with gcd(d, ∂d) = 1 is square-free, and normal where its square-free divisors are.
use Rattle.std.specs.Prelude.{IsTrue}
use Rattle.std.proofs.Common.{◌≡◌, true, List, [], ◌∷◌, sym, ◌∙◌, subst}
use Rattle.risch_univariate.specs.Polynomial.{Polynomial}
use Rattle.risch_univariate.specs.PolynomialLaws.{polynomial_ext}
use Rattle.risch_univariate.specs.Degree.{size}
use Rattle.risch_univariate.specs.Division.{IsCoprime, IsSquareFree}
use Rattle.risch_univariate.proofs.Derivation as Derivation
use Rattle.risch_univariate.proofs.FormalDerivative as FormalDerivative
use Rattle.risch_univariate.proofs.SquareFree as SquareFree
use Rattle.risch_mean.specs.ElementField.{elements}
use Rattle.risch_polynomial.specs.Poly as poly
use Rattle.risch_level.specs.Levels.{Element, element}
use Rattle.risch_element_theory.specs.ElementPolynomials.{IsDerivative, IsMonicGcd}
use Rattle.risch_element_theory.specs.WholeTower.{IsPolynomial, polynomial}
use Rattle.risch_element_theory.proofs.ElementPolynomials.{degree-stands}
use Rattle.risch_rootsum.proofs.Invertibles.{coprime_of_gcd}

one-size : (g : List Element) → IsPolynomial g → poly.is_one element g ≡ true → size elements (polynomial g) ≡ 1
one-size [] kept e = cc
one-size (c ∷ []) kept e = degree-stands (c ∷ []) kept
one-size (c ∷ (d ∷ g)) kept e = cc

-- ∂d is the formal derivative
derivative-is : (d e : Polynomial elements) → IsDerivative d e → e ≡ FormalDerivative.formal_derivative elements d
derivative-is d e h = polynomial_ext elements e (FormalDerivative.formal_derivative elements d) (λ i. h i ∙ sym (FormalDerivative.coefficient-formal_derivative elements d i))

pub square_free_of_gcd : (d e g : List Element) → IsPolynomial g → IsDerivative (polynomial d) (polynomial e) → IsMonicGcd d e g → IsTrue (poly.is_one element g) → IsSquareFree elements (polynomial d)
square_free_of_gcd d e g kept derivative divisor one =
    SquareFree.square_free_of_coprime elements (Derivation.formal_derivation elements) (polynomial d)
    (subst (IsCoprime elements (polynomial d)) (derivative-is (polynomial d) (polynomial e) derivative)
    (coprime_of_gcd elements (polynomial g) (polynomial d) (polynomial e) divisor.0 divisor.1 (one-size g kept one)))
