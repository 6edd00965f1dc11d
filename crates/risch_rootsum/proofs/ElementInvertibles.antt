-- Which polynomials over the elements have an inverse modulo a monic polynomial d: exactly those coprime to d, and those whose common divisor with d is 1.
--     invertible_of_coprime, coprime_of_invertible      s has an inverse modulo d exactly where s and d are coprime
--     invertible_of_gcd, gcd_of_invertible      exactly where the monic common divisor of d and s is constant
--     separable_of_coprime, coprime_of_separable      the derivative of d has an inverse modulo d exactly where it and d are coprime
--     separable_of_gcd, gcd_of_separable      exactly where their monic common divisor is constant
use Rattle.std.proofs.Common.{◌≡◌, sym, List, map, subst}
use Rattle.risch_ring.specs.CommRing.{sub}
use Rattle.risch_univariate.specs.Polynomial.{Polynomial, of_list}
use Rattle.risch_univariate.specs.PolynomialRing.{polynomials}
use Rattle.risch_univariate.specs.Degree.{size}
use Rattle.risch_univariate.specs.Division.{Divides, IsCoprime}
use Rattle.risch_mean.specs.Element as mean
use Rattle.risch_mean.specs.ElementField.{elements}
use Rattle.risch_mean.specs.ElementPolynomials.{derivative_of_modulus, remainder_modulo, IsInverseModulo, IsInvertibleModulo}
use Rattle.risch_level.specs.Levels.{Element}
use Rattle.risch_element_theory.specs.PolynomialMeaning.{polynomial_of}
use Rattle.risch_element_theory.specs.WholeTower.{meaning, polynomial}
use Rattle.risch_element_theory.specs.ElementPolynomials.{◌*ₚ◌, IsDerivative, IsMonicGcd}
use Rattle.risch_trace.proofs.Remainders.{modulus_of}
use Rattle.risch_rootsum.proofs.Invertibles as Invertibles
use Rattle.risch_trace.proofs.TraceRules.{IsMonicWith, polynomial-modulus, remainder-polynomial}

module _ (d : List Element) (r : List mean.Element) (m : IsMonicWith d r) where
  -- where d divides v·s - 1, the remainder of v is the inverse of s
  pub inverse_of_divides : (s v : List Element) → Divides elements (polynomial d) (sub (polynomials elements) (polynomial v *ₚ polynomial s) (polynomials elements).one) →
      IsInverseModulo r (map meaning s) (remainder_modulo r (map meaning v))
  unfolding polynomial_of
  inverse_of_divides s v h =
      let by : Divides elements (modulus_of elements r) (sub (polynomials elements) (polynomial v *ₚ polynomial s) (polynomials elements).one) =
      subst (λ p. Divides elements p (sub (polynomials elements) (polynomial v *ₚ polynomial s) (polynomials elements).one)) (polynomial-modulus d r m) h in
      subst (IsInverseModulo r (map meaning s)) (remainder-polynomial r m.some v) (Invertibles.inverse_of_divides elements r m.some (map meaning s) (polynomial v) by)

  pub invertible_of_coprime : (s : List Element) → IsCoprime elements (polynomial d) (polynomial s) → IsInvertibleModulo r (map meaning s)
  unfolding polynomial_of
  invertible_of_coprime s c = Invertibles.invertible_of_coprime elements r m.some (map meaning s) (subst (λ p. IsCoprime elements p (polynomial s)) (polynomial-modulus d r m) c)

  pub coprime_of_invertible : (s : List Element) → IsInvertibleModulo r (map meaning s) → IsCoprime elements (polynomial d) (polynomial s)
  unfolding polynomial_of
  coprime_of_invertible s h =
      subst (λ p. IsCoprime elements p (polynomial s)) (sym (polynomial-modulus d r m)) (Invertibles.coprime_of_invertible elements r m.some (map meaning s) h)

  pub invertible_of_gcd : (s g : List Element) → IsMonicGcd d s g → size elements (polynomial g) ≡ 1 → IsInvertibleModulo r (map meaning s)
  invertible_of_gcd s g h one = invertible_of_coprime s (Invertibles.coprime_of_gcd elements (polynomial g) (polynomial d) (polynomial s) h.0 h.1 one)

  pub gcd_of_invertible : (s g : List Element) → IsMonicGcd d s g → IsInvertibleModulo r (map meaning s) → size elements (polynomial g) ≡ 1
  gcd_of_invertible s g h i = Invertibles.gcd_of_coprime elements (polynomial g) (polynomial d) (polynomial s) h.0 h.1 (coprime_of_invertible s i)

  -- ---- the derivative d'
  derivative-polynomial : (e : List Element) → IsDerivative (polynomial d) (polynomial e) → polynomial e ≡ of_list elements (derivative_of_modulus r)
  derivative-polynomial e h =
      Invertibles.derivative_is elements r (polynomial e) (subst (λ (p : Polynomial elements). IsDerivative p (polynomial e)) (polynomial-modulus d r m) h)

  pub separable_of_coprime : (e : List Element) → IsDerivative (polynomial d) (polynomial e) → IsCoprime elements (polynomial d) (polynomial e) → IsInvertibleModulo r (derivative_of_modulus r)
  separable_of_coprime e h c =
      Invertibles.invertible_of_coprime elements r m.some (derivative_of_modulus r)
      (subst (λ p. IsCoprime elements p (of_list elements (derivative_of_modulus r))) (polynomial-modulus d r m) (subst (IsCoprime elements (polynomial d)) (derivative-polynomial e h) c))

  pub coprime_of_separable : (e : List Element) → IsDerivative (polynomial d) (polynomial e) → IsInvertibleModulo r (derivative_of_modulus r) → IsCoprime elements (polynomial d) (polynomial e)
  coprime_of_separable e h i =
      subst (IsCoprime elements (polynomial d)) (sym (derivative-polynomial e h))
      (subst (λ p. IsCoprime elements p (of_list elements (derivative_of_modulus r))) (sym (polynomial-modulus d r m))
      (Invertibles.coprime_of_invertible elements r m.some (derivative_of_modulus r) i))

  pub separable_of_gcd : (e g : List Element) → IsDerivative (polynomial d) (polynomial e) → IsMonicGcd d e g → size elements (polynomial g) ≡ 1 → IsInvertibleModulo r (derivative_of_modulus r)
  separable_of_gcd e g h is one = separable_of_coprime e h (Invertibles.coprime_of_gcd elements (polynomial g) (polynomial d) (polynomial e) is.0 is.1 one)

  pub gcd_of_separable : (e g : List Element) → IsDerivative (polynomial d) (polynomial e) → IsMonicGcd d e g → IsInvertibleModulo r (derivative_of_modulus r) → size elements (polynomial g) ≡ 1
  gcd_of_separable e g h is i = Invertibles.gcd_of_coprime elements (polynomial g) (polynomial d) (polynomial e) is.0 is.1 (coprime_of_separable e h i)
