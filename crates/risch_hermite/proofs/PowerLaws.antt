-- Powers of lists of coefficients.
use Rattle.std.proofs.Common.{◌≡◌, ℕ, suc, ◌+◌, ◌<◌, List, length, sym, ◌∙◌, subst, arith}
use Rattle.risch_ring.specs.CommRing.{CommRing, power}
use Rattle.risch_ring.proofs.Laws as Laws
use Rattle.risch_univariate.specs.Polynomial.{Polynomial}
use Rattle.risch_univariate.specs.PolynomialRing.{polynomials}
use Rattle.risch_univariate.specs.Division.{Divides, IsDivision}
use Rattle.risch_univariate.proofs.Degree as Degree
use Rattle.risch_univariate.proofs.Multiplicity as Multiplicity
use Rattle.risch_mean.specs.ElementField.{elements}
use Rattle.risch_level.specs.Levels.{Element}
use Rattle.risch_element_theory.specs.WholeTower.{IsPolynomial, polynomial}
use Rattle.risch_monomial.proofs.MonicPolynomials.{size-is, exact_quotient}

abbrev R : CommRing (Polynomial elements)
R = polynomials elements

-- p^n·p = p^(n + 1)
pub power-more : (p : Polynomial elements) (n : ℕ) → R.mul (power R p n) p ≡ power R p (n + 1)
power-more p n = let more : n + 1 ≡ suc n = omega arith in rw more (R.mul_comm (power R p n) p ∙ sym (Laws.power-suc R p n))

pub nonzero : (p : List Element) → IsPolynomial p → 0 < length p → ¬ (polynomial p ≡ R.zero)
nonzero p k some = let sized = size-is p k in Degree.nonzero_of_size elements (polynomial p) (omega (arith, sized, some))

pub power-some : (p q : List Element) (n : ℕ) → IsPolynomial p → IsPolynomial q → polynomial q ≡ power R (polynomial p) n → 0 < length p → 0 < length q
power-some p q n kp kq e some =
    let sized = size-is q kq in
    let full = Degree.size_of_nonzero elements (polynomial q) (λ z. Multiplicity.power-nonzero elements (polynomial p) n (nonzero p kp some) (sym e ∙ z)) in
    omega (arith, sized, full)

-- w = q·p + r with p | w gives w = q·p
pub exact-cofactor : (w p p' q r : Polynomial elements) → p ≡ p' → ¬ (p' ≡ R.zero) → Divides elements p' w → IsDivision elements w p q r → w ≡ R.mul q p'
exact-cofactor w p p' q r e some d division = exact_quotient elements w p' q r some d (subst (λ x. IsDivision elements w x q r) e division)
