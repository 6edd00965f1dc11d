-- The denominator M of an element of order 0 has M(0) ≠ 0, as numerator and denominator are coprime.
use Rattle.std.specs.Prelude.{if◌then◌else◌}
use Rattle.std.proofs.Common.{◌≡◌, ℕ, zero, suc, ◌<◌, ◌≤◌, Bool, true, false, List, [], ◌∷◌, drop, refl, sym, ◌∙◌, ap, arith, subst, pos}
use Rattle.std.proofs.lemmas.Int.{ints}
use Rattle.risch_ring.specs.CommRing.{CommRing, power}
use Rattle.risch_ring.proofs.Laws as Laws
use Rattle.risch_univariate.specs.Polynomial.{Polynomial, variable}
use Rattle.risch_univariate.specs.PolynomialRing.{polynomials}
use Rattle.risch_univariate.specs.Division.{Divides}
use Rattle.risch_univariate.proofs.Gcd as Gcd
use Rattle.risch_mean.specs.ElementField.{elements}
use Rattle.risch_polynomial.specs.Poly as poly
use Rattle.risch_polynomial_theory.specs.Meaning.{AllValid}
use Rattle.risch_level.specs.Levels.{Element, element}
use Rattle.risch_element_theory.specs.WholeTower.{IsElement, polynomial, Within, AllWithin}
use Rattle.risch_element_theory.proofs.CoefficientProperties as Properties
use Rattle.risch_element_theory.proofs.PartsLaws as Parts
use Rattle.risch_element_theory.proofs.PolynomialsWithin.{within-closed}
use Rattle.risch_split.specs.Splitting.{least_exponent}
use Rattle.risch_monomial.specs.LevelElements.{numerator_at, denominator_at}
use Rattle.risch_split.specs.Canonical.{order_at}
use Rattle.risch_split.proofs.LeastExponents.{dropped-product}
use Rattle.risch_monomial.proofs.LowestTerms.{parts-coprime}
use Rattle.risch_split.proofs.PowersOfVariable as Powers

abbrev R : CommRing (Polynomial elements)
R = polynomials elements

abbrev t : Polynomial elements
t = variable elements

-- the least exponent is positive where the coefficient at 0 is 0
least-positive : (p : List Element) → ¬ (p ≡ []) → element.is_zero (poly.coefficient element p 0) ≡ true → 0 < least_exponent p
least-positive [] some z = absurd (some refl)
least-positive (c ∷ p) some z = by (element.is_zero c) z
  where
    by : (b : Bool) → b ≡ true → 0 < (if b then suc (least_exponent p) else 0)
    by true e = omega arith
    by false e = cc

power-divides : (n : ℕ) (x : Polynomial elements) → 0 < n → Divides elements t (R.mul (power R t n) x)
power-divides zero x h = absurd (omega arith)
power-divides (suc n) x h = record {
  cofactor = R.mul (power R t n) x;
  equation = ap (λ y. R.mul y x) (Laws.power-suc R t n) ∙ R.mul_assoc t (power R t n) x ∙ R.mul_comm t (R.mul (power R t n) x);
}

-- then t divides the polynomial
variable-divides : (p : List Element) → AllValid IsElement p → 0 < least_exponent p → Divides elements t (polynomial p)
variable-divides p all h = subst (Divides elements t) (sym (dropped-product p all)) (power-divides (least_exponent p) (polynomial (drop (least_exponent p) p)) h)

pub denominator-some : (level : ℕ) (e : Element) → level ≤ 4 → IsElement e → order_at level e ≡ pos 0 → element.is_zero (poly.coefficient element (denominator_at level e) 0) ≡ false
denominator-some level e low v order = by (element.is_zero (poly.coefficient element (denominator_at level e) 0)) refl
  where
    none : element.is_zero (poly.coefficient element (denominator_at level e) 0) ≡ true → ⊥
    none z =
        let bottom = least-positive (denominator_at level e) (Parts.denominator-ne-nil level e low v) z in
        let same : least_exponent (numerator_at level e) ≡ least_exponent (denominator_at level e) = omega (arith, ints, order) in
        let top : 0 < least_exponent (numerator_at level e) = omega (arith, bottom, same) in
        let unit = Gcd.coprime-common_divisor elements (polynomial (numerator_at level e)) (polynomial (denominator_at level e)) t (parts-coprime level e v)
        (variable-divides (numerator_at level e) (Parts.numerator-is_polynomial level e low v).all_valid top)
        (variable-divides (denominator_at level e) (Parts.denominator-is_polynomial level e low v).all_valid bottom) in
        let single = Gcd.size_of_unit elements t unit in
        let two = Powers.size-variable elements in
        omega (arith, single, two)

    by : (z : Bool) → element.is_zero (poly.coefficient element (denominator_at level e) 0) ≡ z → element.is_zero (poly.coefficient element (denominator_at level e) 0) ≡ false
    by false z = z
    by true z = absurd (none z)

pub coefficient-within : (level : ℕ) (p : List Element) (i : ℕ) → AllWithin level p → Within level (poly.coefficient element p i)
coefficient-within level p i all = Properties.coefficient-keeps (within-closed level) p i all
