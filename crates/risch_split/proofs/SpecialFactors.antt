-- The steps of the splitting factorization: the special factor of a polynomial, and the parts of the polynomial from those of its quotient by it.
--     derivative-gcd, partial-gcd      the common divisors that are formed
--     gcd-divides      gcd(d, ∂d) divides gcd(d, Dd)
--     step-of      their quotient S has gcd(d, Dd) = S·gcd(d, ∂d)
--     rest-of      d = q·S with a monic q of lower degree, where S is not 1
--     parts-end, parts-next      the parts of d
--     parts-split      what parts are, where the special one is that of a sound tower
use Rattle.std.proofs.Common.{◌≡◌, ℕ, ◌≤◌, ◌<◌, true, false, List, length, refl, sym, ◌∙◌, ap, arith, subst, inl, inr, ◌⊎◌}
use Rattle.risch_ring.specs.CommRing.{CommRing, Derivation}
use Rattle.risch_univariate.specs.Polynomial.{Polynomial}
use Rattle.risch_univariate.specs.PolynomialLaws.{polynomial_ext}
use Rattle.risch_univariate.specs.PolynomialRing.{polynomials}
use Rattle.risch_univariate.specs.Degree.{size, IsMonic}
use Rattle.risch_univariate.specs.Division.{Divides, IsCoprime, IsIrreducible}
use Rattle.risch_univariate.specs.SplittingFactorization.{IsSpecial, SplittingFactorization}
use Rattle.risch_univariate.proofs.Degree as Degree
use Rattle.risch_univariate.proofs.Divides as Divides
use Rattle.risch_univariate.proofs.FormalDerivative as FormalDerivative
use Rattle.risch_univariate.proofs.FormalDerivative.{formal_derivative}
use Rattle.risch_univariate.proofs.Gcd as Gcd
use Rattle.risch_univariate.proofs.Irreducible as Irreducible
use Rattle.risch_univariate.proofs.SplittingFactorization as Splitting
use Rattle.risch_mean.specs.ElementField.{elements}
use Rattle.risch_polynomial.specs.Poly as poly
use Rattle.risch_level.specs.Levels.{Element, element}
use Rattle.risch_element_theory.specs.WholeTower.{IsPolynomial, polynomial}
use Rattle.risch_element_theory.specs.ElementPolynomials.{◌*ₚ◌, IsDerivative, IsDivisionOf, IsMonicGcd}
use Rattle.risch_tower.specs.declared.level.Level.{Level}
use Rattle.risch_tower.specs.Tower.{rate_at}
use Rattle.risch_tower.specs.TowerMeaning.{monomials}
use Rattle.risch_split.specs.declared.splitting.Split.{Split}
use Rattle.risch_monomial.specs.LevelElements.{one}
use Rattle.risch_monomial.specs.LevelDerivation.{level_derivation}
use Rattle.risch_monomial.specs.NormalPolynomials.{HasNormalDivisors, IsSpecialAt}
use Rattle.risch_split.specs.SplittingMeaning.{IsSplitting}
use Rattle.risch_split.specs.SplittingSteps.{IsGcdWithDerivative, IsGcdWithPartial, IsStep, AreParts}
use Rattle.risch_monomial.proofs.MonicPolynomials.{elements_characteristic_zero, exact_quotient, one-stands, size-is, is_one-stands, not_one-length}

abbrev R : CommRing (Polynomial elements)
R = polynomials elements

-- the derivation of K[t] for a level
abbrev D : List Level → ℕ → Derivation R
D tower level = level_derivation (monomials tower) level

-- ---- the special factor
-- the formal derivative is determined by its coefficients
formal-is : (p d : List Element) → IsDerivative (polynomial p) (polynomial d) → polynomial d ≡ formal_derivative elements (polynomial p)
formal-is p d h = polynomial_ext elements (polynomial d) (formal_derivative elements (polynomial p)) (λ i. h i ∙ sym (FormalDerivative.coefficient-formal_derivative elements (polynomial p) i))

-- a monic common divisor is that of the theory
gcd-is : (p q g : List Element) → IsMonicGcd p q g → polynomial g ≡ Gcd.gcd elements (polynomial p) (polynomial q)
gcd-is p q g h = Gcd.gcd_unique elements (polynomial g) (polynomial p) (polynomial q) h.1 h.0

pub derivative-gcd : (tower : List Level) (level : ℕ) (d d' a : List Element) → polynomial d' ≡ (level_derivation (monomials tower) level).derive (polynomial d) → IsMonicGcd d d' a → IsGcdWithDerivative tower level d a
derivative-gcd tower level d d' a derived h = record { is_monic = h.0; is = gcd-is d d' a h ∙ ap (Gcd.gcd elements (polynomial d)) derived }

pub partial-gcd : (d p b : List Element) → IsDerivative (polynomial d) (polynomial p) → IsMonicGcd d p b → IsGcdWithPartial d b
partial-gcd d p b formal h = record { is_monic = h.0; is = gcd-is d p b h ∙ ap (Gcd.gcd elements (polynomial d)) (formal-is d p formal) }

pub gcd-divides : (tower : List Level) (level : ℕ) (d a b : List Element) → IsMonic elements (polynomial d) → IsGcdWithDerivative tower level d a → IsGcdWithPartial d b → Divides elements (polynomial b) (polynomial a)
gcd-divides tower level d a b monic left right =
    subst (λ x. Divides elements x (polynomial a)) (sym right.is) (subst (λ y. Divides elements (Gcd.gcd elements (polynomial d) (formal_derivative elements (polynomial d))) y) (sym left.is)
    (Splitting.step-divides elements elements_characteristic_zero (D tower level) (polynomial d) (Gcd.monic-nonzero elements (polynomial d) monic)))

pub step-of : (tower : List Level) (level : ℕ) (d a b s : List Element) → IsGcdWithDerivative tower level d a → IsGcdWithPartial d b → polynomial a ≡ polynomial s *ₚ polynomial b → IsStep tower level d s
step-of tower level d a b s left right exact = record {
  is_monic = Gcd.cofactor-is_monic elements (polynomial b) (polynomial a) (record { cofactor = polynomial s; equation = exact }) left.is_monic right.is_monic;
  equation = sym left.is ∙ exact ∙ ap (R.mul (polynomial s)) right.is;
}

-- ---- a polynomial divided exactly
pub exact-division : (a b : List Element) (d : List Element × List Element) → IsMonic elements (polynomial b) → Divides elements (polynomial b) (polynomial a) → IsDivisionOf a b d → polynomial a ≡ polynomial d.0 *ₚ polynomial b
exact-division a b d monic h division = exact_quotient elements (polynomial a) (polynomial b) (polynomial d.0) (polynomial d.1) (Gcd.monic-nonzero elements (polynomial b) monic) h division

-- ---- the quotient by it
-- d = q·s, q is monic, and deg q < deg d
pub record IsRest (d s q : List Element) : Type 0 where
  pub equation : polynomial d ≡ polynomial q *ₚ polynomial s
  pub is_monic : IsMonic elements (polynomial q)
  pub shorter : length q < length d

pub step-divides : (tower : List Level) (level : ℕ) (d s : List Element) → IsStep tower level d s → Divides elements (polynomial s) (polynomial d)
step-divides tower level d s step =
    let d' = (D tower level).derive (polynomial d) in
    let g = Gcd.gcd elements (polynomial d) (formal_derivative elements (polynomial d)) in
    Divides.divides_trans elements (polynomial s) (Gcd.gcd elements (polynomial d) d') (polynomial d)
    (subst (Divides elements (polynomial s)) (sym step.equation) (Divides.divides-mul_right elements (polynomial s) g)) (Gcd.gcd-divides_left elements (polynomial d) d')

pub rest-of : (tower : List Level) (level : ℕ) (d s q : List Element) → IsPolynomial d → IsPolynomial s → IsPolynomial q → IsMonic elements (polynomial d) → IsStep tower level d s → poly.is_one element s ≡ false →
    polynomial d ≡ polynomial q *ₚ polynomial s → IsRest d s q
rest-of tower level d s q kd ks kq monic step other exact =
    record { equation = exact; is_monic = Gcd.cofactor-is_monic elements (polynomial s) (polynomial d) by monic step.is_monic; shorter = shorter }
  where
    by : Divides elements (polynomial s) (polynomial d)
    by = record { cofactor = polynomial q; equation = exact }

    shorter : length q < length d
    shorter =
        let sizes = Divides.size-cofactor elements (polynomial s) (polynomial d) by (Gcd.monic-nonzero elements (polynomial d) monic) in
        let large = not_one-length s ks step.is_monic other in
        let size_d = size-is d kd in
        let size_s = size-is s ks in
        let size_q = size-is q kq in
        omega (arith, sizes, large, size_d, size_s, size_q)

-- ---- the parts
pub parts-end : (tower : List Level) (level : ℕ) (d s : List Element) → IsPolynomial s → IsMonic elements (polynomial d) → IsStep tower level d s → poly.is_one element s ≡ true →
    AreParts tower level d (record { normal = d; special = one })
parts-end tower level d s ks monic step is_one = record {
  factorization = record {
    normal = polynomial d;
    special = R.one;
    equation = sym (R.mul-one (polynomial d));
    normal_is_monic = monic;
    special_is_monic = Gcd.one-is_monic elements;
    normal_factors = λ f i m k. Splitting.normal_of_end elements elements_characteristic_zero (D tower level) (polynomial d) some f i (polynomial s) step.equation small k;
    special_factors = λ f i m k. absurd (Irreducible.irreducible-not_unit elements f i k);
  };
  normal_is = refl;
  special_is = sym one-stands;
}
  where
    some : ¬ (polynomial d ≡ R.zero)
    some = Gcd.monic-nonzero elements (polynomial d) monic

    small : size elements (polynomial s) ≤ 1
    small =
        let unit = ap (size elements) (is_one-stands s ks step.is_monic is_one) in
        let single = Degree.size-one elements in
        omega (arith, unit, single)

pub parts-next : (tower : List Level) (level : ℕ) (d s q : List Element) (split parts : Split) → IsMonic elements (polynomial d) → IsStep tower level d s → IsRest d s q → AreParts tower level q split →
    parts.normal ≡ split.normal → polynomial parts.special ≡ polynomial s *ₚ polynomial split.special → AreParts tower level d parts
parts-next tower level d s q split parts monic step rest inner n_is s_is = record {
  factorization = record {
    normal = x.normal;
    special = R.mul (polynomial s) x.special;
    equation =
        rest.equation ∙ ap (λ z. R.mul z (polynomial s)) x.equation ∙ R.mul_assoc x.normal x.special (polynomial s) ∙ ap (R.mul x.normal) (R.mul_comm x.special (polynomial s));
    normal_is_monic = x.normal_is_monic;
    special_is_monic = Gcd.mul-is_monic elements (polynomial s) x.special step.is_monic x.special_is_monic;
    normal_factors = x.normal_factors;
    special_factors = λ f i m k. of_either f i m (Irreducible.irreducible-prime elements f (polynomial s) x.special i k);
  };
  normal_is = inner.normal_is ∙ ap polynomial (sym n_is);
  special_is = ap (R.mul (polynomial s)) inner.special_is ∙ sym s_is;
}
  where
    x : SplittingFactorization elements (D tower level) (polynomial q)
    x = inner.factorization

    of_either : (f : Polynomial elements) → IsIrreducible elements f → IsMonic elements f → Divides elements f (polynomial s) ⊎ Divides elements f x.special → IsSpecial elements (D tower level) f
    of_either f i m (inl a) =
        Splitting.factor_of_step elements elements_characteristic_zero (D tower level) (polynomial d) (Gcd.monic-nonzero elements (polynomial d) monic) f i (polynomial s) step.equation a
    of_either f i m (inr b) = x.special_factors f i m b

-- ---- what they are
pub special-monic : (tower : List Level) (level : ℕ) (d : List Element) (split : Split) → AreParts tower level d split → IsMonic elements (polynomial split.special)
special-monic tower level d split parts = subst (IsMonic elements) parts.special_is parts.factorization.special_is_monic

-- the special part divides its derivative
pub special-special : (tower : List Level) (level : ℕ) (d : List Element) (split : Split) → AreParts tower level d split → IsSpecial elements (level_derivation (monomials tower) level) (polynomial split.special)
special-special tower level d split parts =
    subst (IsSpecial elements (D tower level)) parts.special_is (Splitting.split-special elements elements_characteristic_zero (D tower level) (polynomial d) parts.factorization)

pub parts-split : (tower : List Level) (level : ℕ) (d : List Element) (split : Split) → AreParts tower level d split → IsSpecialAt (rate_at tower level).kind (polynomial split.special) → IsSplitting tower level d split
parts-split tower level d split parts special_is =
    let x = parts.factorization in
    record {
      product = x.equation ∙ ap (λ n. R.mul n x.special) parts.normal_is ∙ ap (R.mul (polynomial split.normal)) parts.special_is;
      normal_is_monic = subst (IsMonic elements) parts.normal_is x.normal_is_monic;
      special_is_monic = special-monic tower level d split parts;
      coprime = subst (λ n. IsCoprime elements n (polynomial split.special)) parts.normal_is
          (subst (IsCoprime elements x.normal) parts.special_is (Splitting.split-coprime elements elements_characteristic_zero (D tower level) (polynomial d) x));
      normal = subst (HasNormalDivisors (D tower level)) parts.normal_is normal_divisors;
      special = special-special tower level d split parts;
      special_is = special_is;
    }
  where
    some_divisor : (q : Polynomial elements) → Divides elements q parts.factorization.normal → ¬ (q ≡ R.zero)
    some_divisor q h = Divides.divisor-nonzero elements q parts.factorization.normal h (Gcd.monic-nonzero elements parts.factorization.normal parts.factorization.normal_is_monic)

    normal_divisors : HasNormalDivisors (D tower level) parts.factorization.normal
    normal_divisors q free h = Splitting.normal_of_factors elements elements_characteristic_zero (D tower level) q (some_divisor q h) free
        (λ f i m k. parts.factorization.normal_factors f i m (Divides.divides_trans elements f q parts.factorization.normal k h))
