-- The numerator N and the denominator M of an element e at a level with the variable t are coprime, so that M divides each polynomial q with e = p(t)/q(t).
--     parts-coprime, denominator-monic      N and M
--     lowest-terms      N·q = p·M, and M divides q
--     lowest-proper      deg N < deg M where deg p < deg q
use Rattle.std.proofs.Common.{◌≡◌, ℕ, zero, suc, ◌+◌, ◌-◌, ◌≤◌, ◌<◌, List, [], ◌∷◌, length, map, refl, sym, ◌∙◌, ap, arith, subst}
use Rattle.risch_ring.specs.CommRing.{CommRing}
use Rattle.risch_ring.proofs.FieldLaws as FieldLaws
use Rattle.risch_ring.proofs.Laws as Laws
use Rattle.risch_univariate.specs.Polynomial.{Polynomial, of_list}
use Rattle.risch_univariate.specs.PolynomialRing.{polynomials}
use Rattle.risch_univariate.specs.Degree.{size, IsMonic}
use Rattle.risch_univariate.specs.Division.{Divides, IsCoprime}
use Rattle.risch_univariate.proofs.Degree as Degree
use Rattle.risch_univariate.proofs.Gcd as Gcd
use Rattle.risch_mean.specs.Element as mean
use Rattle.risch_mean.specs.Element.{variable, ◌*ₑ◌}
use Rattle.risch_mean.specs.ElementField.{elements}
use Rattle.risch_polynomial.specs.Poly as poly
use Rattle.risch_level.specs.Levels as tower
use Rattle.risch_level.specs.Levels.{field, Element, element}
use Rattle.risch_level.specs.Tower.{lifted, lowered_element, own_numerator}
use Rattle.risch_level.specs.Parts.{levels, denominator, own_denominator}
use Rattle.risch_level.specs.declared.over.Over.TheVariants.{Below, Quotient}
use Rattle.risch_element_theory.specs.LevelMeaning.{valid_at, meaning_at}
use Rattle.risch_element_theory.specs.PolynomialMeaning.{polynomial_of}
use Rattle.risch_element_theory.specs.WholeTower.{IsElement, IsPolynomial, meaning, polynomial, value_of, Within}
use Rattle.risch_element_theory.proofs.ElementPolynomials.{element_interprets}
use Rattle.risch_element_theory.proofs.ElementsTranscendence as Transcendence
use Rattle.risch_element_theory.proofs.GcdRule as GcdRule
use Rattle.risch_element_theory.proofs.Levels.{level_means}
use Rattle.risch_element_theory.proofs.PartsLaws as Parts
use Rattle.risch_element_theory.proofs.PartsMeaning.{level_below_is}
use Rattle.risch_monomial.specs.LevelElements.{numerator_at, denominator_at}
use Rattle.risch_monomial.proofs.LevelPolynomials.{at, at-polynomial, Over, Over-mul, Over-polynomial, same-of_values}
use Rattle.risch_monomial.proofs.MonicPolynomials.{size-is}

abbrev R : CommRing (Polynomial elements)
R = polynomials elements

-- ---- coprime parts at every height
-- what a polynomial over the field of a height stands for
abbrev of : (height : ℕ) → List (tower.Field height) → Polynomial elements
of height p = polynomial_of elements (meaning_at height) p

map-lifted : (height : ℕ) (p : List (tower.Field height)) → map (meaning_at (suc height)) (lifted (field height) p) ≡ map (meaning_at height) p
map-lifted height [] = refl
map-lifted height (c ∷ p) = ap (λ q. meaning_at height c ∷ q) (map-lifted height p)

of-lifted : (height : ℕ) (p : List (tower.Field height)) → of (suc height) (lifted (field height) p) ≡ of height p
unfolding polynomial_of
of-lifted height p = ap (of_list elements) (map-lifted height p)

of-one : (height : ℕ) → of height ((field height).one ∷ []) ≡ R.one
of-one height = GcdRule.polynomial_of-one elements (level_means height)

coprime_one : (p : Polynomial elements) → IsCoprime elements p R.one
coprime_one p = record { left = R.zero; right = R.one; equation = ap (λ z. R.add z (R.mul R.one R.one)) (Laws.zero-mul R p) ∙ Laws.zero-add R (R.mul R.one R.one) ∙ R.mul-one R.one }

coprime_to_one : (height : ℕ) (p : Polynomial elements) → IsCoprime elements p (of height ((field height).one ∷ []))
coprime_to_one height p = subst (IsCoprime elements p) (sym (of-one height)) (coprime_one p)

coprime-lifted : (height : ℕ) (p q : List (tower.Field height)) → IsCoprime elements (of height p) (of height q) → IsCoprime elements (of (suc height) (lifted (field height) p)) (of (suc height) (lifted (field height) q))
coprime-lifted height p q c =
    subst (λ n. IsCoprime elements n (of (suc height) (lifted (field height) q))) (sym (of-lifted height p)) (subst (IsCoprime elements (of height p)) (sym (of-lifted height q)) c)

lowered_element-valid : (height : ℕ) (e : tower.Field (suc height)) → valid_at (suc height) e → valid_at height (lowered_element (field height) e)
lowered_element-valid height (Below e) v = v
lowered_element-valid height (Quotient r) v = (level_means height).zero-valid

coprime-at : (height down : ℕ) (e : tower.Field height) → valid_at height e → IsCoprime elements (of height ((levels height).numerator down e)) (of height (denominator height down e))
coprime-at zero down e v = coprime_to_one zero (of zero ((levels zero).numerator down e))
coprime-at (suc height) zero (Below e) v = coprime_to_one (suc height) (of (suc height) ((levels (suc height)).numerator zero (Below e)))
coprime-at (suc height) zero (Quotient r) v = coprime-lifted height r.0 r.1 v.is_reduced.is_coprime
coprime-at (suc height) (suc down) e v =
    let e' = lowered_element (field height) e in
    let numerator-below = level_below_is down (own_numerator (field height) e) (λ d. lifted (field height) ((levels height).numerator d e')) in
    let denominator-below = level_below_is down (own_denominator (field height) e) (λ d. lifted (field height) (denominator height d e')) in
    subst (λ p. IsCoprime elements (of (suc height) p) (of (suc height) (denominator (suc height) (suc down) e))) (sym numerator-below)
    (subst (λ q. IsCoprime elements (of (suc height) (lifted (field height) ((levels height).numerator down e'))) (of (suc height) q)) (sym denominator-below)
    (coprime-lifted height ((levels height).numerator down e') (denominator height down e') (coprime-at height down e' (lowered_element-valid height e v))))

-- ---- the whole tower
pub parts-coprime : (level : ℕ) (e : Element) → IsElement e → IsCoprime elements (polynomial (numerator_at level e)) (polynomial (denominator_at level e))
unfolding IsElement meaning
parts-coprime level e v = coprime-at 5 (4 - level) e v

-- a leading coefficient that stands for 1
pub monic-of_last : (p : List Element) → IsPolynomial p → meaning (poly.last element p) ≡ mean.one → IsMonic elements (polynomial p)
monic-of_last p k e = GcdRule.leading_coefficient-polynomial_of elements element_interprets p k ∙ e

pub denominator-monic : (level : ℕ) (e : Element) → level ≤ 4 → IsElement e → IsMonic elements (polynomial (denominator_at level e))
denominator-monic level e low v = monic-of_last (denominator_at level e) (Parts.denominator-is_polynomial level e low v) (Parts.denominator-is_monic level e low v)

-- ⟦e⟧·M(t) = N(t)
pub parts-product : (level : ℕ) (e : Element) → level ≤ 4 → IsElement e → Within (level + 1) e → meaning e *ₑ at level (polynomial (denominator_at level e)) ≡ at level (polynomial (numerator_at level e))
parts-product level e low v w =
    let n = value_of (numerator_at level e) (variable level) in
    let m = value_of (denominator_at level e) (variable level) in
    ap (mean.mul (meaning e)) (at-polynomial level (denominator_at level e)) ∙ ap (λ x. x *ₑ m) (Parts.parts-stand level e low v w)
    ∙ FieldLaws.quotient-mul elements n m (Parts.denominator-value-ne-zero level e low v) ∙ sym (at-polynomial level (numerator_at level e))

-- ---- e = p(t)/q(t)
module _ (level : ℕ) (e : Element) (low : level ≤ 4) (v : IsElement e) (w : Within (level + 1) e) (p q : Polynomial elements) (over_p : Over level p) (over_q : Over level q)
    (ratio : meaning e *ₑ at level q ≡ at level p) where
  abbrev N : Polynomial elements
  N = polynomial (numerator_at level e)

  abbrev M : Polynomial elements
  M = polynomial (denominator_at level e)

  over_n : Over level N
  over_n = Over-polynomial level (numerator_at level e) (Parts.numerator-is_polynomial level e low v) (Parts.numerator-all_within level e low v w)

  over_m : Over level M
  over_m = Over-polynomial level (denominator_at level e) (Parts.denominator-is_polynomial level e low v) (Parts.denominator-all_within level e low v w)

  -- N·q = p·M
  crossed : R.mul N q ≡ R.mul p M
  crossed = same-of_values level (R.mul N q) (R.mul p M) (Over-mul level N q over_n over_q) (Over-mul level p M over_p over_m)
      (Transcendence.at-mul elements (variable level) N q ∙ ap (λ x. x *ₑ at level q) (sym (parts-product level e low v w))
      ∙ Laws.mul_right_comm elements.ring (meaning e) (at level M) (at level q) ∙ ap (λ x. x *ₑ at level M) ratio ∙ sym (Transcendence.at-mul elements (variable level) p M))

  pub lowest-terms : Divides elements M q
  lowest-terms = Gcd.coprime-divides_of_mul elements M N q (Gcd.coprime_sym elements N M (parts-coprime level e v)) (record { cofactor = p; equation = crossed })

  pub lowest-proper : size elements p < size elements q → length (numerator_at level e) < length (denominator_at level e)
  lowest-proper smaller = by (Degree.dec_zero elements N)
    where
      kn : IsPolynomial (numerator_at level e)
      kn = Parts.numerator-is_polynomial level e low v

      km : IsPolynomial (denominator_at level e)
      km = Parts.denominator-is_polynomial level e low v

      m_some : ¬ (M ≡ R.zero)
      m_some = Gcd.monic-nonzero elements M (denominator-monic level e low v)

      q_some : ¬ (q ≡ R.zero)
      q_some = Degree.nonzero_of_size elements q (omega (arith, smaller))

      by : Dec (N ≡ R.zero) → length (numerator_at level e) < length (denominator_at level e)
      by (yes z) =
          let none = ap (size elements) z in
          let zero_size = Degree.size-zero elements in
          let size_n = size-is (numerator_at level e) kn in
          let size_m = size-is (denominator_at level e) km in
          let some = Degree.size_of_nonzero elements M m_some in
          omega (arith, none, zero_size, size_n, size_m, some)
      by (no n_some) =
          let left = Degree.size-mul-nonzero elements N q n_some q_some in
          let p_some = Degree.nonzero_of_mul_left elements p M (λ z. Degree.mul_polynomials-nonzero elements N q n_some q_some (crossed ∙ z)) in
          let right = Degree.size-mul-nonzero elements p M p_some m_some in
          let same = ap (size elements) crossed in
          let size_n = size-is (numerator_at level e) kn in
          let size_m = size-is (denominator_at level e) km in
          omega (arith, left, right, same, size_n, size_m, smaller)
