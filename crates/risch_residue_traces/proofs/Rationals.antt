-- An element of the tower is rational exactly where it is a fraction.
--     number-within      a fraction has no variable
--     number-rational      a fraction is rational
--     not_rational      an element that is no fraction is not
use Rattle.std.proofs.Common.{◌≡◌, ℕ, zero, suc, ◌<◌, ◌⊎◌, inl, inr, List, [], ◌∷◌, length, None, Some, sym, ◌∙◌, ap, arith}
use Rattle.risch_ring.specs.CommRing.{CommRing}
use Rattle.risch_univariate.specs.Polynomial.{Polynomial, constant}
use Rattle.risch_univariate.specs.PolynomialRing.{polynomials}
use Rattle.risch_univariate.specs.Degree.{size, IsMonic}
use Rattle.risch_univariate.specs.Division.{Divides}
use Rattle.risch_univariate.proofs.Degree as Degree
use Rattle.risch_univariate.proofs.Gcd as Gcd
use Rattle.risch_mean.specs.Element as mean
use Rattle.risch_mean.specs.Element.{InField, variable}
use Rattle.risch_mean.specs.ElementField.{elements}
use Rattle.risch_mean.specs.Constants.{IsRational}
use Rattle.risch_mean.proofs.ConstantLaws.{rational_in}
use Rattle.risch_frac.specs.Fraction.{Fraction}
use Rattle.risch_polynomial_theory.proofs.FractionValues.{fraction-rational}
use Rattle.risch_level.specs.Accessors.{as_number}
use Rattle.risch_level.specs.Levels.{Field, field, Element}
use Rattle.risch_level.specs.declared.over.Over.TheVariants.{Below, Quotient}
use Rattle.risch_element_theory.specs.ElementMeaning.{IsNormal}
use Rattle.risch_element_theory.specs.LevelMeaning.{valid_at, meaning_at}
use Rattle.risch_element_theory.specs.WholeTower.{IsElement, meaning, WithinAt, Within}
use Rattle.risch_element_theory.proofs.ElementsQuotients.{of, at-is, Over-of}
use Rattle.risch_element_theory.proofs.ElementsSums.{normal-represents}
use Rattle.risch_element_theory.proofs.ElementsTranscendence as Transcendence
use Rattle.risch_element_theory.proofs.GcdRule as GcdRule
use Rattle.risch_element_theory.proofs.Levels.{level_below}
use Rattle.risch_element_theory.proofs.PolynomialRules as Rules

abbrev R : CommRing (Polynomial elements)
R = polynomials elements

-- ---- fractions
number-within_at : (height : ℕ) (e : Field height) (q : Fraction) → as_number height e ≡ Some q → WithinAt height 0 e
number-within_at zero e q is = tt
number-within_at (suc height) (Below e) q is = number-within_at height e q is
number-within_at (suc height) (Quotient r) q is = cc

pub number-within : (e : Element) (q : Fraction) → as_number 5 e ≡ Some q → Within 0 e
unfolding Within
number-within e q is = number-within_at 5 e q is

number-rational_at : (height : ℕ) (e : Field height) (q : Fraction) → valid_at height e → as_number height e ≡ Some q → IsRational (meaning_at height e)
number-rational_at zero e q v is = fraction-rational e v
number-rational_at (suc height) (Below e) q v is = number-rational_at height e q v is
number-rational_at (suc height) (Quotient r) q v is = cc

-- a fraction is rational
pub number-rational : (e : Element) (q : Fraction) → IsElement e → as_number 5 e ≡ Some q → IsRational (meaning e)
unfolding IsElement meaning
number-rational e q v is = number-rational_at 5 e q v is

-- ---- the others
-- n(t)/m(t) in normal form does not lie in the field below: n(t) = c·m(t) gives n = c·m, and n and m are coprime, so that m = 1 and n = c
module _ (height : ℕ) (n m : List (Field height)) (k : IsNormal elements (field height) (valid_at height) (meaning_at height) n m) (lies : InField height (meaning_at (suc height) (Quotient (n, m)))) where
  abbrev c : mean.Element
  c = meaning_at (suc height) (Quotient (n, m))

  abbrev N : Polynomial elements
  N = of elements (level_below height) n

  abbrev M : Polynomial elements
  M = of elements (level_below height) m

  over-constant : Transcendence.Over elements (InField height) (level_below height).is_closed (constant elements c)
  unfolding constant
  over-constant = Transcendence.Over-of_list elements (InField height) (level_below height).is_closed (c ∷ []) (lies, tt)

  over-m : Transcendence.Over elements (InField height) (level_below height).is_closed M
  over-m = Over-of elements (level_below height) m k.is_reduced.denominator_kept.all_valid

  over-n : Transcendence.Over elements (InField height) (level_below height).is_closed N
  over-n = Over-of elements (level_below height) n k.is_reduced.numerator_kept.all_valid

  equal : N ≡ R.mul (constant elements c) M
  equal =
      Transcendence.same_of_value elements (InField height) (level_below height).is_closed (variable height) (level_below height).transcendental N (R.mul (constant elements c) M) over-n
      (Transcendence.Over-mul elements (InField height) (level_below height).is_closed (constant elements c) M over-constant over-m)
      (at-is elements (level_below height) n ∙ sym (normal-represents elements (level_below height) n m k.is_reduced).equation
      ∙ sym (Transcendence.at-mul elements (variable height) (constant elements c) M
      ∙ ap (λ x. mean.mul x (Transcendence.at elements (variable height) M)) (Transcendence.at-constant elements (variable height) c)
      ∙ ap (mean.mul c) (at-is elements (level_below height) m)))

  monic : IsMonic elements M
  monic = GcdRule.leading_coefficient-polynomial_of elements (level_below height).interprets m k.is_reduced.denominator_kept ∙ k.is_reduced.is_monic

  divides_one : Divides elements M R.one
  divides_one =
      Gcd.coprime-divides_of_mul elements M N R.one (Gcd.coprime_sym elements N M k.is_reduced.is_coprime)
      (record { cofactor = constant elements c; equation = R.mul-one N ∙ equal })

  one : M ≡ R.one
  one = Gcd.monic_antisymm elements M R.one monic (Gcd.one-is_monic elements) divides_one (record { cofactor = M; equation = sym (R.mul-one M) })

  below : N ≡ constant elements c
  below = equal ∙ ap (R.mul (constant elements c)) one ∙ R.mul-one (constant elements c)

  small : (1 < length n) ⊎ (1 < length m) → ⊥
  small (inl l) =
      let sized = Rules.size-polynomial_of elements (level_below height).interprets n k.is_reduced.numerator_kept in
      let same = ap (size elements) below in
      let least = Degree.size-constant-le elements c in
      omega (arith, l, sized, same, least)
  small (inr l) =
      let sized = Rules.size-polynomial_of elements (level_below height).interprets m k.is_reduced.denominator_kept in
      let same = ap (size elements) one in
      let least = Degree.size-one elements in
      omega (arith, l, sized, same, least)

  pub quotient-no_below : ⊥
  quotient-no_below = small k.variable_occurs

not_rational_at : (height : ℕ) (e : Field height) → valid_at height e → as_number height e ≡ None → ¬ IsRational (meaning_at height e)
not_rational_at zero e v none r = cc
not_rational_at (suc height) (Below e) v none r = not_rational_at height e v none r
not_rational_at (suc height) (Quotient q) v none r =
    quotient-no_below height q.0 q.1 v (rational_in height (meaning_at (suc height) (Quotient q)) r)

pub not_rational : (e : Element) → IsElement e → as_number 5 e ≡ None → ¬ IsRational (meaning e)
unfolding IsElement meaning
not_rational e v none r = not_rational_at 5 e v none r
