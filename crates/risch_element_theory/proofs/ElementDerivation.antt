-- The derivation of the elements of the whole tower: it is that of the tower, leads to no new variable, and takes one monomial more.
--     derivative-is_element, derivative-stands, derivative-within      De
--     element-lies      an element stands for one of the field of the variables that occur in it
--     one-stands, first-rates      1, and the rates of x with no monomial
--     exponential-has_kind, logarithm-has_kind      the kinds of exp a and log a, with Da and Da/a
--     exponential-adjoined, logarithm-adjoined      the rates with those of exp a or log a
use Rattle.std.proofs.Common.{◌≡◌, ℕ, suc, ◌-◌, ◌<◌, false, [], ◌∷◌, ◌++◌, length, Ok, ap, arith}
use Rattle.risch_mean.specs.Element as mean
use Rattle.risch_mean.specs.Element.{InField}
use Rattle.risch_mean.specs.Tower as towers
use Rattle.risch_mean.specs.Tower.{Tower, IsTower, derive_in, kind_by, log, exp}
use Rattle.risch_polynomial_theory.proofs.FractionValues.{ground_means}
use Rattle.risch_level.specs.Levels.{Element, element}
use Rattle.risch_derivation.specs.Derivation.{Rates}
use Rattle.risch_derivation.specs.declared.rate.Kind.TheVariants.{Primitive, Exponential}
use Rattle.risch_element_theory.specs.DerivationMeaning.{kind_with}
use Rattle.risch_element_theory.specs.WholeTower.{IsElement, meaning, Within}
use Rattle.risch_element_theory.specs.ElementDerivation.{derive_element, element_constants, element_adjoined, AreElementRatesOf}
use Rattle.risch_element_theory.proofs.DerivationTower.{derive-means, exponential-kind, logarithm-kind}
use Rattle.risch_element_theory.proofs.DerivationWithin.{derive-within, within-lies}
use Rattle.risch_element_theory.proofs.DerivationWhole.{rates-adjoined, exponential-rate, logarithm-rate}
use Rattle.risch_element_theory.proofs.Levels.{level_means}

pub derivative-is_element : (tower : Tower) (rates : Rates 5) → IsTower tower → AreElementRatesOf tower rates → (e f : Element) → IsElement e → derive_element rates e ≡ Ok f → IsElement f
unfolding IsElement derive_element AreElementRatesOf
derivative-is_element tower rates h are e f v is = (derive-means tower h 5 rates are e f v is).0

-- ⟦De⟧ = D⟦e⟧
pub derivative-stands : (tower : Tower) (rates : Rates 5) → IsTower tower → AreElementRatesOf tower rates → (e f : Element) → IsElement e → derive_element rates e ≡ Ok f →
    meaning f ≡ derive_in tower (meaning e)
unfolding IsElement meaning derive_element AreElementRatesOf
derivative-stands tower rates h are e f v is = (derive-means tower h 5 rates are e f v is).1

pub derivative-within : (rates : Rates 5) (n : ℕ) (e f : Element) → Within n e → derive_element rates e ≡ Ok f → Within n f
unfolding Within derive_element
derivative-within rates n e f w is = derive-within 5 n rates e f w is

pub element-lies : (n : ℕ) (e : Element) → IsElement e → Within n e → InField n (meaning e)
unfolding IsElement meaning Within
element-lies n e v w = within-lies 5 n e v w

pub one-stands : meaning element.one ≡ mean.one
unfolding meaning element
one-stands = (level_means 5).one-means

-- Dx = 1
pub first-rates : AreElementRatesOf [] (element_adjoined element_constants 4 (record { kind = Primitive; eta = element.one }))
unfolding AreElementRatesOf element_adjoined element_constants element
first-rates =
    ((
      (
        (
          (
            (tt, ground_means.one-valid, ap towers.primitive ground_means.one-means),
            (level_means 1).zero-valid,
            ap towers.primitive (level_means 1).zero-means,
          ),
          (level_means 2).zero-valid,
          ap towers.primitive (level_means 2).zero-means,
        ),
        (level_means 3).zero-valid,
        ap towers.primitive (level_means 3).zero-means,
      ),
      (level_means 4).zero-valid,
      ap towers.primitive (level_means 4).zero-means,
    ))

-- ---- the monomials above the tower
module _ (tower : Tower) (rates : Rates 5) (h : IsTower tower) (are : AreElementRatesOf tower rates) (a : Element) (v : IsElement a) where
  pub exponential-has_kind : (d : Element) → derive_element rates a ≡ Ok d → kind_with Exponential (meaning d) ≡ kind_by tower (exp (meaning a))
  unfolding IsElement meaning derive_element AreElementRatesOf
  exponential-has_kind d is = (exponential-kind tower h 5 rates are a v d is).1

  pub logarithm-has_kind : (d η : Element) → derive_element rates a ≡ Ok d → element.is_zero a ≡ false → element.quotient d a ≡ Ok η → kind_with Primitive (meaning η) ≡ kind_by tower (log (meaning a))
  unfolding IsElement meaning derive_element AreElementRatesOf element
  logarithm-has_kind d η is some by = (logarithm-kind tower h 5 rates are a v d η is some by).1

module _ (tower : Tower) (rates : Rates 5) (h : IsTower tower) (are : AreElementRatesOf tower rates) (low : length tower < 4) (a : Element) (v : IsElement a) (w : Within (suc (length tower)) a) where
  pub exponential-adjoined : (d : Element) → derive_element rates a ≡ Ok d → AreElementRatesOf (tower ++ exp (meaning a) ∷ []) (element_adjoined rates (3 - length tower) (record { kind = Exponential; eta = d }))
  unfolding IsElement meaning Within derive_element element_adjoined AreElementRatesOf
  exponential-adjoined d is =
      rates-adjoined tower (exp (meaning a)) h (within-lies 5 (suc (length tower)) a v w) 5 rates (3 - length tower) (record { kind = Exponential; eta = d }) (omega arith) (exponential-rate tower h 5 rates are a v w d is) are

  pub logarithm-adjoined : (d η : Element) → derive_element rates a ≡ Ok d → element.is_zero a ≡ false → element.quotient d a ≡ Ok η →
      AreElementRatesOf (tower ++ log (meaning a) ∷ []) (element_adjoined rates (3 - length tower) (record { kind = Primitive; eta = η }))
  unfolding IsElement meaning Within derive_element element_adjoined AreElementRatesOf element
  logarithm-adjoined d η is some by =
      rates-adjoined tower (log (meaning a)) h (within-lies 5 (suc (length tower)) a v w) 5 rates (3 - length tower) (record { kind = Primitive; eta = η }) (omega arith) (logarithm-rate tower h 5 rates are a v w d η is some by) are
