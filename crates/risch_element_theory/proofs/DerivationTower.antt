-- The rule of the derivation gives the derivatives of the elements of a tower.
--     derive-means      where the rule gives f for e at a height, ⟦f⟧ = D⟦e⟧ in the tower
--     exponential-kind, logarithm-kind      the rates of exp a and of log a are Da and Da/a, as the rule forms them
use Rattle.std.proofs.Common.{◌≡◌, ℕ, true, false, zero, suc, ◌<◌, [], ◌∷◌, Ok, refl, sym, ◌∙◌, ap, arith, length, subst}
use native.Mathlib.Decide.{dec_lt}
use Rattle.risch_ring.specs.CommRing.{Derivation}
use Rattle.risch_ring.proofs.Expression.{reading}
use Rattle.risch_ring.proofs.Solver.{ring}
use Rattle.risch_frac.specs.Fraction.{Fraction, IsLowest}
use Rattle.risch_mean.specs.Element.{Element, add, mul, variable}
use Rattle.risch_mean.specs.Element as Element
use Rattle.risch_mean.specs.ElementLaws.{mul_cancel, over-mul}
use Rattle.risch_mean.specs.ElementField.{elements}
use Rattle.risch_mean.specs.Univariate.{value_at}
use Rattle.risch_mean.specs.Tower as towers
use Rattle.risch_mean.specs.Tower.{Tower, IsTower, derivatives, derive_in, derivative_of, kind_of, kind_by, log, exp}
use Rattle.risch_mean.proofs.ConstantLaws.{derive-rational}
use Rattle.risch_mean.proofs.DerivationLaws.{derive-add, derive-mul}
use Rattle.risch_mean.proofs.LevelKinds.{kind_is, kind_is_past}
use Rattle.risch_polynomial_theory.specs.FractionMeaning.{fraction_meaning}
use Rattle.risch_field.specs.Ground.{ground}
use Rattle.risch_level.specs.Levels.{Field, field}
use Rattle.risch_polynomial_theory.proofs.FractionValues.{ground_means, fraction-rational}
use Rattle.risch_derivation.specs.Derivation.{Rates, derive}
use Rattle.risch_derivation.specs.declared.rate.Kind.{Kind}
use Rattle.risch_derivation.specs.declared.rate.Kind.TheVariants.{Primitive, Exponential}
use Rattle.risch_element_theory.specs.DerivationMeaning.{HasRate, IsRate, Derives, kind_with, AreRatesOf}
use Rattle.risch_element_theory.specs.LevelMeaning.{valid_at, meaning_at}
use Rattle.risch_element_theory.proofs.DerivationElements.{derive_over-means}
use Rattle.risch_element_theory.proofs.Levels.{level_below, level_means}

-- the derivation of the tower
abbrev pub derivation_in : Tower → Derivation elements.ring
derivation_in tower = record { derive = derive_in tower; derive-add = derive-add (derivatives tower); derive-mul = derive-mul (derivatives tower) }

-- ---- the rates
kind-has_rate : (tower : Tower) (kind : Kind) (η t : Element) → derive_in tower t ≡ value_at elements.ring t (derivative_of (kind_with kind η)) → HasRate (derivation_in tower) kind η t
kind-has_rate tower Primitive η t e = e ∙ constant_value t η
  where
    constant_value : (t η : Element) → add η (mul t Element.zero) ≡ η
    constant_value t η = ring elements.ring (t ∷ η ∷ []) (search reading depth 20) refl
kind-has_rate tower Exponential η t e = e ∙ linear_value t η
  where
    linear_value : (t η : Element) → add Element.zero (mul t (add η (mul t Element.zero))) ≡ mul η t
    linear_value t η = ring elements.ring (t ∷ η ∷ []) (search reading depth 30 fits 4000) refl

-- where kind and η are those of the level, its variable is derived so; past the end of the tower it is a constant
pub level-has_rate : (tower : Tower) → IsTower tower → (level : ℕ) (kind : Kind) (η : Element) → kind_with kind η ≡ kind_of tower level → HasRate (derivation_in tower) kind η (variable level)
level-has_rate tower h level kind η e =
    kind-has_rate tower kind η (variable level) (by (dec_lt (length tower) level) ∙ ap (λ k. value_at elements.ring (variable level) (derivative_of k)) (sym e))
  where
    by : Dec (length tower < level) → derive_in tower (variable level) ≡ value_at elements.ring (variable level) (derivative_of (kind_of tower level))
    by (yes past) = kind_is_past tower level past
    by (no k) = kind_is tower level (omega arith) h

-- the variable of each level has the rate of the level
is_rate : (tower : Tower) → IsTower tower → (height : ℕ) (rates : Rates (suc height)) → AreRatesOf tower (suc height) rates →
    IsRate (derivation_in tower) (valid_at height) (meaning_at height) rates.1 (variable height)
is_rate tower h height rates are = record { rate-valid = are.1; rate-means = level-has_rate tower h height rates.1.kind (meaning_at height rates.1.eta) are.2 }

-- ---- the levels
-- D of a fraction is 0
ground_derives : (tower : Tower) → Derives (derivation_in tower) IsLowest fraction_meaning (derive 0 tt)
ground_derives tower = record { derived-valid = derived-valid; derived-means = derived-means }
  where
    derived-valid : (e f : Fraction) → IsLowest e → derive 0 tt e ≡ Ok f → IsLowest f
    derived-valid e f v is = let zero_is : ground.zero ≡ f = cc in subst IsLowest zero_is ground_means.zero-valid

    derived-means : (e f : Fraction) → IsLowest e → derive 0 tt e ≡ Ok f → fraction_meaning f ≡ derive_in tower (fraction_meaning e)
    derived-means e f v is =
        let zero_is : ground.zero ≡ f = cc in
        ap fraction_meaning (sym zero_is) ∙ ground_means.zero-means ∙ sym (derive-rational (derivatives tower) (fraction_meaning e) (fraction-rational e v))

pub derive-derives : (tower : Tower) → IsTower tower → (height : ℕ) (rates : Rates height) → AreRatesOf tower height rates →
    Derives (derivation_in tower) (valid_at height) (meaning_at height) (derive height rates)
derive-derives tower h zero rates are = ground_derives tower
derive-derives tower h (suc height) rates are =
    let below = derive-derives tower h height rates.0 are.0 in
    let rate = is_rate tower h height rates are in
    record {
      derived-valid = λ e f v is. (derive_over-means (level_below height) below rate e f v is).is_valid;
      derived-means = λ e f v is. (derive_over-means (level_below height) below rate e f v is).means;
    }

-- ⟦f⟧ = D⟦e⟧
pub derive-means : (tower : Tower) → IsTower tower → (height : ℕ) (rates : Rates height) → AreRatesOf tower height rates →
    (e f : Field height) → valid_at height e → derive height rates e ≡ Ok f → valid_at height f × (meaning_at height f ≡ derive_in tower (meaning_at height e))
derive-means tower h height rates are e f v is =
    let d = derive-derives tower h height rates are in
    (d.derived-valid e f v is, d.derived-means e f v is)

-- ---- the rates of the monomials
module _ (tower : Tower) (h : IsTower tower) (height : ℕ) (rates : Rates height) (are : AreRatesOf tower height rates) (a : Field height) (v : valid_at height a) where
  -- eta = Da for t = exp a
  pub exponential-kind : (η : Field height) → derive height rates a ≡ Ok η →
      valid_at height η × (kind_with Exponential (meaning_at height η) ≡ kind_by tower (exp (meaning_at height a)))
  exponential-kind η e =
      let d = derive-means tower h height rates are a η v e in
      (d.0, ap towers.exponential d.1)

  -- eta = Da/a for t = log a
  pub logarithm-kind : (d η : Field height) → derive height rates a ≡ Ok d → (field height).is_zero a ≡ false → (field height).quotient d a ≡ Ok η →
      valid_at height η × (kind_with Primitive (meaning_at height η) ≡ kind_by tower (log (meaning_at height a)))
  logarithm-kind d η e some f =
      let s = derive-means tower h height rates are a d v e in
      let q = (level_means height).quotient-means d a η s.0 v some f in
      ((level_means height).quotient-valid d a η s.0 v some f, ap towers.primitive (by (meaning_at height η) (meaning_at height a) (derive_in tower (meaning_at height a)) not_zero (q ∙ s.1)))
    where
      not_zero : ¬ (meaning_at height a ≡ Element.zero)
      not_zero z = let is : (field height).is_zero a ≡ true = (level_means height).zero_if a v z in cc

      by : (x y z : Element) → ¬ (y ≡ Element.zero) → mul x y ≡ z → x ≡ Element.over z y
      by x y z n e = mul_cancel x (Element.over z y) y n (e ∙ sym (over-mul z y n))
