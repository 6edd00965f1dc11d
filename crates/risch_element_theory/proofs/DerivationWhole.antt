-- The rates of a tower in a field of some height, and those of the tower with one monomial more; the levels past the end of the tower have the rate of a constant.
--     rates-adjoined      those after the rate of the new level is adjoined
--     exponential-rate, logarithm-rate      the rates that the rule forms for exp a and for log a
use Rattle.std.specs.Prelude.{nat_eq, if◌then◌else◌}
use Rattle.std.proofs.Common.{◌≡◌, ℕ, zero, suc, ◌+◌, ◌-◌, ◌<◌, ◌≤◌, Bool, true, false, [], ◌∷◌, ◌++◌, Ok, length, refl, sym, ◌∙◌, ap, arith, eqb-true}
use Rattle.std.proofs.lemmas.Bool.{eqb-false}
use Rattle.risch_mean.specs.Tower.{Tower, Monomial, log, exp, argument, IsTower, InTower, kind_by, kind_of}
use Rattle.risch_mean.proofs.LongerTowers.{kind-kept, kind-added}
use Rattle.risch_level.specs.Levels.{Field, field}
use Rattle.risch_level.specs.Tower.{lowered_element}
use Rattle.risch_level.specs.declared.over.Over.TheVariants.{Below, Quotient}
use Rattle.risch_derivation.specs.Derivation.{Rates, derive}
use Rattle.risch_derivation.specs.Rates.{adjoined, lowered_rate}
use Rattle.risch_derivation.specs.declared.rate.Kind.TheVariants.{Primitive, Exponential}
use Rattle.risch_derivation.specs.declared.rate.Rate.{Rate}
use Rattle.risch_element_theory.specs.DerivationMeaning.{kind_with, AreRatesOf}
use Rattle.risch_element_theory.specs.LevelMeaning.{valid_at, meaning_at}
use Rattle.risch_element_theory.specs.WholeTower.{WithinAt}
use Rattle.risch_element_theory.proofs.DerivationTower.{exponential-kind, logarithm-kind}
use Rattle.risch_element_theory.proofs.DerivationWithin.{derive-within}
use Rattle.risch_element_theory.proofs.ElementWithin.{quotient-within}

-- the rate is that of the monomial m above the tower, and its η lies in the tower
pub record IsRateOf (tower : Tower) (m : Monomial) (height : ℕ) (rate : Rate (Field height)) : Type 0 where
  pub rate-valid : valid_at height rate.eta
  pub rate-within : WithinAt height (suc (length tower)) rate.eta
  pub rate-kind : kind_with rate.kind (meaning_at height rate.eta) ≡ kind_by tower m

-- ---- an element in which the highest variable does not occur, as one of the field below
lowered-valid : (height n : ℕ) (e : Field (suc height)) → n ≤ height → WithinAt (suc height) n e → valid_at (suc height) e → valid_at height (lowered_element (field height) e)
lowered-valid height n (Below e) l w v = v
lowered-valid height n (Quotient r) l w v = absurd (omega arith)

lowered-within : (height n : ℕ) (e : Field (suc height)) → n ≤ height → WithinAt (suc height) n e → WithinAt height n (lowered_element (field height) e)
lowered-within height n (Below e) l w = w
lowered-within height n (Quotient r) l w = absurd (omega arith)

lowered-means : (height n : ℕ) (e : Field (suc height)) → n ≤ height → WithinAt (suc height) n e → meaning_at height (lowered_element (field height) e) ≡ meaning_at (suc height) e
lowered-means height n (Below e) l w = refl
lowered-means height n (Quotient r) l w = absurd (omega arith)

lowered-rate : (tower : Tower) (m : Monomial) (height : ℕ) (rate : Rate (Field (suc height))) → suc (length tower) ≤ height → IsRateOf tower m (suc height) rate →
    IsRateOf tower m height (lowered_rate (field height) rate)
lowered-rate tower m height rate l is = record {
  rate-valid = lowered-valid height (suc (length tower)) rate.eta l is.rate-within is.rate-valid;
  rate-within = lowered-within height (suc (length tower)) rate.eta l is.rate-within;
  rate-kind = ap (kind_with rate.kind) (lowered-means height (suc (length tower)) rate.eta l is.rate-within) ∙ is.rate-kind;
}

-- ---- the tower with the monomial m
-- the levels below the new one keep their rates
rates-kept : (tower : Tower) (m : Monomial) → IsTower tower → (height : ℕ) (rates : Rates height) → height ≤ suc (length tower) → AreRatesOf tower height rates → AreRatesOf (tower ++ m ∷ []) height rates
rates-kept tower m h zero rates l are = tt
rates-kept tower m h (suc height) rates l are =
    (rates-kept tower m h height rates.0 (omega arith) are.0, are.1, are.2 ∙ sym (kind-kept tower m height h (λ e. omega arith)))

pub rates-adjoined : (tower : Tower) (m : Monomial) → IsTower tower → InTower tower (argument m) → (height : ℕ) (rates : Rates height) (down : ℕ) (rate : Rate (Field height)) →
    height ≡ suc (suc (length tower)) + down → IsRateOf tower m height rate → AreRatesOf tower height rates → AreRatesOf (tower ++ m ∷ []) height (adjoined height rates down rate)
rates-adjoined tower m h k zero rates down rate at new are = absurd (omega arith)
rates-adjoined tower m h k (suc height) rates down rate at new are =
    by (λ (some : 0 < down). rates-adjoined tower m h k height rates.0 (down - 1) (lowered_rate (field height) rate) (omega arith) l are.0) (nat_eq down 0) refl
  where
    l : IsRateOf tower m height (lowered_rate (field height) rate)
    l = lowered-rate tower m height rate (omega arith) new

    by : (0 < down → AreRatesOf (tower ++ m ∷ []) height (adjoined height rates.0 (down - 1) (lowered_rate (field height) rate))) → (here : Bool) → nat_eq down 0 ≡ here →
        AreRatesOf (tower ++ m ∷ []) (suc height) (if here then (rates.0, lowered_rate (field height) rate) else (adjoined height rates.0 (down - 1) (lowered_rate (field height) rate), rates.1))
    by lower true e =
        let none = eqb-true down 0 e in
        let is : suc (length tower) ≡ height = omega arith in
        (rates-kept tower m h height rates.0 (omega arith) are.0, l.rate-valid, l.rate-kind ∙ sym (kind-added tower m k) ∙ ap (kind_of (tower ++ m ∷ [])) is)
    by lower false e =
        let some = eqb-false down 0 e in
        (lower (omega arith), are.1, are.2 ∙ sym (kind-kept tower m height h (λ f. omega arith)))

-- ---- what the rule forms
module _ (tower : Tower) (h : IsTower tower) (height : ℕ) (rates : Rates height) (are : AreRatesOf tower height rates) (a : Field height) (v : valid_at height a) (w : WithinAt height (suc (length tower)) a) where
  -- Da, where t = exp a
  pub exponential-rate : (d : Field height) → derive height rates a ≡ Ok d → IsRateOf tower (exp (meaning_at height a)) height (record { kind = Exponential; eta = d })
  exponential-rate d e =
      let k = exponential-kind tower h height rates are a v d e in
      record { rate-valid = k.0; rate-within = derive-within height (suc (length tower)) rates a d w e; rate-kind = k.1 }

  -- Da/a, where t = log a
  pub logarithm-rate : (d η : Field height) → derive height rates a ≡ Ok d → (field height).is_zero a ≡ false → (field height).quotient d a ≡ Ok η →
      IsRateOf tower (log (meaning_at height a)) height (record { kind = Primitive; eta = η })
  logarithm-rate d η e some f =
      let k = logarithm-kind tower h height rates are a v d η e some f in
      record {
        rate-valid = k.0;
        rate-within = quotient-within height (suc (length tower)) d a η (derive-within height (suc (length tower)) rates a d w e) w f;
        rate-kind = k.1;
      }
