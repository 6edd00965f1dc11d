-- The derivative of a polynomial over the elements of the whole tower, in the variable t of a level.
--     polynomial-derivative      it is a polynomial, and its value at t is D of the value of the polynomial
--     polynomial-derivative-within      it leads to no new variable
use Rattle.std.specs.Prelude.{if◌then◌else◌}
use Rattle.std.proofs.Common.{◌≡◌, ℕ, ◌+◌, Bool, true, false, List, [], ◌∷◌, ◌++◌, Ok, refl, arith, subst}
use Rattle.risch_ring.specs.Lists.{Each}
use Rattle.risch_mean.specs.Element.{variable}
use Rattle.risch_mean.specs.Tower.{Tower, IsTower, derive_in, kind_of}
use Rattle.risch_field.specs.Checked.{Checked, and_then}
use Rattle.risch_field.specs.Ops.{Ops}
use Rattle.risch_field.proofs.CheckedSteps.{and_then-ok}
use Rattle.risch_polynomial.specs.Poly as poly
use Rattle.risch_level.specs.Levels.{Element, element}
use Rattle.risch_derivation.specs.Derivation as rules
use Rattle.risch_derivation.specs.Derivation.{Rates}
use Rattle.risch_derivation.specs.declared.rate.Kind.{Kind}
use Rattle.risch_derivation.specs.declared.rate.Kind.TheVariants.{Primitive, Exponential}
use Rattle.risch_derivation.specs.declared.rate.Rate.{Rate}
use Rattle.risch_element_theory.specs.DerivationMeaning.{kind_with}
use Rattle.risch_element_theory.specs.ElementDerivation.{derive_element, AreElementRatesOf}
use Rattle.risch_element_theory.specs.WholeTower.{IsElement, IsPolynomial, meaning, value_of, Within, AllWithin}
use Rattle.risch_element_theory.proofs.CoefficientProperties as Properties
use Rattle.risch_element_theory.proofs.CoefficientProperties.{IsClosedUnder}
use Rattle.risch_element_theory.proofs.DerivationPolynomials as Polynomials
use Rattle.risch_element_theory.proofs.DerivationTower.{derive-derives, level-has_rate}
use Rattle.risch_element_theory.proofs.ElementDerivation.{derivative-within}
use Rattle.risch_element_theory.proofs.Levels.{level_means}
use Rattle.risch_element_theory.proofs.PolynomialsWithin.{within-closed}

-- r(t) = D(p(t))
pub polynomial-derivative : (tower : Tower) (rates : Rates 5) → IsTower tower → AreElementRatesOf tower rates →
    (level : ℕ) (rate : Rate Element) → IsElement rate.eta → kind_with rate.kind (meaning rate.eta) ≡ kind_of tower level →
    (p r : List Element) → IsPolynomial p → rules.derive_polynomial element (derive_element rates) rate p ≡ Ok r →
    IsPolynomial r × (value_of r (variable level) ≡ derive_in tower (value_of p (variable level)))
unfolding element IsElement meaning derive_element AreElementRatesOf
polynomial-derivative tower rates h are level rate v kind p r k e =
    let degree = k.degree_small in
    let g = Polynomials.derive_polynomial-means (level_means 5) (derive-derives tower h 5 rates are)
    (record { rate-valid = v; rate-means = level-has_rate tower h level rate.kind (meaning rate.eta) kind }) p r (omega arith) k.all_valid e in
    let is = Polynomials.derive_polynomial-polynomial element (derive_element rates) rate p r e in
    (record { all_valid = g.all_valid; ends_not_zero = is.ends_not_zero; degree_small = is.degree_small }, g.value_is)

-- ---- a property of elements that the operations and D keep
module _ {E : Type 0} {o : Ops E} {P : E → Type 0} (h : IsClosedUnder o P) (D : E → Checked E) (derived : (c d : E) → P c → D c ≡ Ok d → P d) (rate : Rate E) (rate_in : P rate.eta) where
  times_rate-keeps : (n : ℕ) (c d : E) → P c → rules.times_rate o rate n c ≡ Ok d → P d
  times_rate-keeps n c d v e = by_zero (o.is_zero c) e
    where
      by_zero : (z : Bool) → (if z then Ok o.zero else and_then (poly.multiple o n rate.eta) (λ m. o.product m c)) ≡ Ok d → P d
      by_zero true e = let is : o.zero ≡ d = cc in subst P is h.zero_in
      by_zero false e =
          let m = and_then-ok (poly.multiple o n rate.eta) (λ m. o.product m c) d e in
          h.product_in m.value c d (Properties.multiple-keeps h n rate.eta m.value rate_in m.is) v m.next

  variable_term-keeps : (k : Kind) (j : ℕ) (c : E) (after : List E) (d : E) → P c → Each P after → rules.variable_term o rate k j c after ≡ Ok d → P d
  variable_term-keeps Primitive j c after d v all e = times_rate-keeps (j + 1) (poly.coefficient o after 0) d (Properties.coefficient-keeps h after 0 all) e
  variable_term-keeps Exponential j c after d v all e = times_rate-keeps j c d v e

  coefficient_derivative-keeps : (j : ℕ) (c : E) (after : List E) (s : E) → P c → Each P after → rules.coefficient_derivative o D rate j c after ≡ Ok s → P s
  coefficient_derivative-keeps j c after s v all e =
      let d = and_then-ok (D c) (λ d. and_then (rules.variable_term o rate rate.kind j c after) (λ f. o.sum d f)) s e in
      let f = and_then-ok (rules.variable_term o rate rate.kind j c after) (λ f. o.sum d.value f) s d.next in
      h.sum_in d.value f.value s (derived c d.value v d.is) (variable_term-keeps rate.kind j c after f.value v all f.is) f.next

  derivatives_onto-keeps : (formed : List E) (j : ℕ) (p r : List E) → Each P formed → Each P p → rules.derivatives_onto o D rate formed j p ≡ Ok r → Each P r
  derivatives_onto-keeps formed j [] r before all e = let is : formed ≡ r = cc in subst (Each P) is before
  derivatives_onto-keeps formed j (c ∷ p) r before all e =
      let d = and_then-ok (rules.coefficient_derivative o D rate j c p) (λ d. rules.derivatives_onto o D rate (formed ++ d ∷ []) (j + 1) p) r e in
      derivatives_onto-keeps (formed ++ d.value ∷ []) (j + 1) p r (Properties.push-keeps h formed d.value before (coefficient_derivative-keeps j c p d.value all.0 all.1 d.is)) all.1 d.next

  derive_polynomial-keeps : (p r : List E) → Each P p → rules.derive_polynomial o D rate p ≡ Ok r → Each P r
  unfolding rules.derive_polynomial
  derive_polynomial-keeps p r all e =
      let s = and_then-ok (rules.derivatives_onto o D rate [] 0 p) (λ s. poly.sized o (poly.trimmed o s)) r e in
      Properties.formed-keeps h s.value r (derivatives_onto-keeps [] 0 p s.value tt all s.is) s.next

pub polynomial-derivative-within : (rates : Rates 5) (n : ℕ) (rate : Rate Element) (p r : List Element) → Within n rate.eta → AllWithin n p →
    rules.derive_polynomial element (derive_element rates) rate p ≡ Ok r → AllWithin n r
polynomial-derivative-within rates n rate p r v all e =
    derive_polynomial-keeps (within-closed n) (derive_element rates) (λ c d w is. derivative-within rates n c d w is) rate v p r all e
