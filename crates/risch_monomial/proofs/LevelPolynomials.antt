-- Polynomials in the variable t of a level with coefficients in the field below it: they are determined by their value at t, the derivation of K[t] keeps them, and its values are those of the derivation of the tower.
--     same-of_values      p(t) = q(t) gives p = q
--     at-derivative      (Dp)(t) = D(p(t))
--     Over-derivative      the derivation keeps the field of the coefficients
--     derivative-stands      a list of coefficients whose value at t is D(p(t)) stands for Dp
use Rattle.std.proofs.Common.{◌≡◌, ℕ, zero, suc, ◌≤◌, List, [], ◌∷◌, length, get_or, map, sym, ◌∙◌, ap, ap₂, arith, subst}
use Rattle.risch_ring.specs.CommRing.{CommRing, of_nat}
use Rattle.risch_ring.specs.Lists.{Each}
use Rattle.risch_ring.proofs.Laws as Laws
use Rattle.risch_ring.proofs.Derivations as Derivations
use Rattle.risch_univariate.specs.Polynomial.{Polynomial, constant, variable as variableₚ, coefficient, of_list}
use Rattle.risch_univariate.specs.PolynomialRing.{polynomials, horner}
use Rattle.risch_univariate.proofs.Derivation as PolynomialDerivation
use Rattle.risch_univariate.proofs.Evaluation as Evaluation
use Rattle.risch_univariate.proofs.FormalDerivative as FormalDerivative
use Rattle.risch_univariate.proofs.PolynomialInduction.{polynomial_induction}
use Rattle.risch_ring.proofs.RingMaps.{identity_map}
use Rattle.risch_mean.specs.Element as mean
use Rattle.risch_mean.specs.Element.{InField, variable, ◌+ₑ◌, ◌*ₑ◌}
use Rattle.risch_mean.specs.ElementField.{elements}
use Rattle.risch_mean.specs.Univariate.{value_at}
use Rattle.risch_mean.specs.Tower as towers
use Rattle.risch_mean.specs.Tower.{Tower, IsTower, derive_in, kind_of, derivative_of, primitive, exponential}
use Rattle.risch_mean.proofs.FieldClosure as FieldClosure
use Rattle.risch_mean.proofs.Levels.{InField-derive_in}
use Rattle.risch_mean.proofs.LevelKinds.{kind_is}
use Rattle.risch_level.specs.Levels.{Element}
use Rattle.risch_derivation.specs.declared.rate.Kind.{Kind}
use Rattle.risch_derivation.specs.declared.rate.Kind.TheVariants.{Primitive, Exponential}
use Rattle.risch_polynomial_theory.specs.Meaning.{AllValid}
use Rattle.risch_element_theory.specs.ElementMeaning.{IsClosed, IsTranscendental}
use Rattle.risch_element_theory.specs.DerivationMeaning.{kind_with}
use Rattle.risch_element_theory.specs.PolynomialMeaning.{polynomial_of}
use Rattle.risch_element_theory.specs.WholeTower.{IsElement, IsPolynomial, meaning, polynomial, value_of, AllWithin}
use Rattle.risch_element_theory.proofs.DerivationTower.{derivation_in}
use Rattle.risch_element_theory.proofs.ElementDerivation.{element-lies}
use Rattle.risch_element_theory.proofs.ElementsTranscendence as Transcendence
use Rattle.risch_element_theory.proofs.Levels.{level_below}
use Rattle.risch_tower.specs.declared.level.Level.{Level}
use Rattle.risch_tower.specs.Tower.{rate_at}
use Rattle.risch_tower.specs.TowerMeaning.{monomials}
use Rattle.risch_tower.proofs.TowerLevels.{length-monomials}
use Rattle.risch_monomial.specs.LevelDerivation.{derivative_of_variable, level_derivation}
use Rattle.risch_monomial.specs.LevelDerivation.{IsLevelOf}
pub use Rattle.risch_monomial.specs.LevelElements.{at}

abbrev R : CommRing (Polynomial elements)
R = polynomials elements

-- ---- the field below the level
abbrev closed : (level : ℕ) → IsClosed elements (InField level)
closed level = (level_below level).is_closed

transcendental : (level : ℕ) → IsTranscendental elements (InField level) (variable level)
transcendental level = (level_below level).transcendental

-- the coefficients lie there
abbrev pub Over : ℕ → Polynomial elements → Type 0
Over level p = Transcendence.Over elements (InField level) (closed level) p

-- p(t) = q(t) gives p = q
pub same-of_values : (level : ℕ) (p q : Polynomial elements) → Over level p → Over level q → at level p ≡ at level q → p ≡ q
same-of_values level p q over_p over_q e = Transcendence.same_of_value elements (InField level) (closed level) (variable level) (transcendental level) p q over_p over_q e

pub Over-add : (level : ℕ) (p q : Polynomial elements) → Over level p → Over level q → Over level (R.add p q)
Over-add level p q over_p over_q = Transcendence.Over-add elements (InField level) (closed level) p q over_p over_q

pub Over-mul : (level : ℕ) (p q : Polynomial elements) → Over level p → Over level q → Over level (R.mul p q)
Over-mul level p q over_p over_q = Transcendence.Over-mul elements (InField level) (closed level) p q over_p over_q

Over-of_list : (level : ℕ) (p : List mean.Element) → Each (InField level) p → Over level (of_list elements p)
Over-of_list level p all = Transcendence.Over-of_list elements (InField level) (closed level) p all

pub Over-constant : (level : ℕ) (c : mean.Element) → InField level c → Over level (constant elements c)
unfolding constant
Over-constant level c lies = Over-of_list level (c ∷ []) (lies, tt)

pub Over-variable : (level : ℕ) → Over level (variableₚ elements)
unfolding variableₚ
Over-variable level = Over-of_list level (mean.zero ∷ mean.one ∷ []) (FieldClosure.InField-zero level, (FieldClosure.InField-one level, tt))

-- ---- lists of coefficients below the level
each-lies : (level : ℕ) (p : List Element) → AllValid IsElement p → AllWithin level p → Each (InField level) (map meaning p)
each-lies level [] all within = tt
each-lies level (c ∷ p) all within = (element-lies level c all.0 within.0, each-lies level p all.1 within.1)

pub Over-polynomial : (level : ℕ) (p : List Element) → IsPolynomial p → AllWithin level p → Over level (polynomial p)
unfolding polynomial_of
Over-polynomial level p k within = Over-of_list level (map meaning p) (each-lies level p k.all_valid within)

-- ⟦p⟧(t) = p(t)
pub at-polynomial : (level : ℕ) (p : List Element) → at level (polynomial p) ≡ value_of p (variable level)
unfolding polynomial_of
at-polynomial level p = Transcendence.at-of_list elements (variable level) (map meaning p)

-- ---- coefficient by coefficient
item-lies : (level : ℕ) (p : List mean.Element) (i : ℕ) → Each (InField level) p → InField level (get_or p i mean.zero)
item-lies level [] i all = FieldClosure.InField-zero level
item-lies level (c ∷ p) zero all = all.0
item-lies level (c ∷ p) (suc i) all = item-lies level p i all.1

each-of_items : (level : ℕ) (p : List mean.Element) → ((i : ℕ) → InField level (get_or p i mean.zero)) → Each (InField level) p
each-of_items level [] h = tt
each-of_items level (c ∷ p) h = (h zero, each-of_items level p (λ i. h (suc i)))

coefficient-lies : (level : ℕ) (p : Polynomial elements) (i : ℕ) → Over level p → InField level (coefficient elements p i)
unfolding coefficient
coefficient-lies level p i over = item-lies level p.coefficients i over

Over-of_coefficients : (level : ℕ) (p : Polynomial elements) → ((i : ℕ) → InField level (coefficient elements p i)) → Over level p
unfolding coefficient
Over-of_coefficients level p h = each-of_items level p.coefficients h

number-lies : (level n : ℕ) → InField level (of_nat elements.ring n)
unfolding of_nat
number-lies level zero = FieldClosure.InField-zero level
number-lies level (suc n) = FieldClosure.InField-add level mean.one (of_nat elements.ring n) (FieldClosure.InField-one level) (number-lies level n)

-- ∂p
Over-formal : (level : ℕ) (p : Polynomial elements) → Over level p → Over level (FormalDerivative.formal_derivative elements p)
Over-formal level p over = Over-of_coefficients level (FormalDerivative.formal_derivative elements p) (λ i.
    subst (InField level) (sym (FormalDerivative.coefficient-formal_derivative elements p i))
    (FieldClosure.InField-mul level (of_nat elements.ring (suc i)) (coefficient elements p (suc i)) (number-lies level (suc i)) (coefficient-lies level p (suc i) over)))

-- D of each coefficient
Over-coefficientwise : (tower : Tower) (level : ℕ) (p : Polynomial elements) → IsTower tower → Over level p → Over level (FormalDerivative.coefficientwise elements (derivation_in tower) p)
Over-coefficientwise tower level p h over = Over-of_coefficients level (FormalDerivative.coefficientwise elements (derivation_in tower) p) (λ i.
    subst (InField level) (sym (FormalDerivative.coefficient-coefficientwise elements (derivation_in tower) p i))
    (InField-derive_in tower level (coefficient elements p i) h (coefficient-lies level p i over)))

-- ---- the derivation of K[t]
-- Dp
abbrev pub derivative : List Level → ℕ → Polynomial elements → Polynomial elements
derivative tower level p = (level_derivation (monomials tower) level).derive p

-- Dt has its coefficients below the level
Over-kind : (level : ℕ) (kind : Kind) (η : mean.Element) → InField level η → Over level (derivative_of_variable (kind_with kind η))
Over-kind level Primitive η lies = Over-constant level η lies
Over-kind level Exponential η lies = Over-mul level (constant elements η) (variableₚ elements) (Over-constant level η lies) (Over-variable level)

pub Over-derivative : (tower : List Level) (level : ℕ) (p : Polynomial elements) → IsLevelOf tower level → Over level p → Over level (derivative tower level p)
unfolding level_derivation
Over-derivative tower level p l over =
    let w : Polynomial elements = derivative_of_variable (kind_of (monomials tower) level) in
    let w_lies : Over level w = subst (λ k. Over level (derivative_of_variable k)) l.kind_is (Over-kind level (rate_at tower level).kind (meaning (rate_at tower level).eta) l.eta_lies) in
    subst (Over level) (sym (FormalDerivative.derive_polynomial-split elements (derivation_in (monomials tower)) w p))
    (Over-add level (FormalDerivative.coefficientwise elements (derivation_in (monomials tower)) p) (R.mul w (FormalDerivative.formal_derivative elements p))
    (Over-coefficientwise (monomials tower) level p l.is_tower over)
    (Over-mul level w (FormalDerivative.formal_derivative elements p) w_lies (Over-formal level p over)))

-- the value of Dt at t
at-kind : (level : ℕ) (kind : towers.Kind) → at level (derivative_of_variable kind) ≡ value_at elements.ring (variable level) (derivative_of kind)
at-kind level (primitive η) =
    Transcendence.at-constant elements (variable level) η
    ∙ sym (ap (λ v. η +ₑ v) (Laws.mul-zero elements.ring (variable level)) ∙ elements.ring.add-zero η)
at-kind level (exponential η) =
    let t = variable level in
    Transcendence.at-mul elements t (constant elements η) (variableₚ elements)
    ∙ ap₂ mean.mul (Transcendence.at-constant elements t η) (Evaluation.value-variable elements elements.ring (identity_map elements.ring) t)
    ∙ elements.ring.mul_comm η t ∙ ap (mean.mul t) (sym (ap (λ v. η +ₑ v) (Laws.mul-zero elements.ring t) ∙ elements.ring.add-zero η))
    ∙ sym (Laws.zero-add elements.ring (t *ₑ (η +ₑ t *ₑ mean.zero)))

module _ (tower : Tower) (level : ℕ) (h : IsTower tower) (there : level ≤ length tower) where
  abbrev D : Polynomial elements → Polynomial elements
  D p = (level_derivation tower level).derive p

  abbrev w : Polynomial elements
  w = derivative_of_variable (kind_of tower level)

  abbrev t : mean.Element
  t = variable level

  -- Dt is the value at t of the derivative of the variable
  derive-variable : derive_in tower t ≡ at level w
  derive-variable = kind_is tower level there h ∙ sym (at-kind level (kind_of tower level))

  -- (Dp)(t) = D(p(t))
  at-derive : (p : Polynomial elements) → at level (D p) ≡ derive_in tower (at level p)
  unfolding level_derivation
  at-derive = polynomial_induction elements (λ p. at level (D p) ≡ derive_in tower (at level p)) base step
    where
      base : at level (D R.zero) ≡ derive_in tower (at level R.zero)
      base =
          ap (at level) (PolynomialDerivation.derive_polynomial-zero elements (derivation_in tower) w)
          ∙ Evaluation.value-zero elements elements.ring (identity_map elements.ring) t
          ∙ sym (ap (derive_in tower) (Evaluation.value-zero elements elements.ring (identity_map elements.ring) t) ∙ Derivations.derive-zero (derivation_in tower))

      step : (a : mean.Element) (p : Polynomial elements) → at level (D p) ≡ derive_in tower (at level p) → at level (D (horner elements a p)) ≡ derive_in tower (at level (horner elements a p))
      step a p ih =
          ap (at level) (PolynomialDerivation.derive_polynomial-horner elements (derivation_in tower) w a p)
          ∙ Transcendence.at-add elements t (constant elements (derive_in tower a)) (R.add (R.mul w p) (R.mul (variableₚ elements) (D p)))
          ∙ ap₂ mean.add (Transcendence.at-constant elements t (derive_in tower a))
          (Transcendence.at-add elements t (R.mul w p) (R.mul (variableₚ elements) (D p))
          ∙ ap₂ mean.add (Transcendence.at-mul elements t w p ∙ ap (λ v. v *ₑ at level p) (sym derive-variable))
          (Evaluation.value-variable_mul elements elements.ring (identity_map elements.ring) t (D p) ∙ ap (mean.mul t) ih)
          ∙ sym ((derivation_in tower).derive-mul t (at level p)))
          ∙ sym (ap (derive_in tower) (Evaluation.value-horner elements elements.ring (identity_map elements.ring) t a p) ∙ (derivation_in tower).derive-add a (t *ₑ at level p))

pub at-derivative : (tower : List Level) (level : ℕ) (p : Polynomial elements) → IsLevelOf tower level → at level (derivative tower level p) ≡ derive_in (monomials tower) (at level p)
at-derivative tower level p l =
    let same = length-monomials tower in
    let there = l.there in
    at-derive (monomials tower) level l.is_tower (omega (arith, same, there)) p

-- r = Dp where r(t) = D(p(t))
pub derivative-stands : (tower : List Level) (level : ℕ) (p r : List Element) → IsLevelOf tower level → IsPolynomial p → AllWithin level p → IsPolynomial r → AllWithin level r →
    value_of r (variable level) ≡ derive_in (monomials tower) (value_of p (variable level)) → polynomial r ≡ derivative tower level (polynomial p)
derivative-stands tower level p r l kp wp kr wr e =
    same-of_values level (polynomial r) (derivative tower level (polynomial p)) (Over-polynomial level r kr wr) (Over-derivative tower level (polynomial p) l (Over-polynomial level p kp wp))
    (at-polynomial level r ∙ e ∙ sym (at-derivative tower level (polynomial p) l ∙ ap (derive_in (monomials tower)) (at-polynomial level p)))
