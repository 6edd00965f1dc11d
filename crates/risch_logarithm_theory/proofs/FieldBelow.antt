-- The laws of K[t] and K(t) for the field K of the elements below a level: what holds over all elements of polynomials with coefficients in K holds over K, and back; the values at t of fractions over K.
--     included-lift, lift-unique      the polynomial over K is the only one with these coefficients
--     lift-divides, lift-coprime, lift-monic, lift-size, lift-parts, lift-derivative, ..      the lift keeps what holds over all elements
--     evaluation_below-polynomial, -derive, -lies, -injective      p ↦ p(t), the derivative of the value, and where it lies
use Rattle.std.specs.Prelude.{◌≡◌, ℕ, suc, List, [], ◌∷◌, map}
use Rattle.std.proofs.Common.{refl, sym, ap, ap₂, subst, ◌∙◌, arith}
use mathlib.Core.Logic.{∥∥₁_prop, ∥∥₁_map, ∥∥₁_elim}
use Rattle.risch_ring.specs.CommRing.{RingMap, HasCharacteristicZero, quotient, sub}
use Rattle.risch_ring.specs.Lists.{Each}
use Rattle.risch_ring.proofs.RingMaps as RingMaps
use Rattle.risch_ring.proofs.RingMaps.{identity_map}
use Rattle.risch_univariate.specs.Polynomial.{Polynomial, of_list, coefficient, constant, variable as polynomial_variable}
use Rattle.risch_univariate.specs.PolynomialLaws.{of_list-coefficients}
use Rattle.risch_univariate.specs.PolynomialRing.{polynomials}
use Rattle.risch_univariate.specs.Degree.{size, IsMonic}
use Rattle.risch_univariate.specs.Division.{IsDivision, Divides, IsCoprime, IsSquareFree}
use Rattle.risch_univariate.specs.SquareFreeParts.{product_of_powers, AreParts}
use Rattle.risch_univariate.proofs.Derivation as PolynomialDerivation
use Rattle.risch_univariate.proofs.Derivation.{derive_polynomial}
use Rattle.risch_univariate.proofs.Evaluation as Evaluation
use Rattle.risch_univariate.proofs.FormalDerivative.{formal_derivative, coefficientwise}
use Rattle.risch_univariate.proofs.Gcd.{gcd}
use Rattle.risch_univariate.proofs.PolynomialInduction.{polynomial_induction}
use Rattle.risch_univariate.proofs.SquareFree.{coprime_of_square_free}
use Rattle.risch_fraction_field.specs.Fraction.{Fraction, Represents, of_polynomial, denominator-nonzero}
use Rattle.risch_fraction_field.specs.DifferentialField.{constant_fraction, constant_fraction-apply}
use Rattle.risch_fraction_field.specs.FractionField.{fractions}
use Rattle.risch_fraction_field.specs.Representation.{of_polynomial-nonzero}
use Rattle.risch_extension.specs.Extension.{Extension}
use Rattle.risch_extension.proofs.Extensions.{map-derive_polynomial, map-formal_derivative}
use Rattle.risch_extension.proofs.PolynomialMaps as Maps
use Rattle.risch_residue_theory.specs.Logarithm.{∂}
use Rattle.risch_mean.specs.Element as mean
use Rattle.risch_mean.specs.Element.{InField, variable}
use Rattle.risch_mean.specs.ElementField.{elements}
use Rattle.risch_mean.specs.Univariate.{value_at}
use Rattle.risch_mean.specs.Tower.{derive_in, kind_of}
use Rattle.risch_mean.proofs.FieldClosure as FieldClosure
use Rattle.risch_mean.proofs.Subfield.{Subfield, inclusion, lifted, subfield_derivation, sub_derive}
use Rattle.risch_derivation.specs.declared.rate.Kind.{Kind}
use Rattle.risch_derivation.specs.declared.rate.Kind.TheVariants.{Primitive, Exponential}
use Rattle.risch_element_theory.specs.DerivationMeaning.{kind_with}
use Rattle.risch_element_theory.proofs.DerivationTower.{derivation_in}
use Rattle.risch_element_theory.proofs.ElementsTranscendence as Transcendence
use Rattle.risch_tower.specs.declared.level.Level.{Level}
use Rattle.risch_tower.specs.Tower.{rate_at}
use Rattle.risch_tower.specs.TowerMeaning.{monomials}
use Rattle.risch_monomial.specs.LevelDerivation.{IsLevelOf, level_derivation, derivative_of_variable}
use Rattle.risch_monomial.proofs.LevelPolynomials.{Over, at, at-derivative}
use Rattle.risch_monomial.proofs.MonicPolynomials.{elements_characteristic_zero}
use Rattle.risch_logarithm_theory.specs.FieldBelow.{below, included_polynomial, all_lie_below, lift, lift_all, value_below, derivative_with, derivation_below, variable_derivative}
use Rattle.risch_logarithm_theory.proofs.FractionEvaluation as FractionEvaluation
use Rattle.risch_logarithm_theory.proofs.MappedPolynomials as Mapped
use Rattle.risch_logarithm_theory.proofs.TranscendenceBelow.{variable_transcendental}

-- no sum of ones is 0 in K
pub below-characteristic_zero : (level : ℕ) → HasCharacteristicZero (below level).ring
below-characteristic_zero level n e =
    elements_characteristic_zero n (sym (RingMaps.apply-of_nat (inclusion level) (suc n)) ∙ ap (inclusion level).apply e ∙ RingMaps.apply-zero (inclusion level))

-- a square-free polynomial of K[t] is coprime to its derivative
pub below-separable : (level : ℕ) (p : Polynomial (below level)) → ¬ (p ≡ (polynomials (below level)).zero) → IsSquareFree (below level) p → IsCoprime (below level) p (formal_derivative (below level) p)
below-separable level = coprime_of_square_free (below level) (below-characteristic_zero level)

module _ (level : ℕ) where
  abbrev m : Polynomial (below level) → Polynomial elements
  m = included_polynomial level

  -- K → elements
  pub inclusion-apply : (a : Subfield level) → (inclusion level).apply a ≡ a.included
  unfolding inclusion
  inclusion-apply a = refl

  -- p(t) over K is p(t) over all elements
  pub at-included : (p : Polynomial (below level)) → at level (included_polynomial level p) ≡ Evaluation.value (below level) elements.ring (inclusion level) (variable level) p
  at-included p = Maps.value-map_polynomial (below level) elements (inclusion level) (variable level) p

  -- ---- the lift of a polynomial whose coefficients lie in K
  -- its image is the polynomial
  pub included-lift : (p : Polynomial elements) (over : Over level p) → included_polynomial level (lift level p over) ≡ p
  unfolding lift inclusion
  included-lift p over =
      let ds = lifted level p.coefficients (all_lie_below level p.coefficients over) in
      Mapped.map-of_list (below level) elements (inclusion level) ds.0 ∙ ap (of_list elements) ds.1 ∙ of_list-coefficients elements p

  -- it is the only one
  pub lift-unique : (p : Polynomial elements) (over : Over level p) (q : Polynomial (below level)) → included_polynomial level q ≡ p → q ≡ lift level p over
  lift-unique p over q e = Mapped.map-injective (below level) elements (inclusion level) q (lift level p over) (e ∙ sym (included-lift p over))

  -- equal polynomials have equal lifts
  pub lift-same : (p q : Polynomial elements) (over_p : Over level p) (over_q : Over level q) → p ≡ q → lift level p over_p ≡ lift level q over_q
  lift-same p q over_p over_q e = lift-unique q over_q (lift level p over_p) (included-lift p over_p ∙ e)

  pub lift-nonzero : (p : Polynomial elements) (over : Over level p) → ¬ (p ≡ (polynomials elements).zero) → ¬ (lift level p over ≡ (polynomials (below level)).zero)
  lift-nonzero p over n z = n (sym (included-lift p over) ∙ ap m z ∙ Maps.map_polynomial-zero (below level) elements (inclusion level))

  pub lift-coefficient : (p : Polynomial elements) (over : Over level p) (i : ℕ) → (coefficient (below level) (lift level p over) i).included ≡ coefficient elements p i
  lift-coefficient p over i =
      sym (inclusion-apply (coefficient (below level) (lift level p over) i)) ∙ sym (Maps.coefficient-map_polynomial (below level) elements (inclusion level) (lift level p over) i)
      ∙ ap (λ q. coefficient elements q i) (included-lift p over)

  pub lift-size : (p : Polynomial elements) (over : Over level p) → size (below level) (lift level p over) ≡ size elements p
  lift-size p over = sym (Maps.size-map_polynomial (below level) elements (inclusion level) (lift level p over)) ∙ ap (size elements) (included-lift p over)

  pub lift-monic : (p : Polynomial elements) (over : Over level p) → IsMonic elements p → IsMonic (below level) (lift level p over)
  lift-monic p over h = Mapped.monic_of_map (below level) elements (inclusion level) (lift level p over) (subst (IsMonic elements) (sym (included-lift p over)) h)

  -- p | q over all elements gives p | q over K
  pub lift-divides : (p q : Polynomial elements) (over_p : Over level p) (over_q : Over level q) → Divides elements p q → Divides (below level) (lift level p over_p) (lift level q over_q)
  lift-divides p q over_p over_q h =
      Mapped.divides_of_map (below level) elements (inclusion level) (lift level p over_p) (lift level q over_q)
      (subst (λ x. Divides elements x (m (lift level q over_q))) (sym (included-lift p over_p)) (subst (Divides elements p) (sym (included-lift q over_q)) h))

  pub lift-coprime : (p q : Polynomial elements) (over_p : Over level p) (over_q : Over level q) → IsCoprime elements p q → IsCoprime (below level) (lift level p over_p) (lift level q over_q)
  lift-coprime p q over_p over_q h =
      Mapped.coprime_of_map (below level) elements (inclusion level) (lift level p over_p) (lift level q over_q)
      (subst (λ x. IsCoprime elements x (m (lift level q over_q))) (sym (included-lift p over_p)) (subst (IsCoprime elements p) (sym (included-lift q over_q)) h))

  -- the greatest common divisor over K is the one over all elements
  pub included-gcd : (p q : Polynomial elements) (over_p : Over level p) (over_q : Over level q) → included_polynomial level (gcd (below level) (lift level p over_p) (lift level q over_q)) ≡ gcd elements p q
  included-gcd p q over_p over_q =
      Mapped.gcd-map (below level) elements (inclusion level) (lift level p over_p) (lift level q over_q) ∙ ap₂ (gcd elements) (included-lift p over_p) (included-lift q over_q)

  pub lift-gcd : (p q : Polynomial elements) (over_p : Over level p) (over_q : Over level q) (over : Over level (gcd elements p q))
      → gcd (below level) (lift level p over_p) (lift level q over_q) ≡ lift level (gcd elements p q) over
  lift-gcd p q over_p over_q over = lift-unique (gcd elements p q) over (gcd (below level) (lift level p over_p) (lift level q over_q)) (included-gcd p q over_p over_q)

  pub lift-add : (p q : Polynomial elements) (over_p : Over level p) (over_q : Over level q) (over : Over level ((polynomials elements).add p q))
      → (polynomials (below level)).add (lift level p over_p) (lift level q over_q) ≡ lift level ((polynomials elements).add p q) over
  lift-add p q over_p over_q over =
      lift-unique ((polynomials elements).add p q) over ((polynomials (below level)).add (lift level p over_p) (lift level q over_q))
      (Maps.map_polynomial-add (below level) elements (inclusion level) (lift level p over_p) (lift level q over_q) ∙ ap₂ (polynomials elements).add (included-lift p over_p) (included-lift q over_q))

  pub lift-mul : (p q : Polynomial elements) (over_p : Over level p) (over_q : Over level q) (over : Over level ((polynomials elements).mul p q))
      → (polynomials (below level)).mul (lift level p over_p) (lift level q over_q) ≡ lift level ((polynomials elements).mul p q) over
  lift-mul p q over_p over_q over =
      lift-unique ((polynomials elements).mul p q) over ((polynomials (below level)).mul (lift level p over_p) (lift level q over_q))
      (Maps.map_polynomial-mul (below level) elements (inclusion level) (lift level p over_p) (lift level q over_q) ∙ ap₂ (polynomials elements).mul (included-lift p over_p) (included-lift q over_q))

  pub lift-sub : (p q : Polynomial elements) (over_p : Over level p) (over_q : Over level q) (over : Over level (sub (polynomials elements) p q))
      → sub (polynomials (below level)) (lift level p over_p) (lift level q over_q) ≡ lift level (sub (polynomials elements) p q) over
  lift-sub p q over_p over_q over =
      lift-unique (sub (polynomials elements) p q) over (sub (polynomials (below level)) (lift level p over_p) (lift level q over_q))
      (RingMaps.apply-sub (Mapped.polynomial_map (below level) elements (inclusion level)) (lift level p over_p) (lift level q over_q)
      ∙ ap₂ (sub (polynomials elements)) (included-lift p over_p) (included-lift q over_q))

  -- quotient and remainder
  pub lift-division : (p d q r : Polynomial elements) (over_p : Over level p) (over_d : Over level d) (over_q : Over level q) (over_r : Over level r) → IsDivision elements p d q r
      → IsDivision (below level) (lift level p over_p) (lift level d over_d) (lift level q over_q) (lift level r over_r)
  lift-division p d q r over_p over_d over_q over_r h =
      Mapped.division_of_map (below level) elements (inclusion level) (lift level p over_p) (lift level d over_d) (lift level q over_q) (lift level r over_r)
      (record {
        equation =
            included-lift p over_p ∙ h.equation
            ∙ sym (ap₂ (polynomials elements).add (ap₂ (polynomials elements).mul (included-lift q over_q) (included-lift d over_d)) (included-lift r over_r));
        smaller =
            let a = ap (size elements) (included-lift r over_r) in
            let b = ap (size elements) (included-lift d over_d) in
            let l = h.smaller in omega (arith, a, b, l);
      })

  -- ∂p
  pub lift-formal_derivative : (p : Polynomial elements) (over_p : Over level p) (over : Over level (formal_derivative elements p))
      → formal_derivative (below level) (lift level p over_p) ≡ lift level (formal_derivative elements p) over
  lift-formal_derivative p over_p over =
      lift-unique (formal_derivative elements p) over (formal_derivative (below level) (lift level p over_p))
      (map-formal_derivative (below level) elements (inclusion level) (lift level p over_p) ∙ ap (formal_derivative elements) (included-lift p over_p))

  -- ---- square-free parts
  pub lift-square_free : (p : Polynomial elements) (over : Over level p) → IsSquareFree elements p → IsSquareFree (below level) (lift level p over)
  lift-square_free p over h = Mapped.square_free_of_map (below level) elements (inclusion level) (lift level p over) (subst (IsSquareFree elements) (sym (included-lift p over)) h)

  -- the images of the lifts
  pub included-lift_all : (ps : List (Polynomial elements)) (h : Each (Over level) ps) → map (included_polynomial level) (lift_all level ps h) ≡ ps
  included-lift_all [] h = refl
  included-lift_all (p ∷ ps) h = ap₂ ◌∷◌ (included-lift p h.0) (included-lift_all ps h.1)

  -- square-free parts over all elements are square-free parts over K
  pub lift-are_parts : (ps : List (Polynomial elements)) (h : Each (Over level) ps) → AreParts elements ps → AreParts (below level) (lift_all level ps h)
  lift-are_parts ps h k = Mapped.are_parts_of_map (below level) elements (inclusion level) (lift_all level ps h) (subst (AreParts elements) (sym (included-lift_all ps h)) k)

  -- and so is their product
  pub lift-product_of_powers : (p : Polynomial elements) (over : Over level p) (i : ℕ) (ps : List (Polynomial elements)) (h : Each (Over level) ps) → p ≡ product_of_powers elements i ps
      → lift level p over ≡ product_of_powers (below level) i (lift_all level ps h)
  lift-product_of_powers p over i ps h e =
      sym (lift-unique p over (product_of_powers (below level) i (lift_all level ps h))
      (Mapped.product_of_powers-map (below level) elements (inclusion level) i (lift_all level ps h) ∙ ap (product_of_powers elements i) (included-lift_all ps h) ∙ sym e))

  -- ---- values at t
  -- K(t) → elements, p/q ↦ p(t)/q(t)
  abbrev pub evaluation_below : RingMap (fractions (below level)).ring elements.ring
  evaluation_below = FractionEvaluation.evaluation (below level) elements (inclusion level) (variable level) (variable_transcendental level)

  -- p is mapped to p(t)
  pub evaluation_below-polynomial : (p : Polynomial (below level)) → evaluation_below.apply (of_polynomial (below level) p) ≡ at level (included_polynomial level p)
  evaluation_below-polynomial p = FractionEvaluation.evaluation-polynomial (below level) elements (inclusion level) (variable level) (variable_transcendental level) p ∙ sym (at-included p)

  -- f = p/q is mapped to p(t)/q(t)
  pub represents-evaluation_below : (f : Fraction (below level)) (p q : Polynomial (below level)) → ¬ (q ≡ (polynomials (below level)).zero) → Represents (below level) f p q
      → evaluation_below.apply f ≡ quotient elements (at level (included_polynomial level p)) (at level (included_polynomial level q))
  represents-evaluation_below f p q n h =
      FractionEvaluation.represents-evaluation (below level) elements (inclusion level) (variable level) (variable_transcendental level) f p q n h
      ∙ ap₂ (quotient elements) (sym (at-included p)) (sym (at-included q))

  -- the value of f is that of its numerator over that of its denominator
  pub evaluation_below-value : (f : Fraction (below level)) → evaluation_below.apply f ≡ value_below level f
  unfolding value_below
  evaluation_below-value f = represents-evaluation_below f f.numerator f.denominator (denominator-nonzero (below level) f) refl

  -- a in K is mapped to a
  pub evaluation_below-constant : (a : Subfield level) → evaluation_below.apply ((constant_fraction (below level)).apply a) ≡ (inclusion level).apply a
  evaluation_below-constant a =
      ap evaluation_below.apply (constant_fraction-apply (below level) a)
      ∙ FractionEvaluation.evaluation-polynomial (below level) elements (inclusion level) (variable level) (variable_transcendental level) (constant (below level) a)
      ∙ Evaluation.value-constant (below level) elements.ring (inclusion level) (variable level) a

  -- p/q is mapped to p(t)/q(t)
  pub evaluation_below-quotient : (p q : Polynomial (below level)) → ¬ (q ≡ (polynomials (below level)).zero)
      → evaluation_below.apply (quotient (fractions (below level)) (of_polynomial (below level) p) (of_polynomial (below level) q))
      ≡ quotient elements (at level (included_polynomial level p)) (at level (included_polynomial level q))
  evaluation_below-quotient p q n =
      RingMaps.apply-quotient (fractions (below level)) elements evaluation_below (of_polynomial (below level) p) (of_polynomial (below level) q) (of_polynomial-nonzero (below level) q n)
      ∙ ap₂ (quotient elements) (evaluation_below-polynomial p) (evaluation_below-polynomial q)

  -- it is injective
  pub evaluation_below-injective : (f g : Fraction (below level)) → evaluation_below.apply f ≡ evaluation_below.apply g → f ≡ g
  evaluation_below-injective = FractionEvaluation.evaluation-injective (below level) elements (inclusion level) (variable level) (variable_transcendental level)

  list-lies : (cs : List mean.Element) → Each (InField level) cs → InField (suc level) (value_at elements.ring (variable level) cs)
  list-lies [] h = FieldClosure.InField-zero (suc level)
  list-lies (c ∷ cs) h =
      FieldClosure.InField-add (suc level) c (mean.mul (variable level) (value_at elements.ring (variable level) cs))
      (FieldClosure.InField_more level (suc level) c (omega arith) h.0)
      (FieldClosure.InField-mul (suc level) (variable level) (value_at elements.ring (variable level) cs) (FieldClosure.InField-variable (suc level) level (omega arith)) (list-lies cs h.1))

  -- p(t) lies in the field of the level, for p over all elements with coefficients in K
  pub at-lies : (p : Polynomial elements) → Over level p → InField (suc level) (at level p)
  at-lies p over =
      subst (InField (suc level)) (sym (ap (at level) (sym (of_list-coefficients elements p)) ∙ Transcendence.at-of_list elements (variable level) p.coefficients)) (list-lies p.coefficients over)

  -- so does p(t)/q(t)
  pub at-quotient-lies : (p q : Polynomial elements) → Over level p → Over level q → InField (suc level) (quotient elements (at level p) (at level q))
  at-quotient-lies p q over_p over_q = FieldClosure.InField-over (suc level) (at level p) (at level q) (at-lies p over_p) (at-lies q over_q)

  -- p(t) lies in the field of the level, for p over K; which fraction shows it does not matter
  pub value-lies : (p : Polynomial (below level)) → ∥ InField (suc level) (Evaluation.value (below level) elements.ring (inclusion level) (variable level) p) ∥₁
  value-lies = polynomial_induction (below level) (λ p. ∥ InField (suc level) (v p) ∥₁)
      (∣ subst (InField (suc level)) (sym (Evaluation.value-zero (below level) elements.ring (inclusion level) (variable level))) (FieldClosure.InField-zero (suc level)) ∣₁)
      (λ a p ih. ∥∥₁_elim a.lies ∥∥₁_prop (λ la. ∥∥₁_map ih (λ lp.
      subst (InField (suc level)) (sym (Evaluation.value-horner (below level) elements.ring (inclusion level) (variable level) a p ∙ ap (λ x. mean.add x (mean.mul (variable level) (v p))) (inclusion-apply a)))
      (FieldClosure.InField-add (suc level) a.included (mean.mul (variable level) (v p))
      (FieldClosure.InField_more level (suc level) a.included (omega arith) la)
      (FieldClosure.InField-mul (suc level) (variable level) (v p) (FieldClosure.InField-variable (suc level) level (omega arith)) lp)))))
    where
      v : Polynomial (below level) → mean.Element
      v = Evaluation.value (below level) elements.ring (inclusion level) (variable level)

  -- p(t)/q(t) lies in the field of the level; which numerator and denominator show it does not matter
  pub evaluation_below-lies : (f : Fraction (below level)) → ∥ InField (suc level) (evaluation_below.apply f) ∥₁
  evaluation_below-lies f =
      let v = Evaluation.value (below level) elements.ring (inclusion level) (variable level) in
      let e = represents-evaluation_below f f.numerator f.denominator (denominator-nonzero (below level) f) refl
      ∙ ap₂ (quotient elements) (at-included f.numerator) (at-included f.denominator) in
      ∥∥₁_elim (value-lies f.numerator) ∥∥₁_prop (λ n. ∥∥₁_map (value-lies f.denominator) (λ d.
      subst (InField (suc level)) (sym e) (FieldClosure.InField-over (suc level) (v f.numerator) (v f.denominator) n d)))

-- ---- the derivation
-- the polynomial Dt over all elements
included-derivative_with : (level : ℕ) (kind : Kind) (η : Subfield level) → included_polynomial level (derivative_with (below level) kind η) ≡ derivative_of_variable (kind_with kind η.included)
included-derivative_with level Primitive η = Maps.map_polynomial-constant (below level) elements (inclusion level) η ∙ ap (constant elements) (inclusion-apply level η)
included-derivative_with level Exponential η =
    Maps.map_polynomial-mul (below level) elements (inclusion level) (constant (below level) η) (polynomial_variable (below level))
    ∙ ap₂ (polynomials elements).mul
    (Maps.map_polynomial-constant (below level) elements (inclusion level) η ∙ ap (constant elements) (inclusion-apply level η))
    (Maps.map_polynomial-variable (below level) elements (inclusion level))

module _ (tower : List Level) (level : ℕ) (l : IsLevelOf tower level) where
  pub included-variable_derivative : included_polynomial level (variable_derivative tower level l) ≡ derivative_of_variable (kind_of (monomials tower) level)
  included-variable_derivative = included-derivative_with level (rate_at tower level).kind _ ∙ ap derivative_of_variable l.kind_is

  -- D on K is that of the tower
  pub derivation_below-included : (a : Subfield level) → derive_in (monomials tower) ((inclusion level).apply a) ≡ (inclusion level).apply ((derivation_below tower level l).derive a)
  unfolding inclusion subfield_derivation sub_derive
  derivation_below-included a = refl

  -- the field of all elements above K, with the derivation of the tower
  abbrev pub elements_above : Extension (below level) (derivation_below tower level l)
  elements_above = record { carrier = mean.Element; field = elements; derivation = derivation_in (monomials tower); map = inclusion level; map-derive = derivation_below-included }

  -- Dp over all elements is Dp over K
  pub included-derivative : (p : Polynomial (below level))
      → included_polynomial level (derive_polynomial (below level) (derivation_below tower level l) (variable_derivative tower level l) p) ≡ (level_derivation (monomials tower) level).derive (included_polynomial level p)
  unfolding level_derivation
  included-derivative p =
      map-derive_polynomial (below level) (derivation_below tower level l) elements_above (variable_derivative tower level l) p
      ∙ ap (λ w. derive_polynomial elements (derivation_in (monomials tower)) w (included_polynomial level p)) included-variable_derivative

  -- D of the coefficients of p over all elements is that over K
  pub included-coefficientwise : (p : Polynomial (below level))
      → included_polynomial level (coefficientwise (below level) (derivation_below tower level l) p) ≡ coefficientwise elements (derivation_in (monomials tower)) (included_polynomial level p)
  included-coefficientwise p =
      map-derive_polynomial (below level) (derivation_below tower level l) elements_above (polynomials (below level)).zero p
      ∙ ap (λ w. derive_polynomial elements (derivation_in (monomials tower)) w (included_polynomial level p)) (Maps.map_polynomial-zero (below level) elements (inclusion level))

  -- constant coefficients are constant in K
  pub lift-constant : (p : Polynomial elements) (over : Over level p) → coefficientwise elements (derivation_in (monomials tower)) p ≡ (polynomials elements).zero
      → coefficientwise (below level) (derivation_below tower level l) (lift level p over) ≡ (polynomials (below level)).zero
  lift-constant p over e =
      Mapped.zero_of_map (below level) elements (inclusion level) (coefficientwise (below level) (derivation_below tower level l) (lift level p over))
      (included-coefficientwise (lift level p over) ∙ ap (coefficientwise elements (derivation_in (monomials tower))) (included-lift level p over) ∙ e)

  -- Dp
  pub lift-derivative : (p : Polynomial elements) (over_p : Over level p) (over : Over level ((level_derivation (monomials tower) level).derive p))
      → derive_polynomial (below level) (derivation_below tower level l) (variable_derivative tower level l) (lift level p over_p) ≡ lift level ((level_derivation (monomials tower) level).derive p) over
  lift-derivative p over_p over =
      lift-unique level ((level_derivation (monomials tower) level).derive p) over
      (derive_polynomial (below level) (derivation_below tower level l) (variable_derivative tower level l) (lift level p over_p))
      (included-derivative (lift level p over_p) ∙ ap (level_derivation (monomials tower) level).derive (included-lift level p over_p))

  -- Dt is the value at t of its polynomial
  variable-derived : derive_in (monomials tower) (variable level) ≡ Evaluation.value (below level) elements.ring (inclusion level) (variable level) (variable_derivative tower level l)
  unfolding level_derivation
  variable-derived =
      ap (derive_in (monomials tower)) (sym (Evaluation.value-variable elements elements.ring (identity_map elements.ring) (variable level)))
      ∙ sym (at-derivative tower level (polynomial_variable elements) l)
      ∙ ap (at level) (PolynomialDerivation.derive_polynomial-variable elements (derivation_in (monomials tower)) (derivative_of_variable (kind_of (monomials tower) level)) ∙ sym included-variable_derivative)
      ∙ at-included level (variable_derivative tower level l)

  -- the value of D(f) is the derivative of the value of f
  pub evaluation_below-derive : (f : Fraction (below level))
      → (evaluation_below level).apply ((∂ (below level) (derivation_below tower level l) (variable_derivative tower level l)).derive f) ≡ derive_in (monomials tower) ((evaluation_below level).apply f)
  evaluation_below-derive f =
      FractionEvaluation.evaluation-derive (below level) elements (inclusion level) (variable level) (variable_transcendental level) (derivation_below tower level l) (derivation_in (monomials tower))
      derivation_below-included (variable_derivative tower level l) variable-derived f
