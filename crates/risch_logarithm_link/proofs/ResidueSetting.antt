-- An element h = a/d of a level, proper and with a normal denominator, over the field K below the level: a, d and D(d) in K[t], and the characteristic polynomial of the residues with its square-free parts in K[z].
--     IsSetting      what is known of h
--     characteristic-stands      the characteristic polynomial and its parts
use Rattle.std.proofs.Common.{◌≡◌, refl, sym, ap, ap₂, ◌∙◌, ℕ, zero, suc, ◌+◌, ◌-◌, ◌≤◌, ◌<◌, List, [], ◌∷◌, length, get_or, map, All, Ok, arith, subst}
use Rattle.std.proofs.lemmas.List.Elements.{All-head, All-tail}
use Rattle.risch_ring.specs.CommRing.{CommRing, Field, RingMap, Derivation, sub}
use Rattle.risch_ring.specs.Lists.{Each}
use Rattle.risch_ring.proofs.RingMaps as RingMaps
use Rattle.risch_univariate.specs.Polynomial.{Polynomial, coefficient, constant, variable as polynomial_variable}
use Rattle.risch_univariate.specs.PolynomialLaws.{polynomial_ext}
use Rattle.risch_univariate.specs.PolynomialRing.{polynomials}
use Rattle.risch_univariate.specs.Degree.{size, IsMonic}
use Rattle.risch_univariate.specs.Division.{Divides, IsCoprime}
use Rattle.risch_univariate.specs.SquareFreeParts.{product_of_powers, AreParts}
use Rattle.risch_univariate.proofs.Coefficients.{coefficient-zero}
use Rattle.risch_univariate.proofs.Degree as Degree
use Rattle.risch_univariate.proofs.Derivation as PolynomialDerivation
use Rattle.risch_univariate.proofs.FormalDerivative.{coefficientwise, coefficient-coefficientwise}
use Rattle.risch_univariate.proofs.Gcd as Gcd
use Rattle.risch_extension.specs.NewtonPolynomial.{power_trace, IsNewtonPolynomial}
use Rattle.risch_residue_theory.proofs.LogarithmsOfTraces.{newton_polynomial-is_monic}
use Rattle.risch_residue_theory.proofs.RuleLogarithms.{size-derivative, size-multiple}
use Rattle.risch_mean.specs.Element as mean
use Rattle.risch_mean.specs.Element.{InField}
use Rattle.risch_mean.specs.ElementField.{elements}
use Rattle.risch_mean.specs.Tower.{Tower, derive_in, derivatives}
use Rattle.risch_mean.proofs.ConstantLaws.{ground_rational, derive-rational}
use Rattle.risch_mean.proofs.FieldClosure as FieldClosure
use Rattle.risch_mean.proofs.Subfield.{Subfield, inclusion}
use Rattle.risch_polynomial_theory.specs.Meaning.{AllValid}
use Rattle.risch_level.specs.Levels.{Element, element}
use Rattle.risch_derivation.specs.Derivation.{derive_polynomial}
use Rattle.risch_derivation.specs.declared.rate.Kind.{Kind}
use Rattle.risch_derivation.specs.declared.rate.Kind.TheVariants.{Primitive, Exponential}
use Rattle.risch_element_theory.specs.WholeTower.{IsElement, IsPolynomial, meaning, polynomial, Within, AllWithin}
use Rattle.risch_element_theory.proofs.DerivationTower.{derivation_in}
use Rattle.risch_element_theory.proofs.PartsLaws.{numerator-is_polynomial, denominator-is_polynomial, numerator-all_within, denominator-all_within}
use Rattle.risch_element_theory.proofs.PolynomialDerivation.{polynomial-derivative-within}
use Rattle.risch_tower.specs.declared.level.Level.{Level}
use Rattle.risch_tower.specs.Tower.{derivative, rate_at, rates_of}
use Rattle.risch_tower.specs.TowerMeaning.{monomials, AreTower}
use Rattle.risch_tower.proofs.PolynomialDerivatives.{derivative-at}
use Rattle.risch_monomial.specs.LevelDerivation.{IsLevelOf, level_derivation}
use Rattle.risch_monomial.specs.LevelElements.{numerator_at, denominator_at}
use Rattle.risch_monomial.proofs.LevelPolynomials.{Over, Over-polynomial, derivative-stands}
use Rattle.risch_monomial.proofs.LowestTerms.{denominator-monic}
use Rattle.risch_sub.specs.PowerTracesMeaning.{ArePowerTraces}
use Rattle.risch_sub.specs.SquareFree.{square_free_parts}
use Rattle.risch_sub.specs.SquareFreeMeaning.{AreSquareFreeParts}
use Rattle.risch_sub.proofs.SquareFreeRules.{square_free_parts-mean, square_free_parts-within}
use Rattle.risch_logarithm_theory.specs.FieldBelow.{below, included_polynomial, lift, lift_all, derivative_with, derivation_below, variable_derivative, eta_below}
use Rattle.risch_logarithm_theory.proofs.FieldBelow as Below
use Rattle.risch_logarithm_theory.proofs.MappedPolynomials as Mapped
use Rattle.risch_logarithm_rules.specs.Newton.{characteristic_polynomial}
use Rattle.risch_logarithm_link.proofs.NewtonCoefficients.{IsImage}
use Rattle.risch_logarithm_link.proofs.NewtonPolynomials.{HasNewtonPolynomial, newton-stands, traces-image, IsResidue, residue_below}
use Rattle.risch_logarithm_link.proofs.NewtonRules.{characteristic_polynomial-within, parts-within}
use Rattle.risch_logarithm_link.proofs.StandingLogarithms.{StandForParts}
use Rattle.risch_logarithm_link.proofs.StandingPolynomials as Standing
use Rattle.risch_logarithm_link.proofs.StandingPolynomials.{StandsFor}

-- a list with coefficients below the level stands for a polynomial over K
pub lift-stands : (level : ℕ) (p : List Element) (kept : IsPolynomial p) (within : AllWithin level p) → StandsFor (below level) (inclusion level) p (lift level (polynomial p) (Over-polynomial level p kept within))
lift-stands level p kept within = record { kept = kept; image = Below.included-lift level (polynomial p) (Over-polynomial level p kept within) }

-- the same of each list
pub over_all : (level : ℕ) (ps : List (List Element)) → All IsPolynomial ps → All (AllWithin level) ps → Each (Over level) (map polynomial ps)
over_all level [] kept within = tt
over_all level (p ∷ ps) kept within =
    (Over-polynomial level p (All-head IsPolynomial p ps kept) (All-head (AllWithin level) p ps within), over_all level ps (All-tail IsPolynomial p ps kept) (All-tail (AllWithin level) p ps within))

pub lift_all-stand : (level : ℕ) (ps : List (List Element)) (kept : All IsPolynomial ps) (rational : All (AllWithin 0) ps) (over : Each (Over level) (map polynomial ps))
    → StandForParts (below level) (inclusion level) ps (lift_all level (map polynomial ps) over)
lift_all-stand level [] kept rational over = tt
lift_all-stand level (p ∷ ps) kept rational over = (
  (record { kept = All-head IsPolynomial p ps kept; image = Below.included-lift level (polynomial p) over.0 }, All-head (AllWithin 0) p ps rational),
  lift_all-stand level ps (All-tail IsPolynomial p ps kept) (All-tail (AllWithin 0) p ps rational) over.1,
)

-- a polynomial over the fractions has constant coefficients
pub rational-constant : (tower : Tower) (p : List Element) → IsPolynomial p → AllWithin 0 p → coefficientwise elements (derivation_in tower) (polynomial p) ≡ (polynomials elements).zero
unfolding coefficient
rational-constant tower p kept within = polynomial_ext elements _ _ (λ i.
    coefficient-coefficientwise elements (derivation_in tower) (polynomial p) i
    ∙ derive-rational (derivatives tower) (coefficient elements (polynomial p) i) (ground_rational (coefficient elements (polynomial p) i) (item (polynomial p).coefficients i (Over-polynomial 0 p kept within)))
    ∙ sym (coefficient-zero elements i))
  where
    item : (cs : List mean.Element) (i : ℕ) → Each (InField 0) cs → InField 0 (get_or cs i mean.zero)
    item [] i all = FieldClosure.InField-zero 0
    item (c ∷ cs) zero all = all.0
    item (c ∷ cs) (suc i) all = item cs i all.1

-- Dt has degree at most 1
small_derivative : {A : Type 0} (F : Field A) (kind : Kind) (η : A) → size F (derivative_with F kind η) ≤ 2
small_derivative F Primitive η = let l = Degree.size-constant-le F η in omega (arith, l)
small_derivative F Exponential η = size-multiple F η

-- h lies in a level of the tower, is proper, and has a normal denominator
pub record IsSetting (tower : List Level) (level : ℕ) (h : Element) : Type 0 where
  pub are_tower : AreTower tower
  pub is_level : IsLevelOf tower level
  pub eta_normal : IsElement (rate_at tower level).eta
  pub eta_within : Within level (rate_at tower level).eta
  pub is_element : IsElement h
  pub within : Within (level + 1) h
  pub proper : length (numerator_at level h) < length (denominator_at level h)
  pub normal : IsCoprime elements (polynomial (denominator_at level h)) ((level_derivation (monomials tower) level).derive (polynomial (denominator_at level h)))

module _ (tower : List Level) (level : ℕ) (h : Element) (s : IsSetting tower level h) where
  abbrev pub K : Field (Subfield level)
  K = below level

  abbrev pub D : Derivation (below level).ring
  D = derivation_below tower level s.is_level

  abbrev pub w : Polynomial (below level)
  w = variable_derivative tower level s.is_level

  -- ---- a and d
  pub numerator_kept : IsPolynomial (numerator_at level h)
  numerator_kept = numerator-is_polynomial level h s.is_level.low s.is_element

  pub denominator_kept : IsPolynomial (denominator_at level h)
  denominator_kept = denominator-is_polynomial level h s.is_level.low s.is_element

  pub numerator_within : AllWithin level (numerator_at level h)
  numerator_within = numerator-all_within level h s.is_level.low s.is_element s.within

  pub denominator_within : AllWithin level (denominator_at level h)
  denominator_within = denominator-all_within level h s.is_level.low s.is_element s.within

  abbrev pub a : Polynomial (below level)
  a = lift level (polynomial (numerator_at level h)) (Over-polynomial level (numerator_at level h) numerator_kept numerator_within)

  abbrev pub d : Polynomial (below level)
  d = lift level (polynomial (denominator_at level h)) (Over-polynomial level (denominator_at level h) denominator_kept denominator_within)

  abbrev pub e : Polynomial (below level)
  e = PolynomialDerivation.derive_polynomial (below level) D w d

  pub stands_a : StandsFor (below level) (inclusion level) (numerator_at level h) a
  stands_a = lift-stands level (numerator_at level h) numerator_kept numerator_within

  pub stands_d : StandsFor (below level) (inclusion level) (denominator_at level h) d
  stands_d = lift-stands level (denominator_at level h) denominator_kept denominator_within

  pub monic_d : IsMonic (below level) d
  monic_d = Mapped.monic_of_map (below level) elements (inclusion level) d (subst (IsMonic elements) (sym stands_d.image) (denominator-monic level h s.is_level.low s.is_element))

  abbrev pub nonzero_d : ¬ (d ≡ (polynomials (below level)).zero)
  nonzero_d = Gcd.monic-nonzero (below level) d monic_d

  pub included_e : included_polynomial level e ≡ (level_derivation (monomials tower) level).derive (polynomial (denominator_at level h))
  included_e = Below.included-derivative tower level s.is_level d ∙ ap (level_derivation (monomials tower) level).derive stands_d.image

  pub coprime_d : IsCoprime (below level) d e
  coprime_d = Mapped.coprime_of_map (below level) elements (inclusion level) d e
      (subst (λ z. IsCoprime elements z (included_polynomial level e)) (sym stands_d.image) (subst (IsCoprime elements (polynomial (denominator_at level h))) (sym included_e) s.normal))

  pub smaller_a : size (below level) a < size (below level) d
  smaller_a =
      let u = Standing.stands-size (below level) (inclusion level) (numerator_at level h) a stands_a in
      let v = Standing.stands-size (below level) (inclusion level) (denominator_at level h) d stands_d in
      let p = s.proper in omega (arith, u, v, p)

  pub small_w : size (below level) w ≤ 2
  small_w = small_derivative (below level) (rate_at tower level).kind (eta_below tower level s.is_level)

  -- the rule of the derivative of d
  pub derived_d : (r : List Element) → derive_polynomial element (derivative tower) (rate_at tower level) (denominator_at level h) ≡ Ok r → StandsFor (below level) (inclusion level) r e
  derived_d r is =
      let at = derivative-at tower (rates_of tower) s.are_tower refl level (rate_at tower level) s.eta_normal s.is_level.kind_is (denominator_at level h) r denominator_kept is in
      let r_within = polynomial-derivative-within (rates_of tower) level (rate_at tower level) (denominator_at level h) r s.eta_within denominator_within is in
      record {
        kept = at.is_polynomial;
        image = included_e ∙ sym (derivative-stands tower level (denominator_at level h) r s.is_level denominator_kept denominator_within at.is_polynomial r_within at.stands);
      }

  -- ---- the characteristic polynomial of the residues and its parts
  -- ρ with ρ·D(d) = a modulo d, C by Newton's rule with constant coefficients, and its square-free parts, as lists and over K
  pub record HasCharacteristic (traces C : List Element) (parts : List (List Element)) : Type 0 where
    pub rho : Polynomial (below level)
    pub traces_are : (i : ℕ) → i < length traces → IsImage (below level) (inclusion level) (get_or traces i element.zero) (power_trace (below level) d nonzero_d rho (suc i))
    pub rho-equation : Divides (below level) d (sub (polynomials (below level)) ((polynomials (below level)).mul rho e) a)
    pub characteristic : Polynomial (below level)
    pub is_newton : IsNewtonPolynomial (below level) d nonzero_d rho characteristic
    pub is_constant : coefficientwise (below level) D characteristic ≡ (polynomials (below level)).zero
    pub parts_below : List (Polynomial (below level))
    pub stand : StandForParts (below level) (inclusion level) parts parts_below
    pub product : characteristic ≡ product_of_powers (below level) 1 parts_below
    pub are_parts : AreParts (below level) parts_below

  pub characteristic-stands : (rho traces C : List Element) (parts : List (List Element))
      → Divides elements (polynomial (denominator_at level h)) (sub (polynomials elements) ((polynomials elements).mul (polynomial rho) ((level_derivation (monomials tower) level).derive (polynomial (denominator_at level h)))) (polynomial (numerator_at level h)))
      → AllValid IsElement traces → AllWithin 0 traces → ArePowerTraces (denominator_at level h) rho traces → length traces ≡ length (denominator_at level h) - 1
      → characteristic_polynomial traces ≡ Ok C → square_free_parts C ≡ Ok parts → HasCharacteristic traces C parts
  characteristic-stands rho traces C parts given valid rational are count is_C is_parts = of_newton
      (newton-stands (below level) (inclusion level) (Below.below-characteristic_zero level) d nonzero_d ρ traces C (omega (arith, size_d, count, some)) (omega (arith, count, small)) images is_C)
    where
      ρ : Polynomial (below level)
      ρ = (polynomials (below level)).mul coprime_d.right a

      residue : IsResidue (below level) (inclusion level) (denominator_at level h) rho d a e ((polynomials (below level)).mul coprime_d.right a)
      residue = residue_below (below level) (inclusion level) (denominator_at level h) (numerator_at level h) rho d a e _ stands_d stands_a included_e coprime_d given

      images : (i : ℕ) → i < length traces → IsImage (below level) (inclusion level) (get_or traces i element.zero) (power_trace (below level) d nonzero_d ((polynomials (below level)).mul coprime_d.right a) (suc i))
      images = traces-image (below level) (inclusion level) (denominator_at level h) rho traces d ρ nonzero_d stands_d valid are count residue.congruent

      size_d : size (below level) d ≡ length (denominator_at level h)
      size_d = Standing.stands-size (below level) (inclusion level) (denominator_at level h) d stands_d

      some : 0 < length (denominator_at level h)
      some = let p = s.proper in omega (arith, p)

      small : length (denominator_at level h) ≤ 256
      small = denominator_kept.degree_small

      of_newton : HasNewtonPolynomial (below level) (inclusion level) C d nonzero_d ρ → HasCharacteristic traces C parts
      of_newton c = of_parts (square_free_parts-mean C parts c.stands.kept monic_C is_parts)
        where
          monic_below : IsMonic (below level) c.polynomial_of
          monic_below = newton_polynomial-is_monic (below level) d nonzero_d ρ c.polynomial_of c.is_newton

          monic_C : IsMonic elements (polynomial C)
          monic_C = subst (IsMonic elements) c.stands.image (Mapped.monic-map (below level) elements (inclusion level) c.polynomial_of monic_below)

          of_parts : AreSquareFreeParts C parts → HasCharacteristic traces C parts
          of_parts k =
              let over = over_all level parts k.kept (parts-within level traces C parts rational is_C is_parts) in
              record {
                rho = ρ;
                traces_are = images;
                rho-equation = residue.equation;
                characteristic = c.polynomial_of;
                is_newton = c.is_newton;
                is_constant = Mapped.zero_of_map (below level) elements (inclusion level) (coefficientwise (below level) D c.polynomial_of)
                    (Below.included-coefficientwise tower level s.is_level c.polynomial_of ∙ ap (coefficientwise elements (derivation_in (monomials tower))) c.stands.image
                    ∙ rational-constant (monomials tower) C c.stands.kept (characteristic_polynomial-within 0 traces C rational is_C));
                parts_below = lift_all level (map polynomial parts) over;
                stand = lift_all-stand level parts k.kept (square_free_parts-within 0 C parts (characteristic_polynomial-within 0 traces C rational is_C) is_parts) over;
                product = Mapped.map-injective (below level) elements (inclusion level) c.polynomial_of (product_of_powers (below level) 1 (lift_all level (map polynomial parts) over))
                    (c.stands.image ∙ k.product
                    ∙ sym (Mapped.product_of_powers-map (below level) elements (inclusion level) 1 (lift_all level (map polynomial parts) over) ∙ ap (product_of_powers elements 1) (Below.included-lift_all level (map polynomial parts) over)));
                are_parts = Below.lift-are_parts level (map polynomial parts) over k.are_parts;
              }
