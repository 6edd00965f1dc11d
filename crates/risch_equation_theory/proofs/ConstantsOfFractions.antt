-- The premises follow from 'an element of K(t) with derivative 0 lies in K'.
use Rattle.std.specs.Prelude.{◌≡◌, ℕ, suc, [], ◌∷◌}
use Rattle.std.proofs.Common.{refl, sym, ap, ap₂, ◌∙◌}
use Rattle.risch_ring.specs.CommRing.{CommRing, Field, Derivation, power, of_nat}
use Rattle.risch_ring.proofs.Laws as Laws
use Rattle.risch_ring.proofs.Derivations as Derivations
use Rattle.risch_ring.proofs.Expression.{reading_symbolic}
use Rattle.risch_ring.proofs.Solver.{ring, linear}
use Rattle.risch_univariate.specs.Polynomial.{Polynomial, coefficient, constant, variable}
use Rattle.risch_ring.proofs.FieldLaws as FieldLaws
use Rattle.risch_univariate.proofs.Degree as Degree
use Rattle.risch_univariate.proofs.Derivation as Derivation
use Rattle.risch_fraction_field.specs.Fraction.{of_polynomial}
use Rattle.risch_fraction_field.specs.FractionDerivation.{fraction_derivation-polynomial}
use Rattle.risch_equation_theory.proofs.Monomials as Monomials
use Rattle.risch_equation_theory.proofs.TopCoefficient as TopCoefficient
use Rattle.risch_univariate.specs.PolynomialRing.{polynomials}
use Rattle.risch_univariate.proofs.Coefficients.{coefficient-add, coefficient-constant-suc}
use Rattle.risch_fraction_field.specs.Representation.{of_polynomial-injective, of_polynomial-zero}
use Rattle.risch_equation_theory.specs.Constants.{IsSoundPrimitive, IsSoundExponential, HasConstantsBelow}

module _ {A : Type 0} (F : Field A) where
  abbrev R : CommRing (Polynomial F)
  R = polynomials F

  -- then a polynomial with derivative 0 has no coefficient but that at 0
  coefficient-zero_of_constant : (D : Derivation R) → HasConstantsBelow F D → (p : Polynomial F) → D.derive p ≡ R.zero → (i : ℕ) → coefficient F p (suc i) ≡ F.zero
  coefficient-zero_of_constant D h p e i =
      let c = h (of_polynomial F p) (fraction_derivation-polynomial F D p ∙ ap (of_polynomial F) e ∙ of_polynomial-zero F) in
      ap (λ z. coefficient F z (suc i)) (of_polynomial-injective F p (constant F c.value) c.equation) ∙ coefficient-constant-suc F c.value i

  module _ (D : Derivation F.ring) (η : A) where
    -- t - u has the derivative η - D(u)
    pub sound-primitive : HasConstantsBelow F (Derivation.derivation F D (constant F η)) → IsSoundPrimitive F D η
    sound-primitive h = record { no_integral = λ u e. F.one-ne-zero (sym (at_one u) ∙ coefficient-zero_of_constant (Derivation.derivation F D (constant F η)) h (R.add (variable F) (constant F (F.neg u))) (vanishes u e) 0) }
      where
        vanishes : (u : A) → D.derive u ≡ η → Derivation.derive_polynomial F D (constant F η) (R.add (variable F) (constant F (F.neg u))) ≡ R.zero
        vanishes u e =
            Derivation.derive_polynomial-add F D (constant F η) (variable F) (constant F (F.neg u))
            ∙ ap₂ R.add (Derivation.derive_polynomial-variable F D (constant F η)) (Derivation.derive_polynomial-constant F D (constant F η) (F.neg u) ∙ ap (constant F) (Derivations.derive-neg D u ∙ ap F.neg e))
            ∙ sym (Degree.constant-add F η (F.neg η)) ∙ ap (constant F) (F.add-neg η) ∙ Degree.constant-zero F

        at_one : (u : A) → coefficient F (R.add (variable F) (constant F (F.neg u))) 1 ≡ F.one
        at_one u =
            coefficient-add F (variable F) (constant F (F.neg u)) 1
            ∙ ap₂ F.add (ap (λ z. coefficient F z 1) (sym (Laws.power-one R (variable F)) ∙ Monomials.power-monomial F 1) ∙ Monomials.coefficient-monomial F F.one 1) (coefficient-constant-suc F (F.neg u) 0)
            ∙ F.add-zero F.one

    -- t^n/y has the derivative (n·η - D(y)/y)·t^n/y
    pub sound-exponential : HasConstantsBelow F (Derivation.derivation F D (R.mul (constant F η) (variable F))) → IsSoundExponential F D η
    sound-exponential h = record {
      no_power = λ y j ny e. FieldLaws.inverse-nonzero F y ny
          (sym (Monomials.coefficient-monomial F (F.inverse y) (suc j))
          ∙ coefficient-zero_of_constant (Derivation.derivation F D (R.mul (constant F η) (variable F))) h (Monomials.monomial F (F.inverse y) (suc j))
          (TopCoefficient.derive-monomial-exponential F D η (F.inverse y) (suc j)
          ∙ ap (λ z. Monomials.monomial F z (suc j)) (cancels y (of_nat F.ring (suc j)) ny e) ∙ zero_monomial (suc j)) j);
    }
      where
        zero_monomial : (m : ℕ) → Monomials.monomial F F.zero m ≡ R.zero
        zero_monomial m = Monomials.monomial_is F F.zero m ∙ ap (R.mul (power R (variable F) m)) (Degree.constant-zero F) ∙ Laws.mul-zero R _

        solve : (y i y' i' n : A) → F.mul y i ≡ F.one → F.add (F.mul y' i) (F.mul y i') ≡ F.zero → y' ≡ F.mul (F.mul n η) y → F.add i' (F.mul η (F.mul n i)) ≡ F.zero
        solve y i y' i' n yi d e =
            linear F.ring i d (linear F.ring (F.neg (F.mul i i)) e (linear F.ring (F.neg (F.add i' (F.mul (F.mul η n) i))) yi
            (ring F.ring (y ∷ i ∷ y' ∷ i' ∷ n ∷ η ∷ []) (search reading_symbolic depth 40 fits 9000) refl)))

        cancels : (y n : A) → ¬ (y ≡ F.zero) → D.derive y ≡ F.mul (F.mul n η) y → F.add (D.derive (F.inverse y)) (F.mul η (F.mul n (F.inverse y))) ≡ F.zero
        cancels y n ny e = solve y (F.inverse y) (D.derive y) (D.derive (F.inverse y)) n (F.mul-inverse y ny)
            (sym (D.derive-mul y (F.inverse y)) ∙ ap D.derive (F.mul-inverse y ny) ∙ Derivations.derive-one D) e
