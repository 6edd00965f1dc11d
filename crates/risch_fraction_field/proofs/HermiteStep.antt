-- One step of Hermite's reduction: from j·(b·(u·D(v)) + c·v) = -a it is a/(u·v^(j+1)) = D(b/v^j) + (-(j·c) - u·D(b))/(u·v^j).
use Rattle.std.specs.Prelude.{◌≡◌, ℕ, suc}
use Rattle.std.proofs.Common.{sym, ap, ap₂, ◌∙◌}
use Rattle.risch_ring.specs.CommRing.{CommRing, Field, Derivation, of_nat, sub}
use Rattle.risch_univariate.specs.Polynomial.{Polynomial}
use Rattle.risch_univariate.proofs.Degree as Degree
use Rattle.risch_univariate.proofs.Multiplicity as Multiplicity
use Rattle.risch_fraction_field.specs.Fraction.{Fraction, Represents}
use Rattle.risch_fraction_field.specs.FractionDerivation.{fraction_derivation, represents-derive}
use Rattle.risch_ring.proofs.Laws as Laws
use Rattle.risch_univariate.proofs.QuotientIdentities as QuotientIdentities
use Rattle.risch_ring.proofs.Derivations as Derivations
use Rattle.risch_ring.specs.Operators.{operators}
use Rattle.risch_univariate.specs.PolynomialRing.{polynomials}
use Rattle.risch_fraction_field.specs.Representation.{represents-add}
use Rattle.risch_fraction_field.specs.FractionLaws.{represents_unique}
use Rattle.risch_fraction_field.specs.FractionField.{fractions}

module _ {A : Type 0} (F : Field A) (D : Derivation (polynomials F)) where
  abbrev R : CommRing (Polynomial F)
  R = polynomials F

  abbrev K : Field (Fraction F)
  K = fractions F

  open (operators R) use {𝟘, 𝟙, ◌+◌, ◌*◌, -◌, ◌^◌}

  -- j = i + 1
  pub hermite_step : (f g h : Fraction F) (a b c u v : Polynomial F) (i : ℕ) → ¬ (u ≡ 𝟘) → ¬ (v ≡ 𝟘)
      → of_nat R (suc i) * (b * (u * D.derive v) + c * v) ≡ - a
      → Represents F f a (u * v ^ suc (suc i))
      → Represents F g b (v ^ suc i)
      → Represents F h (sub R (- (of_nat R (suc i) * c)) (u * D.derive b)) (u * v ^ suc i)
      → f ≡ K.add ((fraction_derivation F D).derive g) h
  hermite_step f g h a b c u v i nu nv equation rf rg rh = represents_unique F f _ _ _ _ _
      (Degree.mul_polynomials-nonzero F u (v ^ suc (suc i)) nu (Multiplicity.power-nonzero F v (suc (suc i)) nv))
      (Degree.mul_polynomials-nonzero F (v ^ suc i * v ^ suc i) (u * v ^ suc i) (Degree.mul_polynomials-nonzero F (v ^ suc i) (v ^ suc i) power power)
      (Degree.mul_polynomials-nonzero F u (v ^ suc i) nu power))
      rf
      (represents-add F ((fraction_derivation F D).derive g) h _ _ _ _ (represents-derive F D g b (v ^ suc i) rg) rh)
      (cross
      ∙ ap (λ z. ((D.derive b * v ^ suc i + - (b * z)) * (u * v ^ suc i) + sub R (- (of_nat R (suc i) * c)) (u * D.derive b) * (v ^ suc i * v ^ suc i)) * (u * v ^ suc (suc i)))
      (sym (Derivations.derive-power D v i ∙ R.mul_assoc (of_nat R (suc i)) (v ^ i) (D.derive v))))
    where
      power : ¬ (v ^ suc i ≡ 𝟘)
      power = Multiplicity.power-nonzero F v (suc i) nv

      cross : a * (v ^ suc i * v ^ suc i * (u * v ^ suc i))
          ≡ ((D.derive b * v ^ suc i + - (b * (of_nat R (suc i) * (v ^ i * D.derive v)))) * (u * v ^ suc i) + sub R (- (of_nat R (suc i) * c)) (u * D.derive b) * (v ^ suc i * v ^ suc i))
          * (u * v ^ suc (suc i))
      cross =
          ap (λ x. a * (x * x * (u * x))) (Laws.power-suc R v i)
          ∙ QuotientIdentities.hermite_identity R a b c u v (v ^ i) (D.derive b) (D.derive v) (of_nat R (suc i)) equation
          ∙ ap₂ (λ x y. ((D.derive b * x + - (b * (of_nat R (suc i) * (v ^ i * D.derive v)))) * (u * x) + sub R (- (of_nat R (suc i) * c)) (u * D.derive b) * (x * x)) * (u * y))
          (sym (Laws.power-suc R v i)) (sym (Laws.power-suc R v (suc i) ∙ ap (R.mul v) (Laws.power-suc R v i)))
