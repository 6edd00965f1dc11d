-- Fields of characteristic 0 with a derivation, and the step of a tower: K becomes K(t) with a given Dt in K[t].
use Rattle.std.specs.Prelude.{◌≡◌}
use Rattle.std.proofs.Common.{ap, ◌∙◌}
use Rattle.risch_ring.specs.CommRing.{Field, RingMap, Derivation, HasCharacteristicZero}
use Rattle.risch_univariate.specs.Polynomial.{Polynomial, constant, variable}
use Rattle.risch_univariate.proofs.Derivation as Derivation
use Rattle.risch_fraction_field.specs.Fraction.{Fraction, of_polynomial}
use Rattle.risch_fraction_field.specs.FractionDerivation.{fraction_derivation, fraction_derivation-polynomial}
use Rattle.risch_ring.proofs.RingMaps.{compose}
use Rattle.risch_univariate.proofs.Evaluation.{constants}
use Rattle.risch_ring.proofs.RingMaps as RingMaps
use Rattle.risch_fraction_field.specs.Representation.{polynomial_map-apply}
use Rattle.risch_fraction_field.specs.FractionField.{fractions, polynomial_map}

-- a field of characteristic 0 with a derivation
pub record DifferentialField : Type 1 where
  pub carrier : Type 0
  pub field : Field carrier
  pub characteristic : HasCharacteristicZero field.ring
  pub derivation : Derivation field.ring

-- K → K(t)
abbrev pub constant_fraction : {A : Type 0} (F : Field A) → RingMap F.ring (fractions F).ring
constant_fraction F = compose (polynomial_map F) (constants F)

-- K(t) with D on K and Dt = w
pub adjoin : (K : DifferentialField) → Polynomial K.field → DifferentialField
adjoin K w = record {
  carrier = Fraction K.field;
  field = fractions K.field;
  characteristic = RingMaps.apply-characteristic K.field (fractions K.field) (constant_fraction K.field) K.characteristic;
  derivation = fraction_derivation K.field (Derivation.derivation K.field K.derivation w);
}

-- a in K(t) is a/1
pub constant_fraction-apply : {A : Type 0} (F : Field A) (a : A) → (constant_fraction F).apply a ≡ of_polynomial F (constant F a)
constant_fraction-apply F a = polynomial_map-apply F (constant F a)

-- D(a) in K(t) is D(a) in K
pub adjoin-constant : (K : DifferentialField) (w : Polynomial K.field) (a : K.carrier)
    → (fraction_derivation K.field (Derivation.derivation K.field K.derivation w)).derive (of_polynomial K.field (constant K.field a))
    ≡ of_polynomial K.field (constant K.field (K.derivation.derive a))
adjoin-constant K w a =
    fraction_derivation-polynomial K.field (Derivation.derivation K.field K.derivation w) (constant K.field a)
    ∙ ap (of_polynomial K.field) (Derivation.derive_polynomial-constant K.field K.derivation w a)

-- Dt = w
pub adjoin-variable : (K : DifferentialField) (w : Polynomial K.field)
    → (fraction_derivation K.field (Derivation.derivation K.field K.derivation w)).derive (of_polynomial K.field (variable K.field)) ≡ of_polynomial K.field w
adjoin-variable K w =
    fraction_derivation-polynomial K.field (Derivation.derivation K.field K.derivation w) (variable K.field)
    ∙ ap (of_polynomial K.field) (Derivation.derive_polynomial-variable K.field K.derivation w)
